-- The refusals that may end any call that reads samples (defined by this product).
use Rattle.std.specs.Prelude.{Bool, true, false}
use Rattle.lattice.specs.declared.refusal.Refusal.{Refusal}
use Rattle.lattice.specs.declared.refusal.Refusal.TheVariants.{Device, NoMemory, Failed, Damaged}

-- NoMemory, or the refusal of a read
abbrev pub ends_any : Refusal → Bool
ends_any NoMemory = true
ends_any Device = true
ends_any Failed = true
ends_any Damaged = true
ends_any _ = false
