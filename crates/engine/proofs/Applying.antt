-- The answers to a command in a state.
use Rattle.std.proofs.Common.{◌≡◌, ◌⊎◌, inl, inr, ℕ, ◌<◌, Bool, true, false, IsTrue, IsFalse, refl, ap, ◌∙◌}
use Rattle.std.specs.Prelude.{Ok, Err, Some, None, if◌then◌else◌}
use Rattle.std.proofs.lemmas.Bool.{or_cases, both_ways, lt-ltb}
use Rattle.lattice.specs.Mosaic.{Mosaic}
use Rattle.lattice.specs.declared.refusal.Refusal.{Refusal}
use Rattle.lattice.specs.declared.refusal.Refusal.TheVariants.{Device, NoMemory, Failed, Damaged, Worn}
use Rattle.edits.specs.declared.command.Command.{Command}
use Rattle.edits.specs.declared.command.Command.TheVariants.{Import, Remove, Patch, Burn, Wall, Sink, Unsink}
use Rattle.edits.specs.Effect.{effect}
use Rattle.catalogue.specs.Readers.{reads_of}
use Rattle.catalogue.specs.Endings.{ends_any}
use Rattle.edits.specs.Plans.{is_own, may_end}
use Rattle.engine.specs.State.{Contents, State, last_number, made_by, would_make, in_doubt, failing}
use Rattle.engine.specs.Outcomes.{AppliesNot}

not_worn : (c : Command) → IsTrue (may_end c Worn) → ⊥
not_worn (Import c bytes) e = both_ways false refl e
not_worn (Remove c) e = both_ways false refl e
not_worn (Patch from to h) e = both_ways false refl e
not_worn (Burn depth points) e = both_ways false refl e
not_worn (Wall h points) e = both_ways false refl e
not_worn (Sink p) e = both_ways false refl e
not_worn (Unsink p) e = both_ways false refl e

own_from : (c : Command) (r : Refusal) → ends_any r ≡ false → IsTrue (may_end c r) → IsTrue (is_own c r)
own_from c r other e = by (or_cases (is_own c r) (ends_any r) e)
  where
    by : (is_own c r ≡ true) ⊎ (ends_any r ≡ true) → IsTrue (is_own c r)
    by (inl own) = own
    by (inr ends) = absurd (both_ways (ends_any r) other ends)

-- Planning was refused, and not by a read.
pub plan_refused : (capacity : ℕ) (s : State) (c : Command) (r : Refusal) → IsFalse s.failed → IsTrue (may_end c r) → reads_of {T = Unit {0}} (Err r) ≡ Ok tt
    → (IsTrue (is_own c r) → effect capacity s.contents.mosaic c ≡ Err r) → AppliesNot capacity s c r s
plan_refused capacity s c Device working may read refused = cc
plan_refused capacity s c Failed working may read refused = cc
plan_refused capacity s c Damaged working may read refused = cc
plan_refused capacity s c NoMemory working may read refused = record { working = working; same = refl }
plan_refused capacity s c Worn working may read refused = absurd (not_worn c may)
plan_refused capacity s c r working may read refused =
    record { stays = record { working = working; same = refl }; refused = refused (own_from c r refl may) }

module _ (capacity : ℕ) (s : State) (c : Command) (working : IsFalse s.failed) where
  pub no_memory : AppliesNot capacity s c NoMemory s
  no_memory = record { working = working; same = refl }

  pub fails : AppliesNot capacity s c Device (failing s (in_doubt capacity s.contents c))
  fails = record { working = working; fails = refl }

-- The commit in doubt is the one of the command.
pub doubt_is : (capacity : ℕ) (was : Contents) (c : Command) (new : Mosaic) → was.number < last_number → effect capacity was.mosaic c ≡ Ok new → in_doubt capacity was c ≡ Some (made_by was c new)
doubt_is capacity was c new room makes = ap (λ (b : Bool). if b then would_make was c (effect capacity was.mosaic c) else None) (lt-ltb was.number last_number room) ∙ ap (would_make was c) makes
