-- What a call that reads samples says about them when it succeeds or is refused.
use Rattle.std.specs.Prelude.{Ok, Err, IsTrue, refl}
use Rattle.lattice.specs.declared.refusal.Refusal.{Refusal}
use Rattle.lattice.specs.declared.refusal.Refusal.TheVariants.{NoMemory}
use Rattle.catalogue.specs.Asked.{Asked}
use Rattle.catalogue.specs.Endings.{ends_any}
use Rattle.catalogue.specs.Readers.{OnlyReads}
use Rattle.catalogue.specs.declared.samples.Samples.{Ghosts}
use Rattle.catalogue.proofs.Asking.{asked, asked_on}

module _ {S : Type 0} (g : Ghosts S) (a b : S) where
  -- no read was refused
  abbrev pub AreRead : Type 0
  AreRead = OnlyReads {T = Unit {0}} g a b (Ok tt)

  -- the call was refused with r
  pub record IsStopped (r : Refusal) : Type 0 where
    pub cause : IsTrue (ends_any r)
    pub asked : Asked {T = Unit {0}} g a b (Err r)

  pub ran_out : AreRead → IsStopped NoMemory
  ran_out reads = record { cause = refl; asked = asked g a b tt (Err NoMemory) reads tt (λ _ _ e. absurd (cc)) }

pub stopped_on : {S : Type 0} (g : Ghosts S) → ((x y z : S) → g.keeps x y → g.keeps y z → g.keeps x z) → (a b c : S) (r : Refusal) → AreRead g a b → IsStopped g b c r → IsStopped g a c r
stopped_on g keeps_on a b c r reads then_ = record { cause = then_.cause; asked = asked_on g keeps_on a b c tt (Err r) reads then_.asked }
