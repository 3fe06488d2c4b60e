-- That the cache stays right while samples are read, and how the query over it ends.
use Rattle.drainage.proofs.Prelude.{Asked, DrainageCache, Err, Ghosts, IfErr, IsHeldFor, IsHeldOf, Mosaic, Ok, OnOk, OnlyReads, Refusal, Result, asked_passed, subst, sym}
use Rattle.drainage.specs.Following.{AreRead, IsStopped}
use Rattle.catalogue.proofs.Questioned.{answered}

module _ {S : Type 0} (g : Ghosts S) (a b : S) where
  -- a cache that was right for the samples is right after reads, whether they succeed or are refused
  pub held_still : {T : Type 0} (result : Result T Refusal) (held : DrainageCache) → OnlyReads g a b result → IsHeldFor g a held → IsHeldFor g b held
  held_still result held reads right honest = subst (λ (m : Mosaic). IsHeldOf m held) (sym (reads.mosaic honest)) (right (reads.honest honest))

  -- the outcome of the query, from the outcome of the calls over levels
  pub asked_by : {T : Type 0} (result : Result T Refusal) → OnOk result (AreRead g a b) → IfErr result (IsStopped g a b) → Asked g a b result
  asked_by (Ok x) reads stopped = answered g a b x reads
  asked_by (Err r) reads stopped = asked_passed g a b r stopped.asked
