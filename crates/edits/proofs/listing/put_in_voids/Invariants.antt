use Rattle.edits.proofs.Prelude.{[], is_void_among}
use Rattle.edits.proofs.Plans.VoidsPut.{ArePut}
use Rattle.edits.proofs.listing.put_in_voids.Given as goal

abbrev pub invariant-loop-k : goal.invariant-loop-k
invariant-loop-k g l = ArePut g.S.Samples (λ m. is_void_among m l.fn.from l.fn.to l.points.columns l.k) l.sample l.fn.samples l.samples [] l.changes.items
