use Rattle.catalogue.proofs.Prelude.{drop, filter, is_first, is_present, present_holders, ◌≡◌}
use Rattle.catalogue.proofs.seams_between.is_first_holder.Given as goal

abbrev pub invariant-loop-holder : goal.invariant-loop-holder
invariant-loop-holder g l =
    g.S.Samples.is_honest l.samples
    → is_first l.corner (present_holders (g.S.Samples.mosaic l.samples) l.fn.point)
    ≡ is_first l.corner (filter (λ c. is_present (g.S.Samples.mosaic l.samples) c) (drop l.holder-index l.holder-items))
