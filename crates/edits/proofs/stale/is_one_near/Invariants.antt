use Rattle.edits.proofs.Prelude.{NewHeight, are_neighbours, false, holds, list_any, take, ◌&&◌, ◌≡◌}
use Rattle.edits.proofs.stale.is_one_near.Given as goal

abbrev pub invariant-loop-height : goal.invariant-loop-height
invariant-loop-height g l =
    list_any (λ (h : NewHeight). list_any (λ c. holds (g.S.Samples.side_of l.samples) c h.point && are_neighbours c l.corner) (g.S.Samples.corners l.samples)) (take l.height-index l.heights) ≡ false
