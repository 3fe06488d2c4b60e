use Rattle.stored_mosaic.proofs.Prelude.{RimVoids, false, is_listed, map, take, ◌≡◌}
use Rattle.stored_mosaic.proofs.voids.rim_of.Given as goal

abbrev pub invariant-loop-rim : goal.invariant-loop-rim
invariant-loop-rim l = is_listed l.corner (map (λ (r : RimVoids). r.corner) (take l.rim-index l.rims)) ≡ false
