use Rattle.lattice.proofs.Prelude.{ArrayVec, List, Step, ap, arith, array_vec_len, directions, drop, reach_of, ◌++◌, ◌+◌, ◌∙◌}
use Rattle.lattice.specs.declared.direction.Dir.TheVariants.{East}
use Rattle.lattice.proofs.Reach.{taken, passed}
use Rattle.lattice.proofs.direction.steps.Goals as goal
use Rattle.lattice.proofs.direction.steps.Goals.{in-Some, in_default}

pub loop-direction-preserved : goal.loop-direction-preserved
loop-direction-preserved c =
    let i = c.loop-direction.direction-index in
    let point = c.args.point in
    let found = c.loop-direction.found.items in
    let so_far = c.loop-direction.invariant.whole in
    elim c.match-neighbour.branch [
      | in-Some w ↦ record {
        short = omega (arith, ap (λ (v : ArrayVec Step). array_vec_len v) w.found-is);
        whole = ap (λ (v : ArrayVec Step). v.items ++ reach_of point (drop (i + 1) directions)) w.found-is
            ∙ ap (λ (s : List Step). s ++ reach_of point (drop (i + 1) directions)) w.push.ensures.items
            ∙ taken point directions i East found (reach_of point directions) w.in-Some.to (omega arith) w.in-Some.ensures so_far;
      }
      | in_default w ↦ record {
        short = omega (arith, ap (λ (v : ArrayVec Step). array_vec_len v) w.found-is);
        whole = ap (λ (v : ArrayVec Step). v.items ++ reach_of point (drop (i + 1) directions)) w.found-is
            ∙ passed point directions i East found (reach_of point directions) (omega arith) w.in_default.ensures so_far;
      }
    ]
