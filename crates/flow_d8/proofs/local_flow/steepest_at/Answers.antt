use Rattle.flow_d8.proofs.Prelude.{of_z, sym, to_z, to_z-of_z, w16, ◌∙◌, ◌≡◌}
use Rattle.lattice.specs.declared.direction.Dir.TheVariants.{East, SouthEast, South, SouthWest, West, NorthWest, North, NorthEast}
use Rattle.water.proofs.SteepestStep.{begun}
use Rattle.flow_d8.proofs.local_flow.steepest_at.Goals as goal

pub returns : goal.returns
returns c t level p levelled here around =
    let height_is : level p ≡ to_z w16 (of_z w16 c.at-height.result) = here ∙ sym c.at-height.ensures ∙ sym (to_z-of_z w16 c.at-height.result (record { sfits = c.at-height.type_inv })) in
    let b1 = c.better-best.ensures t level p levelled (around East) height_is (begun t level p East) in
    let b2 = c.better-best-2.ensures t level p levelled (around SouthEast) height_is b1 in
    let b3 = c.better-best-3.ensures t level p levelled (around South) height_is b2 in
    let b4 = c.better-best-4.ensures t level p levelled (around SouthWest) height_is b3 in
    let b5 = c.better-best-5.ensures t level p levelled (around West) height_is b4 in
    let b6 = c.better-best-6.ensures t level p levelled (around NorthWest) height_is b5 in
    let b7 = c.better-best-7.ensures t level p levelled (around North) height_is b6 in
    c.better.ensures t level p levelled (around NorthEast) height_is b7
