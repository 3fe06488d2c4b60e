use Rattle.std.proofs.Common.{ℤ, ap₂, arith, negsuc, of_z, pos, to_z, ◌*ℤ◌, ◌∙◌, ◌≡◌, ◌≤ℤ◌}
use mir.Syntax.{w64}
use Rattle.edits.proofs.Prelude.{ints}
use Rattle.lattice.proofs.Along.{first_within}
use Rattle.edits.proofs.steps.first_edge.Goals as goal

within : (c : goal.After-from-2) → (negsuc 117964799 ≤ℤ (c.args.corner *ℤ pos c.args.edge)) × ((c.args.corner *ℤ pos c.args.edge) ≤ℤ pos 117961200)
within c = first_within c.args.corner c.args.edge (omega (arith, ints)) (omega (arith, ints)) c.requires.edge

edge_is : (c : goal.After-from-2) → to_z w64 (of_z w64 (to_z w64 (of_z w64 c.from.result) *ℤ to_z w64 (of_z w64 c.from-2.result))) ≡ c.args.corner *ℤ pos c.args.edge
edge_is c =
    let corner : to_z w64 (of_z w64 c.from.result) ≡ c.args.corner = omega (arith, ints) in
    let edge : to_z w64 (of_z w64 c.from-2.result) ≡ pos c.args.edge = omega (arith, ints) in
    let both = within c in
    ap₂ (λ (a b : ℤ). to_z w64 (of_z w64 (a *ℤ b))) corner edge ∙ omega (arith, ints)

pub returns-clause-low : goal.returns-clause-low
returns-clause-low c =
    let is = edge_is c in
    let both = within c in
    omega (arith, ints)

pub returns-clause-high : goal.returns-clause-high
returns-clause-high c =
    let is = edge_is c in
    let both = within c in
    omega (arith, ints)
