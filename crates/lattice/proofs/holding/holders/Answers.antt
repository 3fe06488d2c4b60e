use Rattle.lattice.proofs.Prelude.{AllAdjacentBelow, ArrayVec, Contains, Corner, Holds, IsBefore, List, SFits, ap, arith, array_vec_len, drop, ints, length, of_z, pos, rules, subst, sym, to_z, to_z-of_z, w32, w64, ◌*ℤ◌, ◌++◌, ◌+ℤ◌, ◌+◌, ◌-ℤ◌, ◌-◌, ◌<ℤ◌, ◌↔◌, ◌∙◌, ◌≡◌, ◌≤ℤ◌, ◌≤◌}
use Rattle.lattice.proofs.Kept.{kept, around, crossing, crossing_is, taken, passed, all_kept, kept_exactly, kept_in_order}
use Rattle.lattice.proofs.holding.holders.Goals as goal
use Rattle.lattice.proofs.holding.holders.Goals.{in-Some, in_default}

pub loop-degrees-preserved : goal.loop-degrees-preserved
loop-degrees-preserved c =
    let i = c.loop-degrees.degrees-index in
    let side : 3 ≤ c.args.side = c.edge-edge.ensures.low in
    let lat = to_z w64 (of_z w64 c.degrees_below-north.result) in
    let lon = to_z w64 (of_z w64 c.degrees_below-east.result) in
    let cs = crossing (to_z w64 (of_z w64 (lat -ℤ pos 1))) lat (to_z w64 (of_z w64 (lon -ℤ pos 1))) lon in
    let found = c.loop-degrees.found.items in
    let so_far = c.loop-degrees.invariant.whole in
    elim c.match-holder_at.branch [
      | in-Some w ↦ record {
        short = omega (arith, ap (λ (v : ArrayVec Corner). array_vec_len v) w.found-is);
        whole = ap (λ (v : ArrayVec Corner). v.items ++ kept c.args.side c.args.point (drop (i + 1) cs)) w.found-is
            ∙ ap (λ (s : List Corner). s ++ kept c.args.side c.args.point (drop (i + 1) cs)) w.push.ensures.items
            ∙ taken c.args.side c.args.point cs i _ found (kept c.args.side c.args.point cs) w.in-Some.corner side (omega arith) w.in-Some.ensures so_far;
      }
      | in_default w ↦ record {
        short = omega (arith, ap (λ (v : ArrayVec Corner). array_vec_len v) w.found-is);
        whole = ap (λ (v : ArrayVec Corner). v.items ++ kept c.args.side c.args.point (drop (i + 1) cs)) w.found-is
            ∙ passed c.args.side c.args.point cs i _ found (kept c.args.side c.args.point cs) side (omega arith) w.in_default.ensures so_far;
      }
    ]

holders : (c : goal.After-loop-degrees) → c.loop-degrees.found.items ≡ kept c.args.side c.args.point (around c.degrees_below-north.result c.degrees_below-east.result)
holders c =
    let lat = to_z w64 (of_z w64 c.degrees_below-north.result) in
    let lon = to_z w64 (of_z w64 c.degrees_below-east.result) in
    let lat_is : lat ≡ c.degrees_below-north.result = omega (arith, ints) in
    let lon_is : lon ≡ c.degrees_below-east.result = omega (arith, ints) in
    let south_is : to_z w64 (of_z w64 (lat -ℤ pos 1)) ≡ c.degrees_below-north.result -ℤ pos 1 = omega (arith, ints) in
    let west_is : to_z w64 (of_z w64 (lon -ℤ pos 1)) ≡ c.degrees_below-east.result -ℤ pos 1 = omega (arith, ints) in
    let cs = crossing (to_z w64 (of_z w64 (lat -ℤ pos 1))) lat (to_z w64 (of_z w64 (lon -ℤ pos 1))) lon in
    all_kept c.args.side c.args.point cs c.loop-degrees.found.items c.loop-degrees.degrees-index c.loop-degrees-test.false c.loop-degrees.invariant.whole
    ∙ ap (kept c.args.side c.args.point) (crossing_is _ _ _ _ c.degrees_below-north.result c.degrees_below-east.result lat_is lon_is south_is west_is)

pub returns-clause-exactly : goal.returns-clause-exactly
returns-clause-exactly c =
    let y_fits : SFits w32 c.args.point.y = search rules in
    let x_fits : SFits w32 c.args.point.x = search rules in
    let y = to_z-of_z w32 c.args.point.y y_fits in
    let x = to_z-of_z w32 c.args.point.x x_fits in
    let edge : c.edge-edge.result ≡ c.args.side - 1 = c.edge-edge.ensures.value in
    let lat = c.degrees_below-north.result in
    let lon = c.degrees_below-east.result in
    let y_from : (lat *ℤ pos (c.args.side - 1)) ≤ℤ c.args.point.y = subst (λ m. (lat *ℤ pos m) ≤ℤ c.args.point.y) edge (subst (λ v. (lat *ℤ pos c.edge-edge.result) ≤ℤ v) y c.degrees_below-north.ensures.from) in
    let y_to : c.args.point.y <ℤ (lat *ℤ pos (c.args.side - 1) +ℤ pos (c.args.side - 1)) =
    subst (λ m. c.args.point.y <ℤ (lat *ℤ pos m +ℤ pos m)) edge (subst (λ v. v <ℤ (lat *ℤ pos c.edge-edge.result +ℤ pos c.edge-edge.result)) y c.degrees_below-north.ensures.to) in
    let x_from : (lon *ℤ pos (c.args.side - 1)) ≤ℤ c.args.point.x = subst (λ m. (lon *ℤ pos m) ≤ℤ c.args.point.x) edge (subst (λ v. (lon *ℤ pos c.edge-edge.result) ≤ℤ v) x c.degrees_below-east.ensures.from) in
    let x_to : c.args.point.x <ℤ (lon *ℤ pos (c.args.side - 1) +ℤ pos (c.args.side - 1)) =
    subst (λ m. c.args.point.x <ℤ (lon *ℤ pos m +ℤ pos m)) edge (subst (λ v. v <ℤ (lon *ℤ pos c.edge-edge.result +ℤ pos c.edge-edge.result)) x c.degrees_below-east.ensures.to) in
    λ k. subst (λ (found : List Corner). Contains found k ↔ Holds c.args.side k c.args.point) (sym (holders c))
    (kept_exactly c.args.side c.args.point lat lon c.edge-edge.ensures.low y_from y_to x_from x_to k)

pub returns-clause-in_order : goal.returns-clause-in_order
returns-clause-in_order c =
    subst (λ (found : List Corner). AllAdjacentBelow IsBefore found (length found)) (sym (holders c))
    (kept_in_order c.args.side c.args.point c.degrees_below-north.result c.degrees_below-east.result)
