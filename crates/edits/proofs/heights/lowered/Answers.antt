use Rattle.edits.proofs.Prelude.{ℤ, and_from, arith, ints, is_depth, of_z, pos, to_z, to_z-of_z, true, ◌≡◌}
use Rattle.std.specs.Prelude.{nat_abs, int_le, ◌≤ℤ◌}
use mir.Syntax.{w32}
use Rattle.edits.proofs.NewHeights.{burn_made}
use Rattle.edits.proofs.heights.lowered.Goals as goal

whole : (z v : ℤ) → int_le (pos 1) z ≡ true → v ≡ z → z ≡ pos (nat_abs v)
whole z v low same = let positive : pos 1 ≤ℤ z = grind (arith, ints) in omega (arith, ints)

pub returns-clause-made : goal.returns-clause-made
returns-clause-made g c = λ capacity honest.
    let depth = c.args.depth in
    let low : int_le (pos 1) depth ≡ true = grind (arith, ints) in
    let high : int_le depth (pos 32767) ≡ true = grind (arith, ints) in
    let in_range : is_depth depth ≡ true = and_from (int_le (pos 1) depth) (int_le depth (pos 32767)) low high in
    let kept : to_z w32 (of_z w32 depth) ≡ depth = to_z-of_z w32 depth c.ranges.depth in
    burn_made capacity (g.S.Samples.mosaic c.args.samples.now) depth (nat_abs (to_z w32 (of_z w32 depth))) c.args.points.now c.new_heights.result in_range
    (whole depth (to_z w32 (of_z w32 depth)) low kept) (c.new_heights.ensures.made honest)
