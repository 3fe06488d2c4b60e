use Rattle.std.proofs.Common.{rules, arith, ◌≡◌, ◌+◌, ◌*◌, ◌<◌, length, sym, get_or, pos, to_z, of_z, w32, ap, ◌∙◌, ◌++◌, ◌∷◌, []}
use Rattle.lattice.specs.declared.point.Point.{Point}
use Rattle.lines.specs.Grammar.{coordinates}
use Rattle.lines.proofs.NumberLemmas.{coordinates-push, take_point}
use Rattle.lines.proofs.grammar.points.Goals as goal

pub loop-place-preserved : goal.loop-place-preserved
loop-place-preserved c =
    let ns = c.args.numbers.now in
    let i = c.loop-place.place in
    let y : to_z w32 (of_z w32 (get_or ns (2 * i) (pos 0))) ≡ get_or ns (2 * i) (pos 0) = search rules in
    let x : to_z w32 (of_z w32 (get_or ns (2 * i + 1) (pos 0))) ≡ get_or ns (2 * i + 1) (pos 0) = search rules in
    let within : 2 * i + 1 < length ns = omega (arith, c.loop-place-test.true) in
    let point : Point = record { y = get_or ns (2 * i) (pos 0); x = get_or ns (2 * i + 1) (pos 0) } in
    record {
      count = omega (arith, c.push.ensures.len, c.loop-place.invariant.count);
      points = ap coordinates c.push.ensures.items ∙ rw (y, x) (coordinates-push c.loop-place.points.items point)
          ∙ ap (λ l. l ++ (point.y ∷ point.x ∷ [])) c.loop-place.invariant.points ∙ sym (take_point ns i within);
    }
