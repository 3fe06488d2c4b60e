use Rattle.std.proofs.Common.{◌≡◌, ◌∙◌, ◌&&◌, true, pos, ◌+ℤ◌, ◌-ℤ◌, int_le, w64, to_z, of_z, sym, ap, ap₂, arith}
use Rattle.levels.proofs.Prelude.{ints, le_from, le_true}
use Rattle.levels.proofs.affected_tiles.meets.Goals as goal

pub returns-then-value-from : goal.returns-then-value-from
returns-then-value-from c =
    let from : to_z w64 (of_z w64 c.from-then-value-from.result) ≡ c.args.from = omega (arith, ints) in
    let last : to_z w64 (of_z w64 (to_z w64 (of_z w64 c.from-value.result) +ℤ to_z w64 (of_z w64 c.from-then-value-from-2.result))) ≡ c.args.value +ℤ pos c.args.after = omega (arith, ints) in
    let near = le_true (to_z w64 (of_z w64 (to_z w64 (of_z w64 c.from-value.result) -ℤ to_z w64 (of_z w64 c.from.result)))) (to_z w64 (of_z w64 c.from-2.result)) c.if-value-from.true in
    let low : int_le (c.args.value -ℤ pos c.args.before) c.args.to ≡ true = le_from (c.args.value -ℤ pos c.args.before) c.args.to (omega (arith, ints, near)) in
    ap₂ int_le from last ∙ sym (ap (λ b. b && int_le c.args.from (c.args.value +ℤ pos c.args.after)) low)
