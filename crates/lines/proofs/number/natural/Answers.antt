use Rattle.std.proofs.Common.{rules, arith, ◌≡◌, ◌≤◌, ◌^◌, ◌+◌, ◌*◌, take, get_or}
use Rattle.std.proofs.lemmas.Grind.{common_steps}
use Rattle.std.proofs.Math.Nat.{pow-le-pow_right}
use Rattle.std.proofs.lemmas.Int.Digits.{digits_more, digits_value_more}
use Rattle.std.proofs.lemmas.Str.{digit_value_digit}
use Rattle.std.proofs.lemmas.Str.Parse.{digit_at}
use Rattle.std.specs.Char.{digit_value}
use Rattle.std.specs.Str.Parse.{digits_value}
use Rattle.lines.proofs.number.natural.Goals as goal

pub returns-then-not-is_ascii_digit-clause-value : goal.returns-then-not-is_ascii_digit-clause-value
returns-then-not-is_ascii_digit-clause-value c = λ n nat.
    let digit = digit_at c.args.word.now c.loop-digit.digit-index nat.0.1 c.loop-digit-test.true in
    omega (arith, digit, c.if-not-is_ascii_digit.ensures.cases)

pub overflow_mul-value : goal.overflow_mul-value
overflow_mul-value c =
    let small : 10 ^ c.loop-digit.digit-index ≤ 10 ^ 8 = pow-le-pow_right {n = 10} (omega arith) {i = c.loop-digit.digit-index} {j = 8} (omega arith) in
    search rules

pub overflow_add-value : goal.overflow_add-value
overflow_add-value c =
    let small : 10 ^ c.loop-digit.digit-index ≤ 10 ^ 8 = pow-le-pow_right {n = 10} (omega arith) {i = c.loop-digit.digit-index} {j = 8} (omega arith) in
    let digit = c.if-not-is_ascii_digit.ensures.cases in
    search rules

pub loop-digit-preserved : goal.loop-digit-preserved
loop-digit-preserved c =
    let word = c.args.word.now in
    let i = c.loop-digit.digit-index in
    let digit = c.if-not-is_ascii_digit.ensures.cases in
    let same : digit_value (get_or word i 0) + 48 ≡ get_or word i 0 = digit_value_digit (get_or word i 0) digit in
    let more : digits_value 10 (take (i + 1) word) ≡ digits_value 10 (take i word) * 10 + digit_value (get_or word i 0) = digits_value_more 10 word i c.loop-digit-test.true in
    let next : 10 ^ (i + 1) ≡ 10 * 10 ^ i = grind (arith, common_steps) in
    record {
      bound = omega (arith, next, digit, c.from.ensures, c.loop-digit.invariant.bound);
      digits = digits_more 10 word i c.loop-digit-test.true c.loop-digit.invariant.digits (omega (arith, same, digit));
      value = omega (arith, more, same, c.from.ensures, c.loop-digit.invariant.value);
    }
