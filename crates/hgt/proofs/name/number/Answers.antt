use Rattle.std.proofs.Common.{◌≡◌, ◌+◌, ◌-◌, ◌*◌, ◌<◌, ℕ, take, get_or, length, arith, rules}
use Rattle.std.specs.Char.{IsAsciiDigit}
use Rattle.std.proofs.lemmas.List.Elements.{All-more}
use Rattle.std.proofs.lemmas.List.Sums.{fold_more}
use Rattle.hgt.specs.Names.{decimal}
use Rattle.hgt.proofs.name.number.Goals as goal

pub loop-digit-preserved : goal.loop-digit-preserved
loop-digit-preserved c =
    let digits = c.args.digits.now in
    let i = c.loop-digit.digit-index in
    let within : i < length digits = c.loop-digit-test.true in
    let digit : IsAsciiDigit (get_or digits i 0) = search rules in
    let before = c.loop-digit.invariant in
    let more : decimal (take (i + 1) digits) ≡ 10 * decimal (take i digits) + (get_or digits i 0 - 48) = fold_more (λ (value digit : ℕ). 10 * value + (digit - 48)) 0 digits i 0 within in
    record {
      digits = All-more IsAsciiDigit digits i 0 within before.digits digit;
      value = omega arith;
      none = λ h. omega arith;
      one = λ h. omega arith;
      two = λ h. omega arith;
      three = omega arith;
    }
