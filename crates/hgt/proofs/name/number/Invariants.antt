use Rattle.std.proofs.Common.{◌≡◌, ◌<◌, take, All}
use Rattle.std.specs.Char.{IsAsciiDigit}
use Rattle.hgt.specs.Names.{decimal}
use Rattle.hgt.proofs.name.number.Given as goal

abbrev pub invariant-loop-digit : goal.invariant-loop-digit
invariant-loop-digit l = record {
  digits : All IsAsciiDigit (take l.digit-index l.digits);
  value : l.value ≡ decimal (take l.digit-index l.digits);
  none : l.digit-index < 1 → l.value < 1;
  one : l.digit-index < 2 → l.value < 10;
  two : l.digit-index < 3 → l.value < 100;
  three : l.value < 1000;
}
