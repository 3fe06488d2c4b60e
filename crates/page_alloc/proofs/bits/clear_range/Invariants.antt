use Rattle.std.proofs.Common.{◌≡◌, ℕ, ◌<◌, ◌≤◌, false}
use Rattle.page_alloc.specs.Bits.{has_bit}
use Rattle.page_alloc.proofs.bits.clear_range.Given as goal

abbrev pub invariant-loop-bit : goal.invariant-loop-bit
invariant-loop-bit l = record {
  cleared : (q : ℕ) → l.from ≤ q → q < l.bit → has_bit l.words q ≡ false;
  below : (q : ℕ) → q < l.from → has_bit l.words q ≡ has_bit l.initial.words q;
  above : (q : ℕ) → l.bit ≤ q → has_bit l.words q ≡ has_bit l.initial.words q;
}
