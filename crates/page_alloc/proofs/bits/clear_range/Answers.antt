use Rattle.std.proofs.Common.{◌≡◌, ℕ, ◌+◌, inl, inr, ap, ◌∙◌, arith, false, eqb}
use Rattle.std.specs.Prelude.{not, ◌&&◌}
use Rattle.std.proofs.lemmas.Bool.{and_left, and_right, cases_eq, eq-eqb, ne_eqb}
use Rattle.page_alloc.specs.Bits.{has_bit}
use Rattle.page_alloc.proofs.bits.clear_range.Goals as goal

pub loop-bit-preserved : goal.loop-bit-preserved
loop-bit-preserved c =
    let so = c.loop-bit.invariant in
    let old = c.loop-bit.words in
    let bit = c.loop-bit.bit in
    let first = c.loop-bit.auto.bit in
    let other : (q : ℕ) → (q ≡ bit → ⊥) → has_bit c.clear.new.words q ≡ has_bit old q = λ q apart. c.clear.ensures q ∙ ap (λ b. not b && has_bit old q) (ne_eqb q bit apart) in
    record {
      cleared = λ q from below. elim (cases_eq q bit) [
        | inl here ↦ c.clear.ensures q ∙ and_left (not (eqb q bit)) (has_bit old q) (ap not (eq-eqb q bit here))
        | inr apart ↦ other q apart ∙ so.cleared q from (omega arith)
      ];
      below = λ q below. other q (λ e. omega arith) ∙ so.below q below;
      above = λ q above. other q (λ e. omega arith) ∙ so.above q (omega arith);
    }
