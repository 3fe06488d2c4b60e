use Rattle.flow_d8.proofs.Prelude.{ℕ, ap, arith, mod-mul-add, sym, ◌%◌, ◌*◌, ◌+◌, ◌-◌, ◌/◌, ◌<◌, ◌∙◌, ◌≡◌, ◌≤◌}
use Rattle.flow_d8.proofs.division.divide.Goals as goal

rest : (x d q : ℕ) → q * d ≤ x → x - q * d < d → x - q * d ≡ x % d
rest x d q le small =
    let parts : x ≡ q * d + (x - q * d) = omega arith in
    sym (ap (λ v. v % d) parts ∙ mod-mul-add q d (x - q * d) small)

pub returns-then-number-product-clause-remainder : goal.returns-then-number-product-clause-remainder
returns-then-number-product-clause-remainder c =
    rest c.args.number c.args.divisor (c.args.number * c.args.reciprocal % 18446744073709551616 / 1099511627776) c.if-product-number.true c.if-number-product.true
