use Rattle.flow_d8.proofs.Prelude.{arith, ◌*◌, ◌+◌}
use Rattle.std.proofs.lemmas.Nat.{shr-shr}
use Rattle.flow_d8.proofs.marks.with_mark.Goals as goal

pub returns-clause-here : goal.returns-clause-here
returns-clause-here c =
    let high = c.with_bit.ensures in
    omega (arith, high.here, high.others (2 * c.args.place) (omega arith) (λ same. omega arith), c.with_bit-low.ensures.here, shr-shr c.with_bit.result (2 * c.args.place) 1)

pub returns-clause-others : goal.returns-clause-others
returns-clause-others c i small other =
    let high = c.with_bit.ensures.others in
    let low = c.with_bit-low.ensures.others in
    grind (arith, high (2 * i), high (2 * i + 1), low (2 * i), low (2 * i + 1), shr-shr c.with_bit.result (2 * i) 1, shr-shr c.args.word (2 * i) 1)
