use Rattle.std.proofs.Common.{inl, inr, refl}
use Rattle.std.proofs.lemmas.Bool.{both_ways}
use Rattle.serving.specs.Outputs.{HasFailed}
use Rattle.serving.proofs.OutputLemmas.{none_failed, put_whole}
use Rattle.server.proofs.exit.end_writing.Goals as goal

pub returns-then-has_failed : goal.returns-then-has_failed
returns-then-has_failed g c was text put =
    let mid = g.O.Output.stream c.args.writer.now in
    inr (mid, put, c.has_failed.ensures.0 c.if-has_failed.true, c.end_fault.ensures.line, c.end_fault.ensures.status)

pub returns : goal.returns
returns g c was text put =
    let mid = g.O.Output.stream c.args.writer.now in
    let none : HasFailed mid → ⊥ = λ failed. both_ways c.has_failed.result c.if-has_failed.false (c.has_failed.ensures.1 failed) in
    inl (put_whole was mid text put none, none_failed mid none, refl)
