use Rattle.server.proofs.ProgramLemmas.{ends_failed}
use Rattle.server.proofs.exit.end_session.Goals as goal

pub returns-in-Err : goal.returns-in-Err
returns-in-Err g c = rw c.in-Err.is (λ caused.
    ends_failed c.in-Err.fault (g.O.Output.stream c.args.writer.now) (g.O.Output.stream c.end_fault.new.writer) c.end_fault.result
    c.end_fault.ensures.status c.end_fault.ensures.line caused)
