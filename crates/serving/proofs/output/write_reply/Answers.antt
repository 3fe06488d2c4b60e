use Rattle.std.proofs.lemmas.Result.{err_from_is_err_and}
use Rattle.serving.proofs.OutputLemmas.{breaks_first, in_turn}
use Rattle.serving.proofs.output.write_reply.Goals as goal

pub returns-in_err-write_rest : goal.returns-in_err-write_rest
returns-in_err-write_rest g c =
    let ended = err_from_is_err_and c.from_residual.result c.from_residual.ensures.1 in
    let (rest, bytes) = c.parts-rest.result in
    rw ended.1 (breaks_first (g.O.Output.stream c.args.output.now) (g.O.Output.stream c.write_rest.new.output) rest bytes.now c.args.reply.now c.parts-rest.ensures c.in_err-write_rest.ensures)

pub returns : goal.returns
returns g c =
    let (rest, bytes) = c.parts-rest.result in
    let (first, none) = c.in_ok-write_rest.ensures in
    in_turn c.write_all.result (g.O.Output.stream c.args.output.now) (g.O.Output.stream c.write_rest.new.output) (g.O.Output.stream c.write_all.new.output) rest bytes.now c.args.reply.now
    c.parts-rest.ensures first none c.write_all.ensures
