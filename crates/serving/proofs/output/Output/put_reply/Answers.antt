use Rattle.serving.proofs.OutputLemmas.{puts}
use Rattle.serving.proofs.output.Output.put_reply.Goals as goal

pub returns : goal.returns
returns g c =
    puts c.write_reply.result c.flush.result (g.Self.Output.stream c.args.self.now) (g.Self.Output.stream c.write_reply.new.output) (g.Self.Output.stream c.flush.new.self) c.args.reply.now c.write_reply.ensures c.flush.ensures
