use Rattle.serving.proofs.OutputLemmas.{puts}
use Rattle.serving.proofs.output.Output.put.Goals as goal

pub returns : goal.returns
returns g c =
    puts c.write_all.result c.flush.result (g.Self.Output.stream c.args.self.now) (g.Self.Output.stream c.write_all.new.output) (g.Self.Output.stream c.flush.new.self) c.args.text.now c.write_all.ensures c.flush.ensures
