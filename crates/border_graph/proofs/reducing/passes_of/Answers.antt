use Rattle.border_graph.proofs.Prelude.{get_or, get_or_default, pos}
use Rattle.border_graph.proofs.Forests.Sufficing.{one_more_pass}
use Rattle.border_graph.proofs.reducing.passes_of.Goals as goal

pub loop-spill-preserved : goal.loop-spill-preserved
loop-spill-preserved c =
    let k = c.loop-spill.spill-index in
    one_more_pass c.args.size c.args.spills.now k c.loop-spill-test.true (get_or c.args.spills.now k (record { a = 0; b = 0; level = pos 0 }))
    (λ d. get_or_default c.args.spills.now k d (record { a = 0; b = 0; level = pos 0 }) c.loop-spill-test.true) c.loop-spill.passes.items c.add_pass.new.passes.items c.loop-spill.invariant c.in_ok-add_pass.ensures
