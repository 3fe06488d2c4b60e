use Rattle.std.proofs.Common.{◌∙◌, sym}
use Rattle.border_graph.proofs.Forests.Sufficing.{summarizes_reordered}
use Rattle.levels.proofs.Caches.LoadingTiles.{some_there, told_more}
use Rattle.levels.proofs.rim_graph.RimGraph.learn.Goals as goal

pub returns-then-is_some-clause-loaded : goal.returns-then-is_some-clause-loaded
returns-then-is_some-clause-loaded c = some_there c.args.self.now.loaded.items c.args.t c.index.result.now c.requires.inside c.index.ensures (sym c.is_some.ensures ∙ c.if-is_some.true)

pub returns-clause-right : goal.returns-clause-right
returns-clause-right c m place summary loaded =
    let moved = c.in_ok-ways.ensures.summary in
    told_more c.args.self.now.side c.args.self.now.corners.items c.args.self.now.loaded.items c.args.t c.args.summary.corner c.in_ok-ways.ways c.requires.inside m place
    c.in_ok-ways.ensures.side (moved.corner ∙ c.in_ok-less.ensures.corner) (summarizes_reordered m c.in_ok-less.less c.in_ok-ways.ways.summary moved (c.in_ok-less.ensures.right m summary)) loaded
