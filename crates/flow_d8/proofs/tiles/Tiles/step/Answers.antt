use Rattle.std.proofs.Common.{sym, ◌∙◌}
use Rattle.flow_d8.proofs.Samples.DeepSteps.{deep_by, deep_inner_at, deep_first}
use Rattle.flow_d8.proofs.tiles.Tiles.step.Goals as goal

pub returns-then-deep-clause-value : goal.returns-then-deep-clause-value
returns-then-deep-clause-value c =
    let t = c.args.self.now in
    let deep = c.requires.deep c.if-deep.true in
    let inner = deep_inner_at t c.side-valid.ensures.valid c.args.k c.requires.k deep in
    sym (c.requires.stride.at c.args.k inner.before) ∙ sym (deep_by t c.side-valid.ensures.valid c.args.k c.requires.k deep c.args.direction)

pub returns-then-deep-clause-first : goal.returns-then-deep-clause-first
returns-then-deep-clause-first c =
    let t = c.args.self.now in
    let deep = c.requires.deep c.if-deep.true in
    let inner = deep_inner_at t c.side-valid.ensures.valid c.args.k c.requires.k deep in
    deep_first t c.side-valid.ensures.valid c.args.k c.requires.k deep c.args.direction _ (sym (c.requires.stride.at c.args.k inner.before))
