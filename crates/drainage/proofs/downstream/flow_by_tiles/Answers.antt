use Rattle.std.proofs.Common.{sym, ◌∙◌}
use Rattle.drainage.proofs.downstream.flow_by_tiles.Goals as goal

pub prepared_flow-found-requires-clause-held : goal.prepared_flow-found-requires-clause-held
prepared_flow-found-requires-clause-held g c honest = c.take_flow_cache-flows.ensures.left (g.S.Samples.mosaic c.args.samples.now) (c.requires.held honest)

pub prepared_flow-found-requires-clause-right : goal.prepared_flow-found-requires-clause-right
prepared_flow-found-requires-clause-right g c honest =
    let a = c.args.samples.now in
    let m = g.S.Samples.mosaic a in
    c.keep.ensures.flows m (c.take_flow_cache-flows.ensures.flows m (c.side.ensures ∙ sym (g.met.S.Samples.same_side a honest)) (c.requires.held honest))

pub returns-clause-held : goal.returns-clause-held
returns-clause-held g c honest =
    let b = c.prepared_flow-found.new.samples in
    c.put_flow_cache.ensures.right (g.S.Samples.mosaic b) (c.prepared_flow-found.ensures.right honest) (c.prepared_flow-found.ensures.held honest)
