use Rattle.tile_flood.proofs.restoring.spread_from.Goals as goal

pub loop-d-preserved : goal.loop-d-preserved
loop-d-preserved c = record {
  reached = c.in_ok-spread_to.ensures.reached;
  standing = λ heights sinks are. c.in_ok-spread_to.ensures.standing heights sinks (c.loop-d.invariant.standing heights sinks are);
}
