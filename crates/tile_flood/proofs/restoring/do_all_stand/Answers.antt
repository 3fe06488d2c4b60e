use Rattle.tile_flood.proofs.restoring.do_all_stand.Goals as goal

pub loop-e-preserved : goal.loop-e-preserved
loop-e-preserved c = record {
  reached = c.in_ok-stand_from.ensures.reached;
  standing = λ heights sinks are. c.in_ok-stand_from.ensures.standing heights sinks (c.loop-e.invariant.standing heights sinks are);
}
