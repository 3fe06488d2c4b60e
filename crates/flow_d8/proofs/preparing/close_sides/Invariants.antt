use Rattle.flow_d8.proofs.Prelude.{IsClosedAt, IsClosedFlow, IsClosing, ℕ, along_of, flow_in, ◌*◌, ◌+◌, ◌<◌}
use Rattle.lattice.specs.declared.direction.Dir.{Dir}
use Rattle.flow_d8.proofs.preparing.close_sides.Given as goal

abbrev pub invariant-loop-i : goal.invariant-loop-i
invariant-loop-i l = record {
  closing : IsClosing l.tile.side l.tile.levels.now l.tile.sides.now l.fn.flows l.flows;
  told : (d : Dir) (r s : ℕ) → IsClosedAt l.tile.side l.tile.sides.now d r s → along_of d r s < l.i → IsClosedFlow l.tile.side l.tile.levels.now l.tile.sides.now (r * l.tile.side + s) (flow_in l.flows (r * l.tile.side + s));
}
