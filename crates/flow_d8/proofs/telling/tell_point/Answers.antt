use Rattle.flow_d8.proofs.Prelude.{arith, cases_eq, inl, inr, length, ◌*◌, ◌/◌}
use Rattle.flow_d8.proofs.Samples.Numbers.{tile_below}
use Rattle.flow_d8.proofs.Samples.TilePlaces.{square_some}
use Rattle.flow_d8.proofs.Samples.TwinFlows.{tells_on}
use Rattle.flow_d8.proofs.telling.tell_point.Goals as goal

pub loop-i-preserved : goal.loop-i-preserved
loop-i-preserved c =
    let was = c.loop-i.invariant in
    let by = c.tell_in.ensures in
    record {
      tells = tells_on c.args.flows.now c.loop-i.flows c.tell_in.new.flows was.tells by.tells;
      facts = λ t level is so. by.facts t level is (was.facts t level is so);
      twins = λ e less sample flat. elim (cases_eq (e / (c.args.tiles.now.side * c.args.tiles.now.side)) c.loop-i.i) [
        | inl same ↦ by.twins e same sample (was.tells.flat e flat)
        | inr other ↦ by.tells.told e (was.twins e (omega arith) sample flat)
      ];
    }

pub returns-clause-twins : goal.returns-clause-twins
returns-clause-twins c e sample flat =
    let t = c.args.tiles.now in
    c.loop-i.invariant.twins e (omega (arith, tile_below (t.side * t.side) (length t.corners) e (square_some t.side c.tiles-i-end.ensures.valid.side_low) sample.small, c.loop-i-test.false, c.tiles-i-end.ensures.value)) sample flat
