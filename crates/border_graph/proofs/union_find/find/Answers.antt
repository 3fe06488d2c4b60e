use Rattle.std.proofs.Common.{◌≤◌, length, get_or, arith, length-set}
use Rattle.border_graph.proofs.Forests.Connected.{joined_on}
use Rattle.border_graph.proofs.Forests.Roots.{same_tops, higher_once}
use Rattle.border_graph.proofs.union_find.find.Goals as goal

pub up-preserved : goal.up-preserved
up-preserved c =
    let so = c.up.invariant in
    let x = c.up.x in
    let parent = c.up.parent in
    let one : get_or parent x 0 ≤ x = so.higher.falling x so.inside in
    let two : get_or parent (get_or parent x 0) 0 ≤ get_or parent x 0 = so.higher.falling (get_or parent x 0) (omega arith) in
    let whole = length-set parent x (get_or parent (get_or parent x 0) 0) in
    record {
      higher = higher_once c.args.parent.now parent so.higher x so.inside c.up-test.true;
      inside = omega arith;
      below = omega arith;
      joined = λ passes level over.
          let mids = so.higher.over passes level over in
          joined_on passes level c.args.from x (get_or parent (get_or parent x 0) 0) (so.joined passes level over)
          (joined_on passes level x (get_or parent x 0) (get_or parent (get_or parent x 0) 0) (mids x so.inside) (mids (get_or parent x 0) (omega arith)));
    }

pub returns-clause-as_many : goal.returns-clause-as_many
returns-clause-as_many c = same_tops (length c.args.parent.now) c.args.parent.now c.up.parent (λ x small top. c.up.invariant.higher.same x top) (λ x small top. c.up.invariant.higher.only x top)
