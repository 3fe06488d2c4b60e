use Rattle.stored_mosaic.proofs.Prelude.{IsTrue, is_corner, rules, ◌≤◌}
use Rattle.stored_mosaic.proofs.Edits.NewHeights.{points_left}
use Rattle.stored_mosaic.proofs.heights.PointHeightsPageEdit.next_page.Goals as goal

pub returns-clause-leaves : goal.returns-clause-leaves
returns-clause-leaves c m valid same fits t there own i out =
    let side : 3 ≤ c.args.side = search rules in
    let corner : IsTrue (is_corner c.args.corner) = search rules in
    points_left c.args.side c.args.corner i c.args.self.now.heights.now side corner out
