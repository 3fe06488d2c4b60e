use Rattle.watershed.proofs.Prelude.{IsInWatershed, IsMarked, terrain, terrain_is_lawful}
use Rattle.watershed.proofs.Upstream.{found_is_watershed}
use Rattle.watershed.proofs.Found.{runs_alike}
use Rattle.watershed.proofs.search.watershed_over.Goals as goal

pub returns-clause-runs : goal.returns-clause-runs
returns-clause-runs g c m level tells =
    let p = c.args.point in
    let marks = c.in_ok-marks.marks in
    runs_alike (IsMarked marks) (IsInWatershed (terrain m) level p) c.in_ok-runs.field-0.items
    (found_is_watershed (terrain m) level (terrain_is_lawful m) p (IsMarked marks) (c.in_ok-marks.ensures.found m level tells)) c.in_ok-runs.ensures
