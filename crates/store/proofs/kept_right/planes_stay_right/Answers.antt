use Rattle.store.proofs.KeptPlanes.RightPlanes.{planes_stay_right}
use Rattle.store.proofs.kept_right.planes_stay_right.Goals as goal

pub returns : goal.returns
returns g c = planes_stay_right g.D.Disk
