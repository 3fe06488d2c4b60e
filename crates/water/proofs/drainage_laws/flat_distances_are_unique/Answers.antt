use Rattle.lattice.specs.Ground.{terrain}
use Rattle.lattice.specs.Mosaic.{void}
use Rattle.water.proofs.MosaicGrid.{mosaic_is_grid}
use Rattle.water.proofs.Exists.{distance_exists}
use Rattle.water.proofs.Unique.{one_distance}
use Rattle.water.proofs.drainage_laws.flat_distances_are_unique.Goals as goal

pub returns : goal.returns
returns c = λ m level is filled x solid. (distance_exists (terrain m) void (mosaic_is_grid m is) level filled x solid, one_distance (terrain m) level x)
