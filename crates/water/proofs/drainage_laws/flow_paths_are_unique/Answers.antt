use Rattle.lattice.specs.Ground.{terrain}
use Rattle.lattice.specs.Mosaic.{void}
use Rattle.water.proofs.MosaicGrid.{mosaic_is_grid}
use Rattle.water.proofs.FlowPaths.{flow_path_exists, one_flow_path}
use Rattle.water.proofs.drainage_laws.flow_paths_are_unique.Goals as goal

pub returns : goal.returns
returns c = λ m level is filled x solid. (flow_path_exists (terrain m) void (mosaic_is_grid m is) level filled x solid, one_flow_path (terrain m) level x)
