use Rattle.lattice.specs.Ground.{terrain}
use Rattle.lattice.specs.Mosaic.{void}
use Rattle.water.proofs.MosaicGrid.{mosaic_is_grid}
use Rattle.water.proofs.FlowPaths.{flow_path_exists, on_path, from_path}
use Rattle.water.proofs.drainage_laws.watersheds_follow_flow_paths.Goals as goal

pub returns : goal.returns
returns c = λ m level is filled p x. (
  λ inside.
      let path = flow_path_exists (terrain m) void (mosaic_is_grid m is) level filled x inside.on_ground in
      (inside.on_ground, (path.0, (path.1, from_path (terrain m) level p x path.0 path.1 inside.flows.0 inside.flows.1))),
  λ h. record { on_ground = h.0; flows = on_path (terrain m) level p x h.1.0 h.1.1.0 h.1.1.1.0 h.1.1.1.1 h.1.1.1.2 },
)
