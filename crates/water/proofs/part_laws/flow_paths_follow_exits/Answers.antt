use Rattle.water.specs.PartLaws.{DrainsTo}
use Rattle.water.proofs.PathsByExits.{by_exits, by_path, steps_to, path_to}
use Rattle.water.proofs.part_laws.flow_paths_follow_exits.Goals as goal

pub returns : goal.returns
returns c = λ t level is_one_owner p x. (
  λ flows. let path = path_to t level is_one_owner p x flows.0 flows.1 in by_exits (DrainsTo t level) is_one_owner p x path.0 path.1,
  λ crossings. let path = by_path (DrainsTo t level) is_one_owner p x crossings.0 crossings.1 in steps_to t level is_one_owner p x path.0 path.1,
)
