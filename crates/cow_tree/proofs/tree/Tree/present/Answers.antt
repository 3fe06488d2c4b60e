use Rattle.cow_tree.proofs.Prelude.{All-map, is_corner}
use Rattle.std.specs.Prelude.{IsTrue}
use Rattle.cow_tree.proofs.Tiles.{corner_of, corners_adjacent}
use Rattle.cow_tree.proofs.tree.Tree.present.Goals as goal

pub returns-clause-in_order : goal.returns-clause-in_order
returns-clause-in_order g c = corners_adjacent c.args.self.now.page_map.staged c.rules.ensures.staged.in_order

pub returns-clause-whole_degrees : goal.returns-clause-whole_degrees
returns-clause-whole_degrees g c = All-map (λ d. IsTrue (is_corner d)) corner_of c.args.self.now.page_map.staged c.rules.ensures.staged.corners
