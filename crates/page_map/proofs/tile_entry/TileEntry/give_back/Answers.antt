use Rattle.page_map.proofs.Prelude.{used_in, ◌++◌}
use Rattle.page_map.proofs.FreeTimes.{balanced-append, in_use-first, rest_in_use_still}
use Rattle.page_map.proofs.tile_entry.TileEntry.give_back.Goals as goal

pub give_back-requires : goal.give_back-requires
give_back-requires c = in_use-first (used_in c.args.self.now.heights) (used_in c.args.self.now.levels ++ used_in c.args.self.now.labels) c.args.free.now c.requires

pub give_back-requires-2 : goal.give_back-requires-2
give_back-requires-2 c =
    in_use-first (used_in c.args.self.now.levels) (used_in c.args.self.now.labels) c.give_back.new.free
    (rest_in_use_still (used_in c.args.self.now.heights) _ (used_in c.args.self.now.levels ++ used_in c.args.self.now.labels) c.args.free.now c.give_back.new.free c.give_back.ensures c.requires)

pub give_back-requires-3 : goal.give_back-requires-3
give_back-requires-3 c =
    rest_in_use_still (used_in c.args.self.now.levels) _ (used_in c.args.self.now.labels) c.give_back.new.free c.give_back-2.new.free c.give_back-2.ensures
    (rest_in_use_still (used_in c.args.self.now.heights) _ (used_in c.args.self.now.levels ++ used_in c.args.self.now.labels) c.args.free.now c.give_back.new.free c.give_back.ensures c.requires)

pub returns : goal.returns
returns c =
    balanced-append (used_in c.args.self.now.heights) _ (used_in c.args.self.now.levels ++ used_in c.args.self.now.labels) c.args.free.now c.give_back.new.free c.give_back.ensures _ c.give_back-3.new.free
    (balanced-append (used_in c.args.self.now.levels) _ (used_in c.args.self.now.labels) c.give_back.new.free c.give_back-2.new.free c.give_back-2.ensures _ c.give_back-3.new.free c.give_back-3.ensures)
