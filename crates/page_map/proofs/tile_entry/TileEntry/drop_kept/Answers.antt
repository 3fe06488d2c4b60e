use Rattle.page_map.proofs.Prelude.{[], fresh_in}
use Rattle.page_map.proofs.FreeTimes.{in_use-first, rest_in_use_still, given-append}
use Rattle.page_map.proofs.tile_entry.TileEntry.drop_kept.Goals as goal

pub restage-requires : goal.restage-requires
restage-requires c = in_use-first (fresh_in c.args.self.now.levels) (fresh_in c.args.self.now.labels) c.args.free.now c.requires

pub restage-requires-2 : goal.restage-requires-2
restage-requires-2 c = rest_in_use_still (fresh_in c.args.self.now.levels) [] (fresh_in c.args.self.now.labels) c.args.free.now c.restage.new.free c.restage.ensures.given c.requires

pub returns-clause-given : goal.returns-clause-given
returns-clause-given c = given-append (fresh_in c.args.self.now.levels) (fresh_in c.args.self.now.labels) c.args.free.now c.restage.new.free _ c.restage.ensures.given c.restage-2.ensures.given
