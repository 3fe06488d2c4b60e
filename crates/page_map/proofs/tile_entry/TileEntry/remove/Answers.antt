use Rattle.page_map.proofs.Prelude.{[], fresh_in, fresh_kept}
use Rattle.page_map.proofs.FreeTimes.{in_use-first, rest_in_use_still, given-append}
use Rattle.page_map.proofs.tile_entry.TileEntry.remove.Goals as goal

pub restage-requires : goal.restage-requires
restage-requires c = in_use-first (fresh_in c.args.self.now.heights) (fresh_kept c.args.self.now) c.args.free.now c.requires

pub drop_kept-requires : goal.drop_kept-requires
drop_kept-requires c = rest_in_use_still (fresh_in c.args.self.now.heights) [] (fresh_kept c.args.self.now) c.args.free.now c.restage.new.free c.restage.ensures.given c.requires

pub returns-clause-given : goal.returns-clause-given
returns-clause-given c = given-append (fresh_in c.args.self.now.heights) (fresh_kept c.args.self.now) c.args.free.now c.restage.new.free _ c.restage.ensures.given c.drop_kept.ensures.given
