use Rattle.page_map.proofs.Lookup.{located_plane}
use Rattle.page_map.proofs.page_map.PageMap.is_present.Goals as goal

pub returns : goal.returns
returns c = rw c.is_some.ensures (located_plane c.args.c c.args.self.now.staged c.plane.result c.plane.ensures.found c.plane.ensures.none)
