use Rattle.stored_mosaic.proofs.Prelude.{All, AreRimVoids, Ok, OnlyReads, map, take, vec_len, ◌*◌, ◌-◌, ◌≡◌}
use Rattle.stored_mosaic.proofs.rims.read_rims.Given as goal

abbrev pub invariant-loop-corner : goal.invariant-loop-corner
invariant-loop-corner g l = record {
  reads : OnlyReads {T = Unit {0}} g.S.Samples l.fn.samples l.samples (Ok tt);
  voids : g.S.Samples.is_honest l.samples → All (AreRimVoids (g.S.Samples.mosaic l.fn.samples) l.patch) l.rims.items;
  whole : All (λ rim. vec_len rim.voids ≡ 4 * (g.S.Samples.side_of l.fn.samples - 1)) l.rims.items;
  corners : map (λ rim. rim.corner) l.rims.items ≡ take l.corner-index l.tiles;
}
