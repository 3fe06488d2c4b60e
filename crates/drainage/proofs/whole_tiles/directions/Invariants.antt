use Rattle.std.specs.Prelude.{Ok, length}
use Rattle.drainage.proofs.Prelude.{AreCodesTo, IsHeldFor, OnlyReads, ◌*◌, ◌-◌, ◌≤◌}
use Rattle.drainage.proofs.whole_tiles.directions.Given as goal

abbrev pub invariant-tile : goal.invariant-tile
invariant-tile g l = record {
  reads : OnlyReads {T = Unit {0}} g.S.Samples l.fn.samples l.samples (Ok tt);
  held : IsHeldFor g.S.Samples l.samples l.held;
  whole : length l.codes.items ≤ l.side * l.side;
  codes : g.S.Samples.is_honest l.samples → AreCodesTo (g.S.Samples.mosaic l.fn.samples) l.corner (length l.codes.items) l.codes.items;
}

abbrev pub decreases-tile : goal.decreases-tile
decreases-tile g l = l.side * l.side - length l.codes.items
