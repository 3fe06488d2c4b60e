use Rattle.tile_flood.proofs.Prelude.{ArePassages, ◌*◌, ◌+◌}
use Rattle.tile_flood.specs.Bands.{AreFoundFrom, ArePlaces}
use Rattle.tile_flood.proofs.bands.band.Given as goal

abbrev pub invariant-loop-i : goal.invariant-loop-i
invariant-loop-i l = record {
  passages : ArePassages l.view.n l.view.levels.now l.view.labels.now l.passages.found.items;
  places : ArePlaces l.view.n l.view.levels.now l.view.labels.now ((l.fn.b * 32) * l.view.n) ((l.fn.b * 32 + 32) * l.view.n) l.passages.found.items;
  upto : AreFoundFrom l.view.n l.view.levels.now l.view.labels.now ((l.fn.b * 32) * l.view.n) (l.i * l.view.n) l.passages.found.items;
}
