use Rattle.std.specs.Global.{Vec}
use Rattle.tile_flood.proofs.Prelude.{Spill, false, get_or, length, true, ℕ, ◌<◌, ◌≡◌, ◌≤◌}
use Rattle.tile_flood.specs.Bands.{AreOfBand}
use Rattle.tile_flood.proofs.bands.renew_bands.Given as goal

abbrev pub invariant-loop-b : goal.invariant-loop-b
invariant-loop-b l = record {
  whole : length l.bands.items ≡ length l.fn.bands.items;
  done : (b : ℕ) (d : Vec Spill) → b < l.b → AreOfBand l.view.n l.view.levels.now l.view.labels.now b (get_or l.bands.items b d).items;
  still : (b : ℕ) (d : Vec Spill) → b < length l.bands.items → b < length l.changed → get_or l.changed b true ≡ false → AreOfBand l.view.n l.view.levels.now l.view.labels.now b (get_or l.bands.items b d).items;
}
