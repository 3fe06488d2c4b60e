use Rattle.std.specs.Global.{Vec}
use Rattle.tile_flood.proofs.Prelude.{Spill, get_or, length, ℕ, ◌*◌, ◌-◌, ◌<◌, ◌≤◌}
use Rattle.tile_flood.specs.Bands.{AreOfBand}
use Rattle.tile_flood.proofs.bands.spill_bands.Given as goal

abbrev pub invariant-loop-view : goal.invariant-loop-view
invariant-loop-view l = record {
  few : length l.bands.items ≤ l.view.n;
  each : (b : ℕ) (d : Vec Spill) → b < length l.bands.items → AreOfBand l.view.n l.view.levels.now l.view.labels.now b (get_or l.bands.items b d).items;
}

abbrev pub decreases-loop-view : goal.decreases-loop-view
decreases-loop-view l = l.view.n - length l.bands.items * 32
