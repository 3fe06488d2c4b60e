use Rattle.tile_flood.proofs.Prelude.{List, ℕ, ℤ, ◌*◌}
use Rattle.tile_flood.specs.Bands.{AreBands, AreOfPoints}
use Rattle.tile_flood.proofs.bands.joined.Given as goal

abbrev pub invariant-loop-b : goal.invariant-loop-b
invariant-loop-b l = (n : ℕ) (levels : List ℤ) (labels : List ℕ) → AreBands n levels labels l.bands → AreOfPoints n levels labels 0 ((l.b * 32) * n) l.found.items
