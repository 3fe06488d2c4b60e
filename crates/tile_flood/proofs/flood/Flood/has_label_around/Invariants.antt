use Rattle.tile_flood.proofs.Prelude.{IsInWindow, IsTrue, ℕ, is_marked, slice_index, ◌*◌, ◌<◌, ◌≡◌}
use Rattle.tile_flood.proofs.flood.Flood.has_label_around.Given as goal

abbrev pub invariant-loop-d : goal.invariant-loop-d
invariant-loop-d l = (k z : ℕ) → k < l.d → z < l.n * l.n → IsInWindow l.n l.point k z → IsTrue (is_marked l.self.levels.items z) → slice_index l.self.labels.items z ≡ l.label
