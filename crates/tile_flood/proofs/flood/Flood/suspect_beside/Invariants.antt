use Rattle.tile_flood.proofs.Prelude.{IsIn, IsInWindow, IsTrue, WaitStill, ℕ, is_marked, slice_index, slice_index_or, void, ◌*◌, ◌<◌, ◌≡◌, ◌≤ℤ◌, ◌⊎◌}
use Rattle.tile_flood.proofs.flood.Flood.suspect_beside.Given as goal

abbrev pub invariant-loop-d : goal.invariant-loop-d
invariant-loop-d l = record {
  levels : l.self.levels.items ≡ l.fn.self.levels.items;
  labels : l.self.labels.items ≡ l.fn.self.labels.items;
  waiting : WaitStill l.fn.self.queue l.self.queue;
  suspect : WaitStill l.fn.self.suspects l.self.suspects;
  affected : l.self.affected ≡ l.fn.self.affected;
  suspected : (i y : ℕ) → i < l.d → y < l.n * l.n → IsInWindow l.n l.point i y → IsTrue (is_marked l.fn.self.levels.items y) → slice_index l.fn.self.labels.items y ≡ l.cell.label → l.cell.level ≤ℤ slice_index_or l.fn.self.levels.items y void → IsIn l.self.suspects l.fn.self.levels.items y;
  others : IsTrue l.others_wait → (i y : ℕ) → i < l.d → y < l.n * l.n → IsInWindow l.n l.point i y → IsTrue (is_marked l.fn.self.levels.items y) → IsIn l.self.queue l.fn.self.levels.items y ⊎ IsIn l.self.suspects l.fn.self.levels.items y;
}
