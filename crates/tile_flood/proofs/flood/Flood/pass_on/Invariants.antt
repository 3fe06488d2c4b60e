use Rattle.tile_flood.proofs.Prelude.{IsInWindow, IsTrue, ℕ, bare_block, int_max, is_marked, is_solid, slice_index_or, void, ◌*◌, ◌<◌, ◌≤ℤ◌}
use Rattle.tile_flood.specs.Floods.{IsPassingOnIn, StayListedIn}
use Rattle.tile_flood.proofs.flood.Flood.pass_on.Given as goal

abbrev pub invariant-loop-d : goal.invariant-loop-d
invariant-loop-d l = record {
  state : IsPassingOnIn l.block l.self l.popped.point l.popped.level l.popped.label;
  listed : StayListedIn l.block l.fn.self l.self;
  reached : (k z : ℕ) → k < l.d → z < l.block.n * l.block.n → IsInWindow l.block.n l.point k z → IsTrue (is_solid (bare_block l.block.n l.block.heights.now) z) → IsTrue (is_marked l.self.levels.items z) × (slice_index_or l.self.levels.items z void ≤ℤ int_max (slice_index_or l.block.heights.now z void) l.popped.level);
}
