use Rattle.page_map.proofs.Prelude.{AreTaken, length, take, ◌+◌, ◌≡◌}
use Rattle.std.specs.FinSet as set
use Rattle.page_map.proofs.pages.fresh_plane.Given as goal

abbrev pub invariant-loop-page : goal.invariant-loop-page
invariant-loop-page l =
    AreTaken (take l.page-index l.page-items) l.initial.free l.free × (set.len l.free.free + l.page-index ≡ set.len l.initial.free.free) × (length l.page-items ≡ l.index_pages + l.pages)
