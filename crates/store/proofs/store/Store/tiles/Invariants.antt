use Rattle.std.proofs.Common.{◌≡◌, map, take}
use Rattle.store.proofs.store.Store.tiles.Given as goal

abbrev pub invariant-loop-entry : goal.invariant-loop-entry
invariant-loop-entry g l = l.corners.items ≡ map (λ e. e.corner) (take l.entry-index l.entry-items)
