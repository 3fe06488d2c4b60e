use Rattle.edits.proofs.Prelude.{false, ◌*◌, ◌+◌}
use Rattle.std.specs.Prelude.{◌-◌}
use Rattle.edits.specs.TileRows.{HasVoid}
use Rattle.edits.proofs.BoxVoids.Searching.{EachSoFar}
use Rattle.edits.proofs.void_tiles.has_void.Given as goal

abbrev pub invariant-loop-row : goal.invariant-loop-row
invariant-loop-row g l = EachSoFar g.S.Samples (λ m i. HasVoid m l.corner ((l.side - 1 - l.rows.first - i) * l.side + l.columns.first) l.columns.count false) l.row l.fn.samples l.samples
