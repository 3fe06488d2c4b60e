use Rattle.edits.proofs.Prelude.{false, ◌+◌, ◌≡◌}
use Rattle.catalogue.specs.Reading.{AreSamplesOf}
use Rattle.edits.specs.TileRows.{is_void_at_index}
use Rattle.edits.proofs.BoxVoids.Searching.{EachSoFar}
use Rattle.edits.proofs.void_tiles.has_void_among.Given as goal

abbrev pub invariant-loop-k : goal.invariant-loop-k
invariant-loop-k g l = EachSoFar g.S.Samples (λ m i. AreSamplesOf m l.corner l.first l.own → is_void_at_index m l.corner (l.first + i) ≡ false) l.k l.fn.samples l.samples
