-- Spans: successive points of a plain that a flood fills at one level.
use Rattle.std.specs.Prelude.{ℕ, ◌+◌, ◌≤◌, List, [], ◌∷◌, Contains}
use Rattle.tile_flood.specs.declared.filling.FilledSpan.{FilledSpan}

abbrev pub InSpan : FilledSpan → ℕ → Type 0
InSpan span e = (span.first ≤ e) × (e ≤ span.first + span.after)

-- one of the spans has point e
abbrev pub InSpans : List FilledSpan → ℕ → Type 0
InSpans spans e = (span : FilledSpan) × (Contains spans span × InSpan span e)

-- a list with one span of one point
abbrev pub one_point : ℕ → List FilledSpan
one_point e = record { first = e; after = 0 } ∷ []
