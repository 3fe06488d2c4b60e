-- The states of mending a labelling (specs/Suspects), for a `BlockView` and the fields of a `Flood`.
use Rattle.std.specs.Prelude.{ℕ, ℤ, List}
use Rattle.tile_flood.specs.Affected.{StayListed}
use Rattle.tile_flood.specs.Suspects.{AreMending, IsBeginning, IsMending, IsPassingOn}
use Rattle.tile_flood.specs.declared.views.BlockView.{BlockView}
use Rattle.tile_flood.specs.declared.flood.Flood.{Flood}

abbrev pub IsMendingIn : BlockView → Flood → (ℕ → Type 0) → (ℕ → Type 0) → Type 0
IsMendingIn v f = IsMending v.n v.heights.now v.sinks.now f.levels.items f.labels.items

abbrev pub AreMendingIn : BlockView → Flood → Type 0
AreMendingIn v f = AreMending v.n v.heights.now v.sinks.now f.levels.items f.labels.items f.queue f.suspects

abbrev pub IsPassingOnIn : BlockView → Flood → ℕ → ℤ → ℕ → Type 0
IsPassingOnIn v f = IsPassingOn v.n v.heights.now v.sinks.now f.levels.items f.labels.items f.queue f.suspects

abbrev pub IsBeginningIn : BlockView → List ℕ → Flood → ℕ → Type 0
IsBeginningIn v points f = IsBeginning v.n v.heights.now v.sinks.now points f.levels.items f.labels.items f.queue f.suspects

abbrev pub StayListedIn : BlockView → Flood → Flood → Type 0
StayListedIn v old new = StayListed v.n v.heights.now old.levels.items old.labels.items old.affected.items new.levels.items new.labels.items new.affected.items
