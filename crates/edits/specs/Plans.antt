-- How planning a command may be refused (defined by this product).
use Rattle.std.specs.Prelude.{◌≡◌, ◌≤◌, ◌*◌, ℕ, List, length, Bool, true, false, ◌&&◌, ◌||◌}
use Rattle.lattice.specs.declared.refusal.Refusal.{Refusal}
use Rattle.lattice.specs.declared.refusal.Refusal.TheVariants.{BadLength, TileThere, NoTile, Full, Outside, Void, NothingVoid, BadHeight, BadDepth, BadBox, Repeated, TooDeep, NoSink}
use Rattle.catalogue.specs.Endings.{ends_any}
use Rattle.edits.specs.declared.command.Command.{Command}
use Rattle.edits.specs.declared.command.Command.TheVariants.{Import, Remove, Patch, Burn, Wall, Sink, Unsink}
use Rattle.edits.specs.declared.edit.Edit.{Edit}
use Rattle.edits.specs.declared.edit.Edit.TheVariants.{Voids, Heights}
use Rattle.lattice.specs.Mosaic.{Mosaic}
use Rattle.edits.specs.Changes.{SetOnce}
use Rattle.edits.specs.Edits.{points_of}
use Rattle.edits.specs.Effect.{is_in_box, is_named, is_repeated, is_void_at}
use Rattle.edits.specs.Sinks.{refuses_sink}
use Rattle.edits.specs.declared.change.Change.{Change}

-- the refusals of a command's tests
abbrev pub is_own : Command → Refusal → Bool
is_own (Import c bytes) BadLength = true
is_own (Import c bytes) TileThere = true
is_own (Import c bytes) Full = true
is_own (Remove c) NoTile = true
is_own (Patch from to h) BadHeight = true
is_own (Patch from to h) BadBox = true
is_own (Patch from to h) NothingVoid = true
is_own (Burn depth points) BadDepth = true
is_own (Burn depth points) Repeated = true
is_own (Burn depth points) Outside = true
is_own (Burn depth points) Void = true
is_own (Burn depth points) TooDeep = true
is_own (Wall h points) BadHeight = true
is_own (Wall h points) Repeated = true
is_own (Wall h points) Outside = true
is_own (Wall h points) Void = true
is_own (Sink p) r = refuses_sink r
is_own (Unsink p) NoSink = true
is_own _ _ = false

-- the refusals of a command's tests, and those of any call that reads
abbrev pub may_end : Command → Refusal → Bool
may_end command r = is_own command r || ends_any r

-- a bound on the number of a command's changes
abbrev pub IsFew : Command → ℕ → Type 0
IsFew (Import c bytes) changes = changes ≡ 1
IsFew (Remove c) changes = changes ≡ 1
IsFew (Patch from to h) changes = Unit {0}
IsFew (Burn depth points) changes = changes ≤ 4 * length points.items
IsFew (Wall h points) changes = changes ≤ 4 * length points.items
IsFew (Sink p) changes = changes ≡ 1
IsFew (Unsink p) changes = changes ≡ 1

-- A patch, a burn or a wall sets samples at its points, each once.
abbrev pub SetsOnce : Mosaic → Command → List Change → Type 0
SetsOnce m (Patch from to h) changes = SetOnce m.side (λ p. is_in_box from to p && is_void_at m p) changes
SetsOnce m (Burn depth points) changes = SetOnce m.side (is_named points.items) changes
SetsOnce m (Wall h points) changes = SetOnce m.side (is_named points.items) changes
SetsOnce m command changes = Unit {0}

-- An edit sets samples at its points, each once, if no point is named twice.
abbrev pub AreSetOnce : Mosaic → Edit → List Change → Type 0
AreSetOnce m (Voids from to h tiles) changes = SetOnce m.side (λ p. is_in_box from to p && is_void_at m p) changes
AreSetOnce m (Heights heights) changes = is_repeated (points_of heights.items) ≡ false → SetOnce m.side (is_named (points_of heights.items)) changes
AreSetOnce m edit changes = Unit {0}

-- a bound on the number of an edit's changes
abbrev pub AreFewOf : Edit → ℕ → Type 0
AreFewOf (Voids from to h tiles) changes = Unit {0}
AreFewOf (Heights heights) changes = changes ≤ 4 * length heights.items
AreFewOf _ changes = changes ≡ 1
