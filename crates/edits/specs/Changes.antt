-- What a change does to a mosaic, and when it can be made (defined by this product).
use Rattle.std.specs.Prelude.{◌≡◌, ℕ, ◌*◌, ◌<◌, ℤ, Bool, true, false, ◌&&◌, ◌||◌, IsTrue, IsFalse, if◌then◌else◌, nat_eq, List, [], ◌∷◌, length, All, AllPairs, Contains}
use Rattle.lattice.specs.Corners.{Corner, same_corner}
use Rattle.lattice.specs.Lattice.{point_of}
use Rattle.lattice.specs.declared.point.Point.{Point}
use Rattle.lattice.specs.Mosaic.{Mosaic, IsMosaic, AreSinks}
use Rattle.catalogue.specs.Tiles.{added, corners_of, without, with_sinks}
use Rattle.catalogue.specs.Tables.{with_sample}
use Rattle.edits.specs.declared.change.Change.{Change}
use Rattle.edits.specs.declared.change.Change.TheVariants.{Add, Drop, Set, Sink, Unsink}
use Rattle.edits.specs.Effect.{edited}
use Rattle.edits.specs.Sinks.{with_point, without_point}

abbrev pub changed : Change → Mosaic → Mosaic
changed (Add c samples) m = added (record { corner = c; samples = samples }) m
changed (Drop c) m = without c m
changed (Set c i s) m = with_sample c i s m
changed (Sink p) m = with_sinks (with_point p m.sinks) m
changed (Unsink p) m = with_sinks (without_point p m.sinks) m

-- the mosaic after the changes, one after another
abbrev pub all_changed : List Change → Mosaic → Mosaic
all_changed [] m = m
all_changed (change ∷ later) m = all_changed later (changed change m)

-- The change can be made where tiles have this side, these corners are present and these sinks declared. It adds a whole
-- tile where none is, removes a present tile or sets a sample of one, declares a sink that is allowed, or removes a sink.
abbrev pub CanBeMade : ℕ → List Corner → List Point → Change → Type 0
CanBeMade n corners sinks (Add c samples) = (¬ Contains corners c) × (length samples ≡ n * n)
CanBeMade n corners sinks (Drop c) = Contains corners c
CanBeMade n corners sinks (Set c i s) = Contains corners c × (i < n * n)
CanBeMade n corners sinks (Sink p) = AreSinks n (with_point p sinks)
CanBeMade n corners sinks (Unsink p) = Unit {0}

-- the change sets a sample of a present tile
abbrev pub CanBeSet : ℕ → List Corner → Change → Type 0
CanBeSet n corners (Set c i s) = Contains corners c × (i < n * n)
CanBeSet n corners _ = ⊥

-- the change sets a sample at a point that passes the test
abbrev pub IsSetAt : ℕ → (Point → Bool) → Change → Type 0
IsSetAt n test (Set c i s) = IsTrue (test (point_of n c i))
IsSetAt n test _ = ⊥

-- both changes set the same sample
abbrev pub set_same : Change → Change → Bool
set_same (Set c i s) (Set d j t) = same_corner c d && nat_eq i j
set_same _ _ = false

-- The changes set samples at points that pass the test, none of them twice.
pub record SetOnce (n : ℕ) (test : Point → Bool) (changes : List Change) : Type 0 where
  pub each : All (IsSetAt n test) changes
  pub once : AllPairs (λ x y. IsFalse (set_same x y)) changes

-- The new changes are the old ones followed by changes that set samples to this one: in the present tiles, at the
-- points that pass the test, each once.
pub record Sets (n : ℕ) (corners : List Corner) (test : Point → Bool) (s : ℤ) (old new : List Change) : Type 0 where
  pub makes : (m : Mosaic) (f : Point → ℤ → ℤ) → IsMosaic m → m.side ≡ n → corners_of m ≡ corners → all_changed old m ≡ edited f m
      → all_changed new m ≡ edited (λ p v. if test p then s else f p v) m
  pub once : (before : Point → Bool) → ((p : Point) → before p ≡ true → test p ≡ true → ⊥) → SetOnce n before old → SetOnce n (λ p. before p || test p) new
