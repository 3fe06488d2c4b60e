-- Accesses to places and what they give (defined by this product).
use Rattle.std.specs.Prelude.{◌≡◌, ℕ, max, List, [], ◌∷◌, Option, Result, Ok, Err, Vec}
use Rattle.disk.specs.Disk.{counted}
use Rattle.disk.specs.Stops.{AddsNothing}
use Rattle.disk.specs.declared.disk.Disk.{Ghosts}
use Rattle.server.specs.declared.places.MakeFault.{MakeFault}
use Rattle.server.specs.declared.places.TileFault.{TileFault}

-- One access with its answer: a path was asked for a new file of this many sectors, for a store's file, or for at most
-- this many bytes of a tile's file; or a store's file was closed.
pub data Access (D : Type 0) : Type 0 where
  Makes : (path : List ℕ) → (sectors : ℕ) → Result D MakeFault → Access D
  Opens : (path : List ℕ) → Option D → Access D
  Closes : D → Access D
  Reads : (path : List ℕ) → (most : ℕ) → Result (List ℕ) TileFault → Access D

-- the bytes of a tile's file, or why there are none
abbrev pub given_of : {A : Type 0} → Result (Vec ℕ A) TileFault → Result (List ℕ) TileFault
given_of (Ok bytes) = Ok bytes.items
given_of (Err fault) = Err fault

module _ {P D : Type 0} (accessed : P → Access D → P → Type 0) where
  -- Exactly these accesses were made, in this order.
  abbrev pub Accesses : P → List (Access D) → P → Type 0
  Accesses old [] new = new ≡ old
  Accesses old (access ∷ more) new = (mid : P) × accessed old access mid × Accesses mid more new

  -- Some accesses were made, and they meet this relation.
  abbrev pub Accessing : P → P → (List (Access D) → Type 0) → Type 0
  Accessing old new Does = (accesses : List (Access D)) × Accesses old accesses new × Does accesses

module _ {D : Type 0} (g : Ghosts D) where
  -- A disk was lengthened to the wanted length, if it was shorter. Its contents stay.
  pub record HasGrown (wanted : ℕ) (old new : D) : Type 0 where
    pub size : g.size new ≡ max (g.size old) wanted
    pub failures : g.failures new ≡ g.failures old
    pub writes : g.writes new ≡ g.writes old
    pub seen : g.honest new → g.seen new ≡ g.seen old
    pub nothing : g.honest new → AddsNothing g old new

  -- A call that was to lengthen the disk failed, and the disk has its old length.
  pub record HasNotGrown (old new : D) : Type 0 where
    pub size : g.size new ≡ g.size old
    pub failures : g.failures new ≡ counted (g.failures old)
    pub writes : g.writes new ≡ g.writes old
    pub seen : g.honest new → g.seen new ≡ g.seen old
    pub nothing : g.honest new → AddsNothing g old new
