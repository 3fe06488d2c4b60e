-- The state of a flood of a block (after Barnes, Lehman and Mulla 2014): some points with levels and labels still wait to
-- spread.
use Rattle.std.specs.Prelude.{◌≡◌, ℕ, ◌*◌, ◌<◌, ◌≤◌, ℤ, ◌≤ℤ◌, false, IsTrue, List, [], length, slice_index, slice_index_or, ◌⊎◌}
use Rattle.std.specs.Int.{int_max}
use Rattle.lattice.specs.Mosaic.{void}
use Rattle.lattice.specs.Block.{Block, is_exit}
use Rattle.labelling.specs.Labelling.{NO_LABEL}
use Rattle.tile_flood.specs.Carried.{IsSeed}
use Rattle.tile_flood.specs.Waiting.{Queue, Waits}
use Rattle.labelling.specs.Blocks.{is_marked}
use Rattle.tile_flood.specs.Suspects.{AreMending, IsIn, IsMending}

-- a flood has no suspects
abbrev pub no_suspects : Queue
no_suspects = record { least = void; buckets = [] }

-- each waiting point has the level at which it waits
abbrev pub HaveLevels : List ℤ → Queue → Type 0
HaveLevels levels queue = (l : ℤ) (e : ℕ) → Waits queue l e → IsTrue (is_marked levels e) × (slice_index_or levels e void ≡ l)

module _ (b : Block) (levels : List ℤ) (labels : List ℕ) (queue : Queue) where
  -- of the points below k, exactly the outlets are marked, and they wait; no other point is marked
  pub record IsSeeding (k : ℕ) : Type 0 where
    pub levels_whole : length levels ≡ b.side * b.side
    pub labels_whole : length labels ≡ b.side * b.side
    pub unlabelled : (e : ℕ) → e < b.side * b.side → is_marked levels e ≡ false → slice_index labels e ≡ NO_LABEL
    pub seeds : (e : ℕ) → IsTrue (is_marked levels e) → IsSeed b levels labels e × Waits queue (slice_index_or levels e void) e
    pub outlets : (e : ℕ) → e < k → IsTrue (is_exit b e) → IsTrue (is_marked levels e)
    pub fresh : (e : ℕ) → k ≤ e → is_marked levels e ≡ false
    pub waiting : HaveLevels levels queue

  -- marked points that don't wait have passed on their level and label. A level above its point's height is at most the
  -- lowest level at which a point waits
  pub record IsFlooding : Type 0 where
    pub state : AreMending b.side b.heights b.sinks levels labels queue no_suspects
    pub waiting : HaveLevels levels queue
    pub capped : (l : ℤ) (x e : ℕ) → Waits queue l x → IsTrue (is_marked levels e) → slice_index_or levels e void ≤ℤ int_max (slice_index_or b.heights e void) l

  -- the state of a flood while the points in `Frontier` spread: they have this level, which is the lowest, and this label
  pub record IsSpreading (Frontier : ℕ → Type 0) (low : ℤ) (label : ℕ) : Type 0 where
    pub state : IsMending b.side b.heights b.sinks levels labels (λ e. IsIn queue levels e ⊎ Frontier e) (IsIn no_suspects levels)
    pub frontier : (e : ℕ) → Frontier e → IsTrue (is_marked levels e) × ((slice_index_or levels e void ≡ low) × (slice_index labels e ≡ label))
    pub waiting : HaveLevels levels queue
    pub lowest : (l : ℤ) (e : ℕ) → Waits queue l e → low ≤ℤ l
    pub capped : (e : ℕ) → IsTrue (is_marked levels e) → slice_index_or levels e void ≤ℤ int_max (slice_index_or b.heights e void) low
