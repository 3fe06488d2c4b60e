-- What is true between two waves.
use Rattle.std.specs.Prelude.{◌≡◌, ℕ, suc, ◌+◌, ◌<◌, ◌≤◌, ◌⊎◌, ◌↔◌, ℤ, List, length, sum, slice_index_or}
use Rattle.flow_d8.specs.Prelude.{Point, Dir, Terrain, Flow, Unknown}
use Rattle.water.specs.Drainage.{CrossesFlat}
use Rattle.flow_d8.specs.Flows.{IsOfFlat, IsBeside, IsTold, IsFull, AreFlows, AreLaid, Names}
use Rattle.flow_d8.specs.Marks.{mark_at, IsMember, Lists, IsSettled, IsDirected, IsBack}

-- the members lie inside flats, and each sample inside a flat around a member is a member too
pub record AreMarked (flows : List Flow) (by : ℕ → Dir → ℕ) (marks : List ℕ) : Type 0 where
  pub whole : length marks ≡ length flows
  pub back : (k : ℕ) → IsMember marks k → IsBack by (length flows) k
  pub flat : (k : ℕ) → IsMember marks k → IsOfFlat (slice_index_or flows k Unknown)
  pub closed : (k : ℕ) (d : Dir) → IsMember marks k → IsSettled flows marks (by k d)

-- exactly the members next to an exit are reached
pub record AreBegun (flows : List Flow) (marks : List ℕ) : Type 0 where
  pub beside : (k : ℕ) → IsMember marks k → IsBeside (slice_index_or flows k Unknown) → mark_at marks k ≡ 0
  pub only : (k : ℕ) → mark_at marks k ≡ 0 → IsBeside (slice_index_or flows k Unknown)

-- each member is reached or in no wave; a reached member next to one in no wave belongs to the last wave
pub record IsRound (by : ℕ → Dir → ℕ) (members marks wave : List ℕ) : Type 0 where
  pub whole : length marks ≡ length members
  pub member : (k : ℕ) → IsMember members k → (mark_at marks k ≡ 0) ⊎ (mark_at marks k ≡ 2)
  pub outside : (k : ℕ) → mark_at members k ≡ 3 → mark_at marks k ≡ 3
  pub reached : (i : ℕ) → i < length wave → mark_at marks (slice_index_or wave i 0) ≡ 0
  pub frontier : (k : ℕ) (d : Dir) → mark_at marks k ≡ 0 → mark_at marks (by k d) ≡ 2 → Lists wave k

-- places in no wave next to a reached one now have a direction, are reached, and are listed in the next wave
pub record Advances (by : ℕ → Dir → ℕ) (marks : List ℕ) (flows : List Flow) (new_marks next : List ℕ) (new_flows : List Flow) : Type 0 where
  pub whole : length new_marks ≡ length marks
  pub flows_whole : length new_flows ≡ length flows
  pub others : (k : ℕ) → (mark_at marks k ≡ 2 → ⊥) → mark_at new_marks k ≡ mark_at marks k
  pub joined : (k : ℕ) → mark_at marks k ≡ 2 → (mark_at new_marks k ≡ 2) ⊎ ((mark_at new_marks k ≡ 0) × (IsDirected by marks new_flows k × Lists next k))
  pub kept : (k : ℕ) → (mark_at marks k ≡ 2 → mark_at new_marks k ≡ 2) → slice_index_or new_flows k Unknown ≡ slice_index_or flows k Unknown
  pub reached : (i : ℕ) → i < length next → mark_at new_marks (slice_index_or next i 0) ≡ 0
  pub fewer : sum new_marks + length next ≤ sum marks

-- each place next to a place of the wave has been reached
abbrev pub IsPassed : (ℕ → Dir → ℕ) → List ℕ → List ℕ → Type 0
IsPassed by marks wave = (i : ℕ) (d : Dir) → i < length wave → mark_at marks (by (slice_index_or wave i 0) d) ≡ 2 → ⊥

-- the reached members are those of the first waves, and they have their directions
pub record AreWavesOf (t : Terrain Point) (level : Point → ℤ) (place : ℕ → Point) (members marks : List ℕ) (flows : List Flow) : Type 0 where
  pub so : AreFlows t level place flows
  pub waves : (j : ℕ) × ((k : ℕ) → IsMember members k → (mark_at marks k ≡ 0) ↔ ((i : ℕ) × (CrossesFlat t level (place k) i × (i ≤ suc j))))
  pub named : (k : ℕ) → mark_at marks k ≡ 0 → (d : Dir) × Names (slice_index_or flows k Unknown) d

-- the statement is true for each terrain that is laid out in the array and has these flows
abbrev pub OnTerrains : List Flow → (ℕ → Dir → ℕ) → (Terrain Point → (Point → ℤ) → (ℕ → Point) → Type 0) → Type 0
OnTerrains flows by Says = (t : Terrain Point) (level : Point → ℤ) (place : ℕ → Point) → IsFull t → AreLaid by (length flows) place → AreFlows t level place flows → Says t level place

-- only flows of samples inside flats change, and no direction is lost
pub record Tells (flows new_flows : List Flow) : Type 0 where
  pub whole : length new_flows ≡ length flows
  pub kept : (e : ℕ) → (IsOfFlat (slice_index_or flows e Unknown) → ⊥) → slice_index_or new_flows e Unknown ≡ slice_index_or flows e Unknown
  pub flat : (e : ℕ) → IsOfFlat (slice_index_or flows e Unknown) → IsOfFlat (slice_index_or new_flows e Unknown)
  pub told : (e : ℕ) → IsTold (slice_index_or flows e Unknown) → IsTold (slice_index_or new_flows e Unknown)
