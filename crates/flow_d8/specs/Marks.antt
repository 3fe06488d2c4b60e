-- The marks of a search. 3: the place isn't in the flat, or isn't found yet. 2: it is found and in no wave. 0: it is in a
-- wave.
use Rattle.std.specs.Prelude.{◌≡◌, ℕ, ◌+◌, ◌*◌, ◌%◌, ◌<◌, ◌≤◌, ◌⊎◌, Bool, true, false, IsTrue, List, length, sum, slice_index_or}
use Rattle.flow_d8.specs.Prelude.{Dir, order_of, Flow, Unknown, FlatTo}
use Rattle.flow_d8.specs.declared.marks.SampleRun.{SampleRun}
use Rattle.water.specs.Flows.{back_of}
use Rattle.flow_d8.specs.Filled.{is_deep}
use Rattle.flow_d8.specs.Flows.{IsOfFlat, IsBeside}
use Rattle.flow_d8.specs.Component.{Connects}
use Rattle.flow_d8.specs.Tiles.{Tiles, by_of, IsFirst}

abbrev pub mark_at : List ℕ → ℕ → ℕ
mark_at marks k = slice_index_or marks k 3

-- no mark is set
abbrev pub AreFree : List ℕ → Type 0
AreFree marks = (k : ℕ) → mark_at marks k ≡ 3

abbrev pub IsMember : List ℕ → ℕ → Type 0
IsMember marks k = mark_at marks k ≡ 3 → ⊥

abbrev pub Lists : List ℕ → ℕ → Type 0
Lists queue k = (i : ℕ) × ((i < length queue) × (slice_index_or queue i 0 ≡ k))

-- a step from k to a place of the array, followed by the opposite step, leads back to k
abbrev pub IsBack : (ℕ → Dir → ℕ) → ℕ → ℕ → Type 0
IsBack by count k = (d : Dir) → by k d < count → by (by k d) (back_of d) ≡ k

-- the sample is in the run
pub record IsIn (r : SampleRun) (k : ℕ) : Type 0 where
  pub from : r.first ≤ k
  pub to : k ≤ r.last

abbrev pub no_run : SampleRun
no_run = record { first = 0; last = 0 }

abbrev pub Covers : List SampleRun → ℕ → Type 0
Covers runs k = (i : ℕ) × ((i < length runs) × IsIn (slice_index_or runs i no_run) k)

-- the run is one sample, or successive samples of one tile's row, each deep in the tile
pub record IsRow (n : ℕ) (r : SampleRun) : Type 0 where
  pub some : r.first ≤ r.last
  pub deep : (r.last ≡ r.first) ⊎ ((k : ℕ) → IsIn r k → is_deep n (k % (n * n)) ≡ true)

abbrev pub AreRows : ℕ → List SampleRun → Type 0
AreRows n runs = (i : ℕ) → i < length runs → IsRow n (slice_index_or runs i no_run)

-- exactly the samples of the run get this mark
pub record IsRunMarked (r : SampleRun) (mark : ℕ) (marks new_marks : List ℕ) : Type 0 where
  pub whole : length new_marks ≡ length marks
  pub here : (k : ℕ) → IsIn r k → mark_at new_marks k ≡ mark
  pub others : (k : ℕ) → (IsIn r k → ⊥) → mark_at new_marks k ≡ mark_at marks k
  pub fewer : r.first ≤ r.last → mark < 3 → ((k : ℕ) → IsIn r k → mark_at marks k ≡ 3) → sum new_marks < sum marks

-- each member is in one of the runs
pub record AreListed (marks : List ℕ) (runs : List SampleRun) : Type 0 where
  pub listed : (k : ℕ) → IsMember marks k → Covers runs k
  pub small : (k : ℕ) → Covers runs k → k < length marks

-- the members are what the search has found: first samples of points inside flats, listed in the runs
pub record AreFound (tiles : Tiles) (flows : List Flow) (seed : ℕ) (marks : List ℕ) (runs : List SampleRun) : Type 0 where
  pub whole : length marks ≡ length flows
  pub two : (k : ℕ) → IsMember marks k → mark_at marks k ≡ 2
  pub flat : (k : ℕ) → IsMember marks k → IsOfFlat (slice_index_or flows k Unknown)
  pub first : (k : ℕ) → IsMember marks k → IsFirst tiles k
  pub joined : (k : ℕ) → IsMember marks k → (n : ℕ) × Connects flows (by_of tiles) seed n k
  pub listed : (k : ℕ) → IsMember marks k → Covers runs k
  pub members : (k : ℕ) → Covers runs k → IsMember marks k
  pub rows : AreRows tiles.side runs

-- the flow of place k is known, and if k lies inside a flat, it is a member
pub record IsSettled (flows : List Flow) (marks : List ℕ) (k : ℕ) : Type 0 where
  pub known : slice_index_or flows k Unknown ≡ Unknown → ⊥
  pub member : IsOfFlat (slice_index_or flows k Unknown) → IsMember marks k

-- all members are found: each sample inside a flat around a member is a member too
pub record AreCollected (tiles : Tiles) (flows : List Flow) (marks : List ℕ) (runs : List SampleRun) (seed : ℕ) : Type 0 where
  pub begun : IsMember marks seed
  pub found : AreFound tiles flows seed marks runs
  pub closed : (k : ℕ) (d : Dir) → IsMember marks k → IsSettled flows marks (by_of tiles k d)

-- some members next to an exit are marked as reached, and added to the wave
pub record Begins (flows : List Flow) (marks wave new_marks new_wave : List ℕ) : Type 0 where
  pub whole : length new_marks ≡ length marks
  pub changed : (k : ℕ) → (mark_at new_marks k ≡ mark_at marks k) ⊎ (IsBeside (slice_index_or flows k Unknown) × (mark_at new_marks k ≡ 0) × IsMember marks k)
  pub kept : (k : ℕ) → Lists wave k → Lists new_wave k
  pub listed : (k : ℕ) → mark_at new_marks k ≡ 0 → (mark_at marks k ≡ 0) ⊎ Lists new_wave k
  pub only : (k : ℕ) → Lists new_wave k → Lists wave k ⊎ (mark_at new_marks k ≡ 0)

-- the members next to an exit make up the first wave
pub record IsFirstWave (flows : List Flow) (marks new_marks wave : List ℕ) : Type 0 where
  pub whole : length new_marks ≡ length marks
  pub beside : (k : ℕ) → IsMember marks k → IsBeside (slice_index_or flows k Unknown) → mark_at new_marks k ≡ 0
  pub others : (k : ℕ) → IsMember marks k → (IsBeside (slice_index_or flows k Unknown) → ⊥) → mark_at new_marks k ≡ 2
  pub outside : (k : ℕ) → mark_at marks k ≡ 3 → mark_at new_marks k ≡ 3
  pub listed : (k : ℕ) → mark_at new_marks k ≡ 0 → Lists wave k
  pub reached : (i : ℕ) → i < length wave → mark_at new_marks (slice_index_or wave i 0) ≡ 0

-- each of the first `count` samples of the wave that `deep` lists as deep lies deep in its tile
pub record AreDeep (n : ℕ) (wave : List ℕ) (count : ℕ) (deep : List Bool) : Type 0 where
  pub whole : length deep ≡ count
  pub lies : (i : ℕ) → i < count → IsTrue (slice_index_or deep i false) → is_deep n (slice_index_or wave i 0 % (n * n)) ≡ true

-- places in no wave whose step d leads to the wave are now reached. They have that step as direction, and are added to the
-- next wave
pub record Reaches (by : ℕ → Dir → ℕ) (wave : List ℕ) (d : Dir) (marks next : List ℕ) (flows : List Flow) (new_marks new_next : List ℕ) (new_flows : List Flow) : Type 0 where
  pub whole : length new_marks ≡ length marks
  pub flows_whole : length new_flows ≡ length flows
  pub joined : (k : ℕ) → mark_at marks k ≡ 2 → (mark_at new_marks k ≡ 2) ⊎ ((mark_at new_marks k ≡ 0) × (slice_index_or new_flows k Unknown ≡ FlatTo d) × Lists wave (by k d) × Lists new_next k)
  pub others : (k : ℕ) → (mark_at marks k ≡ 2 → ⊥) → mark_at new_marks k ≡ mark_at marks k
  pub kept : (k : ℕ) → (mark_at marks k ≡ 2 → mark_at new_marks k ≡ 2) → slice_index_or new_flows k Unknown ≡ slice_index_or flows k Unknown
  pub listed : (k : ℕ) → Lists next k → Lists new_next k
  pub reached : ((i : ℕ) → i < length next → mark_at marks (slice_index_or next i 0) ≡ 0) → (i : ℕ) → i < length new_next → mark_at new_marks (slice_index_or new_next i 0) ≡ 0
  pub fewer : sum new_marks + length new_next ≤ sum marks + length next

-- d is the first step from k, in code order, to a place that is reached
pub record IsFirstReached (by : ℕ → Dir → ℕ) (marks : List ℕ) (k : ℕ) (d : Dir) : Type 0 where
  pub reached : mark_at marks (by k d) ≡ 0
  pub first : (e : Dir) → mark_at marks (by k e) ≡ 0 → order_of d ≤ order_of e

abbrev pub IsDirected : (ℕ → Dir → ℕ) → List ℕ → List Flow → ℕ → Type 0
IsDirected by marks flows k = (d : Dir) × ((slice_index_or flows k Unknown ≡ FlatTo d) × IsFirstReached by marks k d)
