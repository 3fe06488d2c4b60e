-- A bottleneck (minimax) search from a start over links, the lowest first (after Barnes, Lehman and Mulla 2014).
use Rattle.std.specs.Prelude.{◌≡◌, ℕ, ℤ, ◌<◌, ◌≤ℤ◌, ◌<ℤ◌, ◌⊎◌, true, false, IsTrue, IsFalse, List, Contains, slice_index_or}
use Rattle.std.specs.Int.{int_max}
use Rattle.border_graph.specs.Links.{IsWayBelow}
use Rattle.border_graph.specs.Edges.{IsReachedBelow}
use Rattle.border_graph.specs.declared.edge_source.Edge.{Edge}
use Rattle.border_graph.specs.declared.bottleneck.Settled.{Settled}
use Rattle.border_graph.specs.declared.frontier.Entry.{Entry}
use Rattle.border_graph.specs.Frontier.{is_among}

-- the entry at the end of an edge from the entry's node
abbrev pub raised : Entry → Edge → Entry
raised entry way = record { crest = int_max entry.crest way.level; level = way.level; node = way.to }

-- for the first `count` edges of the list, the node at the end is visited or has an entry in the frontier; each new entry
-- belongs to one of the edges
pub record AreRaised (ways : List Edge) (count : ℕ) (entry : Entry) (visited : List ℕ) (old new : List Entry) : Type 0 where
  pub waits : (k : ℕ) (d : Edge) → k < count → (is_among visited (slice_index_or ways k d).to ≡ true) ⊎ Contains new (raised entry (slice_index_or ways k d))
  pub others : (l : Entry) → Contains old l → Contains new l
  pub only : (l : Entry) → Contains new l → Contains old l ⊎ ((way : Edge) × (Contains ways way × (l ≡ raised entry way)))

-- the frontier has an entry for x with a crest of at most the level
pub record WaitsBelow (frontier : List Entry) (x : ℕ) (level : ℤ) : Type 0 where
  pub entry : Entry
  pub waits : Contains frontier entry
  pub node : entry.node ≡ x
  pub low : entry.crest ≤ℤ level

-- `settled` has the entry's node and crest, and says whether one of these edges is lower
pub record IsSettledBy (entry : Entry) (edges : List Edge) (settled : Settled) : Type 0 where
  pub node : settled.node ≡ entry.node
  pub crest : settled.crest ≡ entry.crest
  pub no_lower : IsTrue settled.has_no_lower → (edge : Edge) → Contains edges edge → entry.crest ≤ℤ edge.level
  pub lower : IsFalse settled.has_no_lower → (edge : Edge) × (Contains edges edge × (edge.level <ℤ entry.crest))

-- the node was settled below the level, or at the level without a lower edge from it
abbrev pub HasLevel : Settled → ℤ → Type 0
HasLevel settled level = (settled.crest <ℤ level) ⊎ ((settled.crest ≡ level) × IsTrue settled.has_no_lower)

module _ (IsLink : ℕ → ℕ → ℤ → Type 0) where
  -- the least level, not below the entry's crest, at which a path leads from the entry's node to the outlet node
  pub record IsEnd (entry : Entry) (level : ℤ) : Type 0 where
    pub high : entry.crest ≤ℤ level
    pub reached : (rest : List ℕ) × IsWayBelow IsLink 0 level entry.node rest
    pub least : (lower : ℤ) (rest : List ℕ) → entry.crest ≤ℤ lower → IsWayBelow IsLink 0 lower entry.node rest → level ≤ℤ lower

  -- the frontier after the node of an entry is expanded
  pub record IsExpanded (Exact : Type 0) (visited : List ℕ) (old new : List Entry) (entry : Entry) : Type 0 where
    pub inner : 0 < entry.node
    pub others : (l : Entry) → Contains old l → Contains new l
    pub only : (l : Entry) → Contains new l → Contains old l ⊎ ((entry.crest ≤ℤ l.crest) × (Exact → IsReachedBelow IsLink entry.node l.crest l.node))
    pub left : (y : ℕ) (level : ℤ) → IsLink entry.node y level → (is_among visited y ≡ true) ⊎ WaitsBelow new y (int_max entry.crest level)

  module _ (start : ℕ) (visited : List ℕ) (frontier : List Entry) where
    -- x is visited, or has an entry in the frontier at no more than the level
    abbrev pub IsOn : ℕ → ℤ → Type 0
    IsOn x level = (is_among visited x ≡ true) ⊎ WaitsBelow frontier x level

    -- all paths from the start up to the floor have been followed. If the edges read are exactly the links, the start reaches
    -- each entry over them
    pub record IsSearching (Exact : Type 0) : Type 0 where
      pub floor : ℤ
      pub first : IsOn start floor
      pub outlet : is_among visited 0 ≡ false
      pub below : Exact → (level : ℤ) (rest : List ℕ) → IsWayBelow IsLink 0 level start rest → floor ≤ℤ level
      pub above : (l : Entry) → Contains frontier l → floor ≤ℤ l.crest
      pub ways : Exact → (l : Entry) → Contains frontier l → IsReachedBelow IsLink start l.crest l.node
      pub reached : Exact → (x : ℕ) → is_among visited x ≡ true → IsReachedBelow IsLink start floor x
      pub border : (x : ℕ) → is_among visited x ≡ true → (y : ℕ) (level : ℤ) → IsLink x y level → IsOn y (int_max floor level)
