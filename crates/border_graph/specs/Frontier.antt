-- The frontier of a search: nodes that it may visit next, the lowest crest first. Also: which nodes are visited.
use Rattle.std.specs.Prelude.{◌≡◌, ℕ, ◌==◌, ◌≤ℤ◌, Bool, true, false, cond, List, Contains}
use Rattle.std.specs.List.{list_any}
use Rattle.border_graph.specs.declared.frontier.Entry.{Entry}

-- whether the list contains the node x
abbrev pub is_among : List ℕ → ℕ → Bool
is_among nodes x = list_any (λ y. x == y) nodes

-- the entry was in the frontier, and its node is now visited. No entry of another unvisited node was lower
pub record IsNext (old : List Entry) (visited : List ℕ) (new : List Entry) (visited' : List ℕ) (entry : Entry) : Type 0 where
  pub waited : Contains old entry
  pub fresh : is_among visited entry.node ≡ false
  pub lowest : (l : Entry) → Contains old l → is_among visited l.node ≡ false → entry.crest ≤ℤ l.crest
  pub above : (l : Entry) → Contains new l → entry.crest ≤ℤ l.crest
  pub others : (l : Entry) → Contains old l → is_among visited' l.node ≡ false → Contains new l
  pub only : (l : Entry) → Contains new l → Contains old l
  pub takes : (x : ℕ) → is_among visited' x ≡ cond (entry.node == x) true (is_among visited x)

-- each node in the frontier is visited
abbrev pub NoneLeft : List Entry → List ℕ → Type 0
NoneLeft frontier visited = (l : Entry) → Contains frontier l → is_among visited l.node ≡ true
