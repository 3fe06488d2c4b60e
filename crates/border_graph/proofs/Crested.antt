-- The least level of paths over links is the least of the paths' crests.
use Rattle.border_graph.proofs.Prelude.{Edge, IsJoinedLevel, IsWayBelow, List, ℕ, ℤ, [], int_max, le-max_left, le-max_right, map, max-le, ≤ℤ_antisym, ≤ℤ_same, ◌∷◌, ◌≡◌, ◌≢◌, ◌≤ℤ◌}
use Rattle.border_graph.proofs.Onward.{way_up}
use Rattle.border_graph.specs.Crests.{crest, LeadsOut, IsLeastCrest}

module _ (L : ℕ → ℕ → ℤ → Type 0) where
  -- a path edge by edge is a path of links at its crest
  pub below_crest : (x : ℕ) (way : Edge) (rest : List Edge) → LeadsOut L x (way ∷ rest) → IsWayBelow L 0 (crest way rest) x (map (λ (w : Edge). w.to) (way ∷ rest))
  below_crest x way [] out = ((way.level, (out.0, ≤ℤ_same way.level)), out.1)
  below_crest x way (next ∷ rest) out = (
    (way.level, (out.0, le-max_left way.level (crest next rest))),
    way_up L 0 (crest next rest) (int_max way.level (crest next rest)) (le-max_right way.level (crest next rest)) way.to (map (λ (w : Edge). w.to) (next ∷ rest)) (below_crest way.to next rest out.1),
  )

  record LinkByLink (level : ℤ) (x : ℕ) : Type 0 where
    pub way : Edge
    pub rest : List Edge
    pub out : LeadsOut L x (way ∷ rest)
    pub low : crest way rest ≤ℤ level

  -- a path of links is a path edge by edge
  link_by_link : (level : ℤ) (x y : ℕ) (rest : List ℕ) → IsWayBelow L 0 level x (y ∷ rest) → LinkByLink level x
  link_by_link level x y [] way = record { way = record { level = way.0.0; to = y }; rest = []; out = (way.0.1.0, way.1); low = way.0.1.1 }
  link_by_link level x y (z ∷ rest) way =
      let on = link_by_link level y z rest way.1 in
      record { way = record { level = way.0.0; to = y }; rest = on.way ∷ on.rest; out = (way.0.1.0, on.out); low = max-le way.0.0 (crest on.way on.rest) level way.0.1.1 on.low }

  pub least_crest : (x : ℕ) (level : ℤ) → x ≢ 0 → IsJoinedLevel L 0 x level → IsLeastCrest L x level
  least_crest x level other joined = record { reached = on joined.reached.0 joined.reached.1; least = least }
    where
      least : (way : Edge) (rest : List Edge) → LeadsOut L x (way ∷ rest) → level ≤ℤ crest way rest
      least way rest out = joined.least (crest way rest) (map (λ (w : Edge). w.to) (way ∷ rest)) (below_crest x way rest out)

      on : (rest : List ℕ) → IsWayBelow L 0 level x rest → (way : Edge) × (rest : List Edge) × (LeadsOut L x (way ∷ rest) × (crest way rest ≡ level))
      on [] way = absurd (other way)
      on (y ∷ rest) way = let found = link_by_link level x y rest way in (found.way, found.rest, (found.out, ≤ℤ_antisym (crest found.way found.rest) level found.low (least found.way found.rest found.out)))
