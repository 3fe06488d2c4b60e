-- The least levels over links by node number are those over the links between rim points.
use Rattle.std.proofs.Common.{rules}
use Rattle.border_graph.proofs.Prelude.{IsJoinedLevel, IsLink, IsPlacedLink, IsThere, IsWayBelow, List, Node, Outlet, Rim, Summary, ℕ, ℤ, [], ap, arith, map, node_number, refl, row_of_cell, subst, sym, ◌*◌, ◌+◌, ◌-◌, ◌/◌, ◌<◌, ◌∙◌, ◌∷◌, ◌≡◌, ◌≤ℤ◌}

pub one_tile : (size t u k l : ℕ) → k < size → l < size → 1 + t * size + k ≡ 1 + u * size + l → t ≡ u
one_tile size t u k l in_k in_l same = search rules

pub one_number : (size t u k l : ℕ) → t ≡ u → 1 + t * size + k ≡ 1 + u * size + l → k ≡ l
one_number size t u k l tile same = search rules

-- a link's first rim point is ground
pub is_there : (n : ℕ) (summaries : List Summary) (t k : ℕ) (to : Node) (level : ℤ) → IsLink n summaries (Rim t k) to level → IsThere n summaries t k
is_there n summaries t k Outlet level link = link.0
is_there n summaries t k (Rim u l) level link = link.0

-- a path that starts with a link from a rim point's number is a path that starts with a link from the rim point
module _ (n : ℕ) (summaries : List Summary) (level : ℤ) (t k : ℕ) (there : IsThere n summaries t k) (y : ℕ) (link_level : ℤ) (low : link_level ≤ℤ level) where
  onward : (u l : ℕ) (to : Node) → node_number n (Rim t k) ≡ node_number n (Rim u l) → y ≡ node_number n to → IsLink n summaries (Rim u l) to link_level →
      ((v j : ℕ) → IsThere n summaries v j → y ≡ node_number n (Rim v j) → (back : List Node) × IsWayBelow (IsLink n summaries) Outlet level (Rim v j) back) →
      (back : List Node) × IsWayBelow (IsLink n summaries) Outlet level (Rim t k) back
  onward u l to at at_y link more =
      let tile : t ≡ u = one_tile (4 * (n - 1)) t u k l there.number (is_there n summaries u l to link_level link).number at in
      let number : k ≡ l = one_number (4 * (n - 1)) t u k l tile at in
      by to at_y (subst (λ v. IsLink n summaries (Rim v k) to link_level) (sym tile) (subst (λ j. IsLink n summaries (Rim u j) to link_level) (sym number) link))
    where
      by : (z : Node) → y ≡ node_number n z → IsLink n summaries (Rim t k) z link_level → (back : List Node) × IsWayBelow (IsLink n summaries) Outlet level (Rim t k) back
      by Outlet at_z here = (Outlet ∷ [], ((link_level, (here, low)), refl))
      by (Rim v j) at_z here = let on = more v j here.1.0 at_z in (Rim v j ∷ on.0, ((link_level, (here, low)), on.1))

module _ (n : ℕ) (summaries : List Summary) where
  placed : (x y : Node) (level : ℤ) → IsLink n summaries x y level → IsPlacedLink n summaries (node_number n x) (node_number n y) level
  placed Outlet y level link = absurd link
  placed (Rim t k) y level link = record { tile = t; number = k; to = y; starts = refl; ends = refl; link = link }

  pub to_placed : (level : ℤ) (x : Node) (rest : List Node) → IsWayBelow (IsLink n summaries) Outlet level x rest → IsWayBelow (IsPlacedLink n summaries) 0 level (node_number n x) (map (node_number n) rest)
  to_placed level x [] way = ap (node_number n) way
  to_placed level x (y ∷ rest) way = ((way.0.0, (placed x y way.0.0 way.0.1.0, way.0.1.1)), to_placed level y rest way.1)

  from_placed : (level : ℤ) (t k : ℕ) (rest : List ℕ) → IsThere n summaries t k → IsWayBelow (IsPlacedLink n summaries) 0 level (node_number n (Rim t k)) rest → (back : List Node) × IsWayBelow (IsLink n summaries) Outlet level (Rim t k) back
  from_placed level t k [] there way = absurd (above (t * (4 * (n - 1))) k way)
    where
      above : (a k : ℕ) → 1 + a + k ≡ 0 → ⊥
      above a k h = absurd (omega arith)
  from_placed level t k (y ∷ rest) there way =
      let found = way.0.1.0 in
      onward n summaries level t k there y way.0.0 way.0.1.1 found.tile found.number found.to found.starts found.ends found.link (λ v j is_there on. from_placed level v j rest is_there (subst (λ p. IsWayBelow (IsPlacedLink n summaries) 0 level p rest) on way.1))

  pub joined_over_links : (t k : ℕ) (level : ℤ) → IsThere n summaries t k → IsJoinedLevel (IsPlacedLink n summaries) 0 (node_number n (Rim t k)) level → IsJoinedLevel (IsLink n summaries) Outlet (Rim t k) level
  joined_over_links t k level there joined = record {
    reached = from_placed level t k joined.reached.0 there joined.reached.1;
    least = λ lower rest way. joined.least lower (map (node_number n) rest) (to_placed lower (Rim t k) rest way);
  }

  pub placed_over_links : (t k : ℕ) (level : ℤ) → IsThere n summaries t k → IsJoinedLevel (IsLink n summaries) Outlet (Rim t k) level → IsJoinedLevel (IsPlacedLink n summaries) 0 (node_number n (Rim t k)) level
  placed_over_links t k level there joined = record {
    reached = (map (node_number n) joined.reached.0, to_placed level (Rim t k) joined.reached.0 joined.reached.1);
    least = λ lower rest way. let back = from_placed lower t k rest there way in joined.least lower back.0 back.1;
  }
