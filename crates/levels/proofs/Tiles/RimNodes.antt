-- A ground point on a tile's rim, as a node of the graph of all tiles.
use Rattle.levels.proofs.Prelude.{AreReady, Corner, IsFilledLevel, IsJoinedLevel, IsMosaic, IsPlacedLink, IsRimLevel, IsRimPoint, IsTrue, IsWayBelow, List, Mosaic, Option, TileGraph, ℕ, ℤ, [], ap, arith, corner_at, is_ground, length, map, mul-le-mul_right, node_number, point_of, subst, sym, terrain, ◌*◌, ◌+◌, ◌-◌, ◌<◌, ◌^◌, ◌∷◌, ◌≡◌, ◌≤◌}
use Rattle.border_graph.specs.Joining.{Node, Outlet, Rim, summary_at, IsLink, IsThere, IsRimNumberOf}
use Rattle.border_graph.proofs.Joined.{there_at, at_node, ground_at, solid_at, joined_is_filled, filled_is_joined, is_joined}
use Rattle.border_graph.proofs.PlacedWays.{joined_over_links, placed_over_links, to_placed}
use Rattle.levels.proofs.Tiles.Whole.{summaries, are_summaries, as_many, corner_of_summary}

module _ (m : Mosaic) (is : IsMosaic m) (side : ℕ) (corners : List Corner) (loaded : List (Option TileGraph)) (ready : AreReady m side corners loaded)
    (t k e : ℕ) (place : t < length corners) (rim : IsRimPoint m.side k e) (on_ground : IsTrue (is_ground m (point_of m.side (corner_at corners t) e))) where
  small : t < length (summaries m is side corners loaded ready)
  small = subst (λ n. t < n) (sym (as_many m is side corners loaded ready)) place

  corner_is : (summary_at (summaries m is side corners loaded ready) t).corner ≡ corner_at corners t
  corner_is = corner_of_summary m is side corners loaded ready t place

  there : IsThere m.side (summaries m is side corners loaded ready) t k
  there = subst (λ j. IsThere m.side (summaries m is side corners loaded ready) t j) rim.number
      (there_at m is (summaries m is side corners loaded ready) (are_summaries m is side corners loaded ready) t small e rim.small rim.rim
      (solid_at m is (summaries m is side corners loaded ready) (are_summaries m is side corners loaded ready) t small e rim.small
      (subst (λ (c : Corner). IsTrue (is_ground m (point_of m.side c e))) (sym corner_is) on_ground)))

  numbered : IsRimNumberOf m.side (summary_at (summaries m is side corners loaded ready) t).corner k (point_of m.side (corner_at corners t) e)
  numbered = record { index = e; small = rim.small; rim = rim.rim; number = rim.number; point = ap (λ (c : Corner). point_of m.side c e) corner_is }

  -- the filled level of a rim point is the least crest over the paths from its node to an outlet, and conversely
  pub joined_by_filled : (level : ℤ) → IsFilledLevel (terrain m) (point_of m.side (corner_at corners t) e) level → IsJoinedLevel (IsPlacedLink m.side (summaries m is side corners loaded ready)) 0 (node_number m.side (Rim t k)) level
  joined_by_filled level filled = placed_over_links m.side (summaries m is side corners loaded ready) t k level there
      (filled_is_joined m is (summaries m is side corners loaded ready) (are_summaries m is side corners loaded ready) t k there level (point_of m.side (corner_at corners t) e) numbered filled)

  pub filled_by_joined : (level : ℤ) → IsJoinedLevel (IsPlacedLink m.side (summaries m is side corners loaded ready)) 0 (node_number m.side (Rim t k)) level → IsFilledLevel (terrain m) (point_of m.side (corner_at corners t) e) level
  filled_by_joined level joined = joined_is_filled m is (summaries m is side corners loaded ready) (are_summaries m is side corners loaded ready) t k there level
      (joined_over_links m.side (summaries m is side corners loaded ready) t k level there joined) (point_of m.side (corner_at corners t) e) numbered

  -- some path leads from the node to an outlet
  pub way_out : ((level : ℤ) (rest : List ℕ) → IsWayBelow (IsPlacedLink m.side (summaries m is side corners loaded ready)) 0 level (node_number m.side (Rim t k)) rest → ⊥) → ⊥
  way_out none =
      let way = is_joined m is (summaries m is side corners loaded ready) (are_summaries m is side corners loaded ready) t k there in
      none way.0 (map (node_number m.side) way.1.rest) (to_placed m.side (summaries m is side corners loaded ready) way.0 (Rim t k) way.1.rest way.1.way)

  -- the number of a rim point's node fits into 32 bits
  pub node_there : 2 ^ 32 ≤ 1 + t * (4 * (side - 1)) + k → ⊥
  node_there past =
      let under : k < 4 * (side - 1) = subst (λ s. k < 4 * (s - 1)) (sym ready.same_side) there.number in
      let row : (t + 1) * (4 * (side - 1)) ≤ length corners * (4 * (side - 1)) = mul-le-mul_right (4 * (side - 1)) (let s = place in omega arith) in
      within (t * (4 * (side - 1))) (4 * (side - 1)) (length corners * (4 * (side - 1))) k (subst (λ v. v ≤ length corners * (4 * (side - 1))) (one_more t (4 * (side - 1))) row) under past ready.room
    where
      one_more : (a b : ℕ) → (a + 1) * b ≡ a * b + b
      one_more a b = omega arith

      within : (a size whole l : ℕ) → a + size ≤ whole → l < size → 2 ^ 32 ≤ 1 + a + l → 1 + whole < 2 ^ 32 → ⊥
      within a size whole l le less past room = absurd (omega arith)

-- a node with an edge is that of a ground rim point
module _ (m : Mosaic) (is : IsMosaic m) (side : ℕ) (corners : List Corner) (loaded : List (Option TileGraph)) (ready : AreReady m side corners loaded) where
  there_of : (u l : ℕ) (to : Node) (level : ℤ) → IsLink m.side (summaries m is side corners loaded ready) (Rim u l) to level → IsThere m.side (summaries m is side corners loaded ready) u l
  there_of u l Outlet level link = link.0
  there_of u l (Rim v j) level link = link.0

  pub rim_level_of : (x : ℕ) → 0 < x → (level : ℤ) → IsJoinedLevel (IsPlacedLink m.side (summaries m is side corners loaded ready)) 0 x level → IsRimLevel m corners x level
  rim_level_of x some level joined = first joined.reached.0 joined.reached.1
    where
      first : (rest : List ℕ) → IsWayBelow (IsPlacedLink m.side (summaries m is side corners loaded ready)) 0 level x rest → IsRimLevel m corners x level
      first [] way = absurd (omega arith)
      first (y ∷ rest) way =
          let placed = way.0.1.0 in
          let t = placed.tile in
          let k = placed.number in
          let there = there_of t k placed.to way.0.0 placed.link in
          let at = at_node m is (summaries m is side corners loaded ready) (are_summaries m is side corners loaded ready) t there.tile k there in
          let place : t < length corners = subst (λ n. t < n) (as_many m is side corners loaded ready) there.tile in
          let corner : (summary_at (summaries m is side corners loaded ready) t).corner ≡ corner_at corners t = corner_of_summary m is side corners loaded ready t place in
          let on = ground_at m is (summaries m is side corners loaded ready) (are_summaries m is side corners loaded ready) t there.tile at.e at.solid in
          let rim : IsRimPoint m.side k at.e = record { small = at.inside; rim = at.rim; number = at.number } in
          let on_ground : IsTrue (is_ground m (point_of m.side (corner_at corners t) at.e)) = subst (λ (c : Corner). IsTrue (is_ground m (point_of m.side c at.e))) corner on in
          record {
            tile = t;
            number = k;
            index = at.e;
            node = placed.starts;
            place = place;
            rim = rim;
            on_ground = on_ground;
            filled = filled_by_joined m is side corners loaded ready t k at.e place rim on_ground level
                (subst (λ v. IsJoinedLevel (IsPlacedLink m.side (summaries m is side corners loaded ready)) 0 v level) placed.starts joined);
          }
