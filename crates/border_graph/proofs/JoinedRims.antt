-- The levels found over the graph of a mosaic are the filled levels of its rims.
use Rattle.std.proofs.Common.{rules}
use Rattle.border_graph.proofs.Prelude.{AreOfMosaic, AreReordered, AreRimsAt, AreSummaries, IsCutOff, IsFalse, IsFilledLevel, IsGraphOf, IsJoinedLevel, IsLink, IsMosaic, IsPlacedLink, IsRimAt, IsRimNumberOf, IsThere, IsWayBelow, List, Mosaic, MosaicGraph, Node, Outlet, Rim, RimPoint, Summary, ℕ, ℤ, [], ap, arith, cases_lt, eq_or_not, get_or, get_or_past, height-le_level, inl, inr, int_max, is_ground, le-max_left, length, map, max-le, node_number, not_void, nowhere, point_of, refl, rim_number, rim_number_below, rim_point, slice_index_or, solid_if, subst, summary_at, sym, terrain, true≢false, void, ≤ℤ_antisym, ≤ℤ_same, ◌*◌, ◌-◌, ◌<◌, ◌∙◌, ◌∷◌, ◌≡◌, ◌≢◌, ◌≤ℤ◌, ◌≤◌}
use Rattle.labelling.specs.Raising.{AreRimLevels}
use Rattle.border_graph.specs.Joins.{IsSideOf, HaveNoSide, AreJoined, AreLevelled, LeadsNowhere}
use Rattle.border_graph.proofs.Joined.{of, there_at, ground_at, solid_at, joined_is_filled, is_joined, are_in_order}
use Rattle.border_graph.proofs.PlacedWays.{joined_over_links, to_placed}
use Rattle.border_graph.proofs.Turned.{height_there}

pub max_is : (a b : ℤ) → b ≤ℤ a → int_max a b ≡ a
max_is a b le = ≤ℤ_antisym (int_max a b) a (max-le a b a (≤ℤ_same a) le) (le-max_left a b)

module _ (g : MosaicGraph) (n : ℕ) (summaries : List Summary) (side : g.side ≡ n) (moved : AreReordered summaries g.summaries) where
  height_same : (t k : ℕ) → t < length summaries → (rim_point (summary_at g.summaries t) k).height ≡ (rim_point (summary_at summaries t) k).height
  height_same t k small = ap (λ (r : List RimPoint). (get_or r k nowhere).height) (moved.each t small).rim

  there_before : (t k : ℕ) → IsThere g.side g.summaries t k → IsThere n summaries t k
  there_before t k there = search rules

  -- each ground rim point has a level
  pub rims_are_levelled : IsSideOf n summaries → (rims : List (List ℤ)) → AreRimsAt g rims (length summaries) → AreLevelled summaries rims
  rims_are_levelled sides rims at t k small full gap = elim (cases_lt k (4 * (n - 1))) [
    | inl within ↦ ((at t small).each k (subst (λ v. k < 4 * (v - 1)) (sym side) within)).some (λ none. full (sym (height_same t k small) ∙ none)) gap
    | inr past ↦ full (ap (λ (p : RimPoint). p.height) (get_or_past (summary_at summaries t).rim k nowhere (subst (λ v. v ≤ k) (sym (sides t small)) past)))
  ]

  -- if no path leads out over the graph, none leads out over links above the void
  pub leads_nowhere : IsCutOff g → LeadsNowhere n summaries
  leads_nowhere cut = record {
    tile = cut.tile;
    number = cut.number;
    there = there_before cut.tile cut.number cut.there;
    no_way = λ order level rest way. cut.no_way n summaries (record { side = side; all = moved; order = order }) level (map (node_number n) rest)
        (subst (λ v. IsWayBelow (IsPlacedLink n summaries) 0 level (node_number v (Rim cut.tile cut.number)) (map (node_number n) rest)) (sym side)
        (to_placed n summaries level (Rim cut.tile cut.number) rest (over_all level (Rim cut.tile cut.number) rest way)));
  }
    where
      over_all : (level : ℤ) (x : Node) (rest : List Node) → IsWayBelow (λ x y l. IsLink n summaries x y l × (l ≢ void)) Outlet level x rest → IsWayBelow (IsLink n summaries) Outlet level x rest
      over_all level x [] way = way
      over_all level x (y ∷ rest) way = ((way.0.0, (way.0.1.0.0, way.0.1.1)), over_all level y rest way.1)

module _ (m : Mosaic) (is : IsMosaic m) (summaries : List Summary) (all : AreSummaries m summaries) where
  have_side : IsSideOf m.side summaries
  have_side t small = (of m is summaries all t small).rim.whole

  -- the side of the summaries is that of the mosaic
  pub one_side : (n : ℕ) → 3 ≤ n → 0 < length summaries → IsSideOf n summaries → n ≡ m.side
  one_side n low some sides =
      let a = sides 0 some in
      let b = have_side 0 some in
      let side = is.side_low in
      same n m.side low side (sym a ∙ b)
    where
      same : (n k : ℕ) → 3 ≤ n → 3 ≤ k → 4 * (n - 1) ≡ 4 * (k - 1) → n ≡ k
      same n k low side h = omega arith

  pub some_side : HaveNoSide summaries → ⊥
  some_side none = none m.side (is.side_low, is.side_high) have_side

  module _ (g : MosaicGraph) (side : g.side ≡ m.side) (moved : AreReordered summaries g.summaries) where
    graph : IsGraphOf m.side summaries g
    graph = record { side = side; all = moved; order = are_in_order m is summaries all }

    of_mosaic : AreOfMosaic m.side summaries
    of_mosaic = record { mosaic = m; is = is; all = all; side = refl }

    -- from each ground rim point a path leads out
    pub not_cut_off : IsCutOff g → ⊥
    not_cut_off cut =
        let t = cut.tile in
        let k = cut.number in
        let way = is_joined m is summaries all t k (there_before g m.side summaries side moved t k cut.there) in
        cut.no_way m.side summaries graph way.0 (map (node_number m.side) way.1.rest)
        (subst (λ v. IsWayBelow (IsPlacedLink m.side summaries) 0 way.0 (node_number v (Rim t k)) (map (node_number m.side) way.1.rest)) (sym side) (to_placed m.side summaries way.0 (Rim t k) way.1.rest way.1.way))

    -- the level of a ground rim point is the filled level of its point
    level_is : (t k : ℕ) (small : t < length summaries) (there : IsThere m.side summaries t k) (rim : List ℤ) → IsRimAt g t rim → (e : ℕ) → IsRimNumberOf m.side (summary_at summaries t).corner k (point_of m.side (summary_at summaries t).corner e) →
        IsFilledLevel (terrain m) (point_of m.side (summary_at summaries t).corner e) (slice_index_or rim k void)
    level_is t k small there rim at e number =
        let p = point_of m.side (summary_at summaries t).corner e in
        let same = height_same g m.side summaries side moved t k small in
        let found = (at.each k (subst (λ v. k < 4 * (v - 1)) (sym side) there.number)).found (λ gap. there.solid (sym same ∙ gap)) in
        let joined : IsJoinedLevel (IsPlacedLink m.side summaries) 0 (node_number m.side (Rim t k)) found.0 = subst (λ v. IsJoinedLevel (IsPlacedLink m.side summaries) 0 (node_number v (Rim t k)) found.0) side (found.1.0 m.side summaries graph of_mosaic) in
        let filled : IsFilledLevel (terrain m) p found.0 = joined_is_filled m is summaries all t k there found.0 (joined_over_links m.side summaries t k found.0 there joined) p number in
        let low : (rim_point (summary_at g.summaries t) k).height ≤ℤ found.0 = subst (λ v. v ≤ℤ found.0) (sym (same ∙ height_there m is summaries all t k p small number)) (height-le_level (terrain m) p found.0 filled) in
        subst (λ v. IsFilledLevel (terrain m) p v) (sym (found.1.1 ∙ max_is found.0 (rim_point (summary_at g.summaries t) k).height low)) filled

    rim_levels_are : (t : ℕ) (small : t < length summaries) (rim : List ℤ) → IsRimAt g t rim → AreRimLevels m (summary_at summaries t).corner rim
    rim_levels_are t small rim at = record {
      whole = at.whole ∙ ap (λ v. 4 * (v - 1)) side;
      filled = λ e inside on_rim on.
          let there = there_at m is summaries all t small e inside on_rim (solid_at m is summaries all t small e inside on) in
          level_is t (rim_number m.side e) small there rim at e (record { index = e; small = inside; rim = on_rim; number = refl; point = refl });
      void_points = λ e inside on_rim off.
          let k = rim_number m.side e in
          (at.each k (subst (λ v. k < 4 * (v - 1)) (sym side) (rim_number_below m.side e is.side_low inside))).none
          (height_same g m.side summaries side moved t k small ∙ ((of m is summaries all t small).rim.height e inside on_rim ∙ gap_height e inside off));
    }
      where
        gap_height : (e : ℕ) → e < m.side * m.side → IsFalse (is_ground m (point_of m.side (summary_at summaries t).corner e)) → slice_index_or (of m is summaries all t small).heights e void ≡ void
        gap_height e inside off = elim (eq_or_not (slice_index_or (of m is summaries all t small).heights e void) void) [
          | inl gap ↦ gap
          | inr full ↦ absurd (true≢false (sym (ground_at m is summaries all t small e (solid_if m.side (of m is summaries all t small).heights e inside (not_void (slice_index_or (of m is summaries all t small).heights e void) full))) ∙ off))
        ]

    -- the rims have the filled levels
    pub rims_are_joined : (rims : List (List ℤ)) → length rims ≡ length summaries → AreRimsAt g rims (length summaries) → AreJoined m summaries rims
    rims_are_joined rims whole at = record { whole = whole; each = λ t small. rim_levels_are t small (get_or rims t []) (at t small) }
