-- The listed edges from a rim point, in its tile and in other tiles that hold the point, are all its links. If the tiles are
-- those of a mosaic, they are exactly its links.
use Rattle.std.proofs.Common.{rules}
use Rattle.border_graph.proofs.Prelude.{AreAllEdges, AreApart, AreEdges, AreOfMosaic, AreSummaries, AreTileEdges, Contains, Contains-permutation, Corner, Edge, IsIndexOf, IsLink, IsMosaic, IsPermutation-sym, IsPlacedLink, IsReordered, IsRimNumberOf, IsSharedLink, IsThere, IsToOther, IsTrue, List, Mosaic, Node, Outlet, Point, Rim, RimPoint, Spill, Summary, TileGraph, ℕ, ℤ, [], ap, arith, cases_Bool, corner_at, eq_or_not, get_or, inl, inner_only, inr, is_ground, is_rim, length, node_number, nowhere, one_index, one_rim_point, point_of, pos, refl, rim_number, rim_point, rising_from, subst, summary_at, sym, void, ◌*◌, ◌+◌, ◌-◌, ◌<◌, ◌∙◌, ◌∷◌, ◌≡◌, ◌≢◌, ◌≤◌}
use Rattle.lattice.proofs.Samples.{index_below, index_unique, index_of_point, held_at, point_at_index}
use Rattle.border_graph.specs.Sharing.{AreInOrder, IsOfRim}
use Rattle.border_graph.proofs.Joined.{at_node, ground_at, solid_at, there_at, are_in_order}
use Rattle.border_graph.proofs.PlacedWays.{one_tile, one_number, is_there}
use Rattle.border_graph.proofs.Inside.{out_link, inner_link}

-- a point on the rim of a tile is on the rim of each tile that holds it
rim_of_other : (n : ℕ) (c other : Corner) (p : Point) (k e : ℕ) → 3 ≤ n → IsOfRim n c k p → IsIndexOf n other p e → IsTrue (is_rim n e)
rim_of_other n c other p k e side here there = elim (cases_Bool (is_rim n e)) [
  | inl on ↦ on
  | inr off ↦
      let same : other ≡ c = sym (inner_only n other e p side there off c (held_at n c p here.index here.at)) in
      let index : here.index ≡ e = index_unique n c p here.index e here.at (subst (λ o. IsIndexOf n o p e) same there) in
      subst (λ i. IsTrue (is_rim n i)) index here.rim
]

one_point : (n : ℕ) (c : Corner) (k : ℕ) (p q : Point) → 3 ≤ n → IsRimNumberOf n c k p → IsRimNumberOf n c k q → p ≡ q
one_point n c k p q side a b =
    let same : a.index ≡ b.index = one_rim_point n a.index b.index side a.small b.small a.rim b.rim (a.number ∙ sym b.number) in
    sym a.point ∙ (ap (λ e. point_of n c e) same ∙ b.point)

module _ (n : ℕ) (low : 3 ≤ n) (summaries : List Summary) (order : AreInOrder summaries) (corners : List Corner) (many : length corners ≡ length summaries)
    (corner_is : (t : ℕ) → t < length summaries → corner_at corners t ≡ (summary_at summaries t).corner)
    (t k : ℕ) (small : t < length summaries) (number : k < 4 * (n - 1)) (ways : TileGraph) (told : IsReordered (summary_at summaries t) ways.summary) (new : List Edge) (listed : AreTileEdges n corners ways t k [] new) where
  apart : AreApart corners
  apart u v small_u small_v equal =
      let in_u : u < length summaries = subst (λ k. u < k) many small_u in
      let in_v : v < length summaries = subst (λ k. v < k) many small_v in
      one_index (λ (b : Summary). b.corner) summaries u v (record { corner = record { lat = pos 0; lon = pos 0 }; rim = []; spills = [] }) (rising_from (λ (b : Summary). b.corner) summaries order.rising) in_u in_v
      (sym (corner_is u in_u) ∙ (equal ∙ corner_is v in_v))

  point_is : point_of n (corner_at corners t) listed.index ≡ point_of n (summary_at summaries t).corner listed.index
  point_is = ap (λ (d : Corner). point_of n d listed.index) (corner_is t small)

  spills_up : (s : Spill) → Contains ways.summary.spills s → Contains (summary_at summaries t).spills s
  spills_up s = Contains-permutation ways.summary.spills (summary_at summaries t).spills s (IsPermutation-sym (summary_at summaries t).spills ways.summary.spills told.spills)

  spills_down : (s : Spill) → Contains (summary_at summaries t).spills s → Contains ways.summary.spills s
  spills_down s = Contains-permutation (summary_at summaries t).spills ways.summary.spills s told.spills

  -- the point, by its rim number
  numbered : IsRimNumberOf n (summary_at summaries t).corner k (point_of n (corner_at corners t) listed.index)
  numbered = record { index = listed.index; small = listed.rim.small; rim = listed.rim.rim; number = listed.rim.number; point = sym point_is }

  height_is : (rim_point (summary_at summaries t) k).height ≡ (rim_point ways.summary k).height
  height_is = ap (λ (r : List RimPoint). (get_or r k nowhere).height) (sym told.rim)

  before_others : (way : Edge) → Contains listed.second way → Contains new way
  before_others way has = search rules

  sum_is : (a l : ℕ) → a + (1 + l) ≡ 1 + a + l
  sum_is a l = omega arith

  within_only : (way : Edge) → Contains listed.second way → IsPlacedLink n summaries (node_number n (Rim t k)) way.to way.level
  within_only way has = elim (listed.across.only way has) [
    | inr by ↦ record {
      tile = t;
      number = k;
      to = Rim t by.0;
      starts = refl;
      ends = by.1.0 ∙ sum_is (t * (4 * (n - 1))) by.0;
      link = inner_link n (ways.summary ∷ []) summaries 0 t small (sym told.rim) spills_up k by.0 way.level by.1.1;
    }
    | inl first ↦ elim (listed.out.only way first) [
      | inl old ↦ let h = old.1 in absurd (omega arith)
      | inr by ↦ record {
        tile = t;
        number = k;
        to = Outlet;
        starts = refl;
        ends = by.0;
        link = out_link n (ways.summary ∷ []) summaries 0 t small (sym told.rim) spills_up k way.level by.1;
      }
    ]
  ]

  out_listed : (level : ℤ) → IsLink n summaries (Rim t k) Outlet level → Contains new (record { level = level; to = 0 })
  out_listed level link = before_others (record { level = level; to = 0 }) (listed.across.still (record { level = level; to = 0 }) (listed.out.all level (out_link n summaries (ways.summary ∷ []) t 0 (omega arith) told.rim spills_down k level link)))

  inner_listed : (l : ℕ) (level : ℤ) → IsLink n summaries (Rim t k) (Rim t l) level → Contains new (record { level = level; to = node_number n (Rim t l) })
  inner_listed l level link = before_others (record { level = level; to = node_number n (Rim t l) })
      (subst (λ x. Contains listed.second (record { level = level; to = x })) (sum_is (t * (4 * (n - 1))) l) (listed.across.all l level (inner_link n summaries (ways.summary ∷ []) t 0 (omega arith) told.rim spills_down k l level link)))

  shared_listed : (u l : ℕ) (level : ℤ) → IsThere n summaries t k → IsThere n summaries u l → IsSharedLink n summaries t k u l level → Contains new (record { level = level; to = node_number n (Rim u l) })
  shared_listed u l level on there shared =
      let full : (rim_point ways.summary k).height ≢ void = λ gap. on.solid (height_is ∙ gap) in
      let q : point_of n (summary_at summaries u).corner shared.there.index ≡ point_of n (corner_at corners t) listed.index = shared.there.point ∙ one_point n (summary_at summaries t).corner k shared.point (point_of n (corner_at corners t) listed.index) low shared.here numbered in
      let at : IsIndexOf n (summary_at summaries u).corner (point_of n (corner_at corners t) listed.index) shared.there.index = subst (λ r. IsIndexOf n (summary_at summaries u).corner r shared.there.index) q (index_of_point n (summary_at summaries u).corner shared.there.index (omega (arith, low)) (order.corners u there.tile) shared.there.small) in
      let has = (listed.others full).listed apart (summary_at summaries u).corner u shared.there.index (subst (λ v. u < v) (sym many) there.tile) (corner_is u there.tile) shared.apart at in
      subst (λ v. Contains new (record { level = v; to = node_number n (Rim u l) })) (sym height_is ∙ shared.height)
      (subst (λ j. Contains new (record { level = (rim_point ways.summary k).height; to = node_number n (Rim u j) })) shared.there.number has)

  link_listed : (to : Node) (level : ℤ) → IsLink n summaries (Rim t k) to level → Contains new (record { level = level; to = node_number n to })
  link_listed Outlet level link = out_listed level link
  link_listed (Rim u l) level (on, (there, inl inner)) = subst (λ v. Contains new (record { level = level; to = node_number n (Rim v l) })) inner.0
      (inner_listed l level (subst (λ v. IsLink n summaries (Rim t k) (Rim v l) level) (sym inner.0) (on, (there, inl inner))))
  link_listed (Rim u l) level (on, (there, inr shared)) = shared_listed u l level on there shared

  pub all_listed : AreAllEdges (IsPlacedLink n summaries) (node_number n (Rim t k)) new
  all_listed y level link =
      let there = is_there n summaries link.tile link.number link.to level link.link in
      let tile : link.tile ≡ t = one_tile (4 * (n - 1)) link.tile t link.number k there.number number (sym link.starts) in
      let place : link.number ≡ k = one_number (4 * (n - 1)) link.tile t link.number k tile (sym link.starts) in
      subst (λ x. Contains new (record { level = level; to = x })) (sym link.ends)
      (link_listed link.to level (subst (λ v. IsLink n summaries (Rim v k) link.to level) tile (subst (λ j. IsLink n summaries (Rim link.tile j) link.to level) place link.link)))

module _ (m : Mosaic) (is : IsMosaic m) (summaries : List Summary) (all : AreSummaries m summaries) (corners : List Corner) (many : length corners ≡ length summaries)
    (corner_is : (t : ℕ) → t < length summaries → corner_at corners t ≡ (summary_at summaries t).corner)
    (t k : ℕ) (small : t < length summaries) (number : k < 4 * (m.side - 1)) (ways : TileGraph) (told : IsReordered (summary_at summaries t) ways.summary) (new : List Edge) (listed : AreTileEdges m.side corners ways t k [] new) where
  order : AreInOrder summaries
  order = are_in_order m is summaries all

  p_is : point_of m.side (corner_at corners t) listed.index ≡ point_of m.side (summary_at summaries t).corner listed.index
  p_is = point_is m.side is.side_low summaries order corners many corner_is t k small number ways told new listed

  at_height : (rim_point (summary_at summaries t) k).height ≡ (rim_point ways.summary k).height
  at_height = height_is m.side is.side_low summaries order corners many corner_is t k small number ways told new listed

  of_rim : IsOfRim m.side (summary_at summaries t).corner k (point_of m.side (corner_at corners t) listed.index)
  of_rim = record {
    index = listed.index;
    rim = listed.rim.rim;
    number = listed.rim.number;
    at = let l = is.side_low in subst (λ q. IsIndexOf m.side (summary_at summaries t).corner q listed.index) (sym p_is) (index_of_point m.side (summary_at summaries t).corner listed.index (omega arith) (order.corners t small) listed.rim.small);
  }

  -- the rim point is ground
  module _ (full : (rim_point ways.summary k).height ≢ void) where
    here : IsThere m.side summaries t k
    here = record { tile = small; number = number; solid = λ gap. full (sym at_height ∙ gap) }

    on_ground : IsTrue (is_ground m (point_of m.side (corner_at corners t) listed.index))
    on_ground =
        let a = at_node m is summaries all t small k here in
        let index : a.e ≡ listed.index = one_rim_point m.side a.e listed.index is.side_low a.inside listed.rim.small a.rim listed.rim.rim (a.number ∙ sym listed.rim.number) in
        subst (λ q. IsTrue (is_ground m q)) (sym p_is) (subst (λ e. IsTrue (is_ground m (point_of m.side (summary_at summaries t).corner e))) index (ground_at m is summaries all t small a.e a.solid))

    -- an edge to the same point of another tile
    to_other : (way : Edge) → IsToOther m.side corners t (point_of m.side (corner_at corners t) listed.index) (rim_point ways.summary k).height way → IsPlacedLink m.side summaries (node_number m.side (Rim t k)) way.to way.level
    to_other way o =
        let u = o.tile in
        let below : u < length summaries = subst (λ v. u < v) many o.small in
        let at : IsIndexOf m.side (summary_at summaries u).corner (point_of m.side (corner_at corners t) listed.index) o.index = subst (λ (d : Corner). IsIndexOf m.side d (point_of m.side (corner_at corners t) listed.index) o.index) (corner_is u below) o.at in
        let inside = index_below m.side (summary_at summaries u).corner (point_of m.side (corner_at corners t) listed.index) o.index at in
        let point = point_at_index m.side (summary_at summaries u).corner (point_of m.side (corner_at corners t) listed.index) o.index at in
        let rim = rim_of_other m.side (summary_at summaries t).corner (summary_at summaries u).corner (point_of m.side (corner_at corners t) listed.index) k o.index is.side_low of_rim at in
        let solid = solid_at m is summaries all u below o.index inside (subst (λ q. IsTrue (is_ground m q)) (sym point) on_ground) in
        record {
          tile = t;
          number = k;
          to = Rim u (rim_number m.side o.index);
          starts = refl;
          ends = o.to;
          link = (
            here,
            (
              there_at m is summaries all u below o.index inside rim solid,
              inr (record {
                apart = o.apart;
                point = point_of m.side (corner_at corners t) listed.index;
                here = numbered m.side is.side_low summaries order corners many corner_is t k small number ways told new listed;
                there = record { index = o.index; small = inside; rim = rim; number = refl; point = point };
                height = at_height ∙ sym o.level;
              }),
            ),
          );
        }

  inner_edge : (way : Edge) → Contains listed.second way → IsPlacedLink m.side summaries (node_number m.side (Rim t k)) way.to way.level
  inner_edge = within_only m.side is.side_low summaries order corners many corner_is t k small number ways told new listed

  each : (way : Edge) → Contains new way → IsPlacedLink m.side summaries (node_number m.side (Rim t k)) way.to way.level
  each way has = elim (eq_or_not (rim_point ways.summary k).height void) [
    | inl gap ↦ inner_edge way (subst (λ (l : List Edge). Contains l way) (listed.nothing gap) has)
    | inr full ↦ elim ((listed.others full).only way has) [ inl inner ↦ inner_edge way inner | inr other ↦ to_other full way other ]
  ]

  exactly : AreEdges (IsPlacedLink m.side summaries) (node_number m.side (Rim t k)) new
  exactly = record { each = each; all = all_listed m.side is.side_low summaries order corners many corner_is t k small number ways told new listed }

-- the listed edges are all links from the rim point, for summaries of any mosaic of this side
pub are_edges : (n : ℕ) (summaries : List Summary) (of : AreOfMosaic n summaries) (corners : List Corner) (many : length corners ≡ length summaries)
    (corner_is : (t : ℕ) → t < length summaries → corner_at corners t ≡ (summary_at summaries t).corner)
    (t k : ℕ) (small : t < length summaries) (number : k < 4 * (n - 1)) (ways : TileGraph) (told : IsReordered (summary_at summaries t) ways.summary) (new : List Edge) → AreTileEdges n corners ways t k [] new →
    AreEdges (IsPlacedLink n summaries) (node_number n (Rim t k)) new
are_edges n summaries of corners many corner_is t k small number ways told new listed = subst (λ v. AreEdges (IsPlacedLink v summaries) (node_number v (Rim t k)) new) (sym of.side)
    (exactly of.mosaic of.is summaries of.all corners many corner_is t k small (subst (λ v. k < 4 * (v - 1)) of.side number) ways told new (subst (λ v. AreTileEdges v corners ways t k [] new) of.side listed))

-- a node of no tile has no edges
pub none_listed : (n : ℕ) (summaries : List Summary) (node t k : ℕ) → k < 4 * (n - 1) → node ≡ node_number n (Rim t k) → length summaries ≤ t → (new : List Edge) → new ≡ [] → AreEdges (IsPlacedLink n summaries) node new
none_listed n summaries node t k number at past new empty = record {
  each = λ way has. let h = (subst (λ (l : List Edge). Contains l way) empty has).1 in absurd (omega arith);
  all = λ y level link.
      let there = is_there n summaries link.tile link.number link.to level link.link in
      let tile : t ≡ link.tile = one_tile (4 * (n - 1)) t link.tile k link.number number there.number (sym at ∙ link.starts) in
      absurd (omega arith);
}
