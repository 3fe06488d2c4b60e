-- The fields of a mosaic graph: a graph of each tile, and levels of nodes.
use Rattle.std.proofs.Common.{rules}
use Rattle.border_graph.proofs.Prelude.{AreAllEdges, AreEdges, AreOfMosaic, AreTileEdges, Corner, Edge, IsGraphOf, IsPlacedLink, IsReordered, List, MosaicGraph, Rim, SFits, Summary, TileGraph, ℕ, ℤ, [], ap, arith, cases_eq, cases_lt, corner_at, get_or, get_or-map, get_or-set_other, get_or-set_same, get_or_default, graph_of, inl, inr, int_max, ints, le-max_right, length, length-append, length-map, node_number, pos, rim_point, set, subst, summary_at, sym, void, w16, ≤ℤ_antisym, ◌*◌, ◌++◌, ◌+◌, ◌-◌, ◌<◌, ◌^◌, ◌∙◌, ◌∷◌, ◌≡◌, ◌≢◌, ◌≤ℤ◌, ◌≤◌}
use Rattle.std.proofs.Math.ListN.{get_or-append}
use Rattle.std.proofs.Math.Seq.{get_or-append_seam}
use Rattle.border_graph.specs.MosaicGraph.{AreReordered, IsFound, IsLevelAt, IsWhole}
use Rattle.border_graph.proofs.TileEdges.{all_listed, are_edges, none_listed}

abbrev pub no_graph : TileGraph
no_graph = record { side = 0; summary = record { corner = record { lat = pos 0; lon = pos 0 }; rim = []; spills = [] } }

-- a statement about each item of a list is true with one more item
pub each_more : {X : Type 0} (P : ℕ → X → Type 0) (xs xs' : List X) (x d : X) (i : ℕ) → length xs ≡ i → xs' ≡ xs ++ x ∷ [] → ((t : ℕ) → t < i → P t (get_or xs t d)) → P i x → (t : ℕ) → t < i + 1 → P t (get_or xs' t d)
each_more P xs xs' x d i whole is was now t less = elim (cases_lt t i) [
  | inl earlier ↦ subst (P t) (sym (ap (λ l. get_or l t d) is ∙ get_or-append xs (x ∷ []) d t (subst (λ n. t < n) (sym whole) earlier))) (was t earlier)
  | inr later ↦
      let here : i ≡ t = omega arith in
      subst (P t) (sym (ap (λ l. get_or l t d) is ∙ (ap (λ n. get_or (xs ++ x ∷ []) n d) (sym (whole ∙ here)) ∙ get_or-append_seam xs x [] d))) (subst (λ n. P n x) here now)
]

pub one_longer : {X : Type 0} (xs xs' : List X) (x : X) (i : ℕ) → length xs ≡ i → xs' ≡ xs ++ x ∷ [] → length xs' ≡ i + 1
one_longer xs xs' x i whole is = ap length is ∙ (length-append xs (x ∷ []) ∙ ap (λ n. n + 1) whole)

-- the graph of the tile with this summary
pub record IsGraphWith (side : ℕ) (b : Summary) (graph : TileGraph) : Type 0 where
  pub same : graph.side ≡ side
  pub moved : IsReordered b graph.summary

module _ (side : ℕ) (graphs : List TileGraph) where
  pub summary_is : (t : ℕ) → summary_at (graph_of side graphs).summaries t ≡ (get_or graphs t no_graph).summary
  summary_is t = get_or-map (λ (g : TileGraph). g.summary) graphs t no_graph

  module _ (summaries : List Summary) (count : ℕ) (last : length summaries ≤ count) (below : count ≤ length summaries) (whole : length graphs ≡ count) (each : (t : ℕ) → t < count → IsGraphWith side (summary_at summaries t) (get_or graphs t no_graph)) where
    pub are_reordered : AreReordered summaries (graph_of side graphs).summaries
    are_reordered = record {
      whole = let same : count ≡ length summaries = omega arith in length-map graphs (λ (g : TileGraph). g.summary) ∙ (whole ∙ same);
      each = λ t small. subst (IsReordered (summary_at summaries t)) (sym (summary_is t)) (each t (omega arith)).moved;
    }

    -- no level is known at first
    pub whole_first : (corners : List Corner) (levels : List ℤ) → length corners ≡ count → ((t : ℕ) → t < count → corner_at corners t ≡ (summary_at summaries t).corner) → 1 + length summaries * (4 * (side - 1)) < 2 ^ 32 →
        ((x : ℕ) → get_or levels x void ≡ void) → IsWhole side corners graphs levels
    whole_first corners levels many places room none = record {
      whole = whole ∙ sym many;
      sides = λ t d small.
          let less : t < count = subst (λ n. t < n) whole small in
          subst (λ (g : TileGraph). g.side ≡ side) (get_or_default graphs t no_graph d small) (each t less).same;
      places = λ t small.
          let less : t < count = subst (λ n. t < n) many small in
          ap (λ (b : Summary). b.corner) (summary_is t) ∙ ((each t less).moved.corner ∙ sym (places t less));
      room = let same : length summaries ≡ length corners = omega arith in subst (λ n. 1 + n * (4 * (side - 1)) < 2 ^ 32) same room;
      found = λ x full. absurd (full (none x));
    }

-- a rim point of tile t, from the tile's graph
module _ (side : ℕ) (graphs : List TileGraph) (g : MosaicGraph) (view : graph_of side graphs ≡ g) (t : ℕ) (place : t < length g.summaries) where
  pub place_in : t < length graphs
  place_in = subst (λ n. t < n) (length-map graphs (λ (w : TileGraph). w.summary)) (subst (λ (h : MosaicGraph). t < length h.summaries) (sym view) place)

  pub height_at : (k : ℕ) (ways : TileGraph) → ways ≡ get_or graphs t ways → (rim_point (summary_at g.summaries t) k).height ≡ (rim_point ways.summary k).height
  height_at k ways is = ap (λ (h : MosaicGraph). (rim_point (summary_at h.summaries t) k).height) (sym view)
      ∙ ap (λ (b : Summary). (rim_point b k).height) (summary_is side graphs t ∙ ap (λ (w : TileGraph). w.summary) (get_or_default graphs t no_graph ways place_in ∙ sym is))

pub above : (h : ℤ) → SFits w16 h → void ≤ℤ h
above h fits = omega (arith, ints)

-- the level of a ground rim point
pub level_at : (g : MosaicGraph) (t k : ℕ) (level h v : ℤ) → (rim_point (summary_at g.summaries t) k).height ≡ h → SFits w16 h → h ≢ void → IsFound g (node_number g.side (Rim t k)) level → v ≡ int_max level h → IsLevelAt g t k v
level_at g t k level h v height fits full found is = search rules

-- the known levels, with one more
pub found_more : (side : ℕ) (corners : List Corner) (graphs : List TileGraph) (levels : List ℤ) (node : ℕ) (level : ℤ) → node < length levels → IsFound (graph_of side graphs) node level → IsWhole side corners graphs levels → IsWhole side corners graphs (set levels node level)
found_more side corners graphs levels node level small found whole = record {
  whole = whole.whole;
  sides = whole.sides;
  places = whole.places;
  room = whole.room;
  found = λ x full. elim (cases_eq x node) [
    | inl same ↦ subst (λ y. IsFound (graph_of side graphs) y (get_or (set levels node level) y void)) (sym same)
        (subst (λ v. IsFound (graph_of side graphs) node v) (sym (get_or-set_same levels node level void small)) found)
    | inr other ↦
        let at = get_or-set_other levels node x level void other in
        subst (λ v. IsFound (graph_of side graphs) x v) (sym at) (whole.found x (λ none. full (at ∙ none)))
  ];
}

-- the list of edges from a node
module _ (side : ℕ) (corners : List Corner) (graphs : List TileGraph) (levels : List ℤ) (whole : IsWhole side corners graphs levels) (n : ℕ) (summaries : List Summary) (is : IsGraphOf n summaries (graph_of side graphs))
    (node t k : ℕ) (low : 3 ≤ side) (number : k < 4 * (side - 1)) (at : node ≡ 1 + t * (4 * (side - 1)) + k) where
  many : length corners ≡ length summaries
  many = sym whole.whole ∙ (sym (length-map graphs (λ (g : TileGraph). g.summary)) ∙ is.all.whole)

  corner_is : (u : ℕ) → u < length summaries → corner_at corners u ≡ (summary_at summaries u).corner
  corner_is u small = sym (whole.places u (subst (λ v. u < v) (sym many) small)) ∙ (is.all.each u small).corner

  number_n : k < 4 * (n - 1)
  number_n = subst (λ v. k < 4 * (v - 1)) is.side number

  at_n : node ≡ node_number n (Rim t k)
  at_n = at ∙ ap (λ v. 1 + t * (4 * (v - 1)) + k) is.side

  pub no_edges : length graphs ≤ t → (new : List Edge) → new ≡ [] → AreEdges (IsPlacedLink n summaries) node new
  no_edges past = none_listed n summaries node t k number_n at_n (let a = many in let b = whole.whole in omega arith)

  module _ (small : t < length graphs) (ways : TileGraph) (is_ways : ways ≡ get_or graphs t ways) (old new : List Edge) (empty : old ≡ []) (listed : AreTileEdges side corners ways t k old new) where
    below : t < length summaries
    below = let a = many in let b = whole.whole in omega (arith, small)

    told : IsReordered (summary_at summaries t) ways.summary
    told = subst (IsReordered (summary_at summaries t)) (summary_is side graphs t ∙ ap (λ (g : TileGraph). g.summary) (sym (is_ways ∙ get_or_default graphs t ways no_graph small))) (is.all.each t below)

    listed_n : AreTileEdges n corners ways t k [] new
    listed_n = subst (λ v. AreTileEdges v corners ways t k [] new) is.side (subst (λ (l : List Edge). AreTileEdges side corners ways t k l new) empty listed)

    pub all_edges : AreAllEdges (IsPlacedLink n summaries) node new
    all_edges = subst (λ x. AreAllEdges (IsPlacedLink n summaries) x new) (sym at_n)
        (all_listed n (subst (λ v. 3 ≤ v) is.side low) summaries is.order corners many corner_is t k below number_n ways told new listed_n)

    pub exact_edges : AreOfMosaic n summaries → AreEdges (IsPlacedLink n summaries) node new
    exact_edges of = subst (λ x. AreEdges (IsPlacedLink n summaries) x new) (sym at_n) (are_edges n summaries of corners many corner_is t k below number_n ways told new listed_n)
