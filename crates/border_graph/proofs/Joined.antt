-- Joining is right: each link is a path of no greater crest, and a path to an outlet is cut at the rims that it crosses.
use Rattle.border_graph.proofs.Prelude.{AreInOrder, AreSummaries, Bool, Contains, Corner, IsCrossing, IsFilledLevel, IsInnerLink, IsJoinedLevel, IsLabelLink, IsLabelOf, IsLink, IsMosaic, IsOutletLink, IsPath, IsRimNumberOf, IsSharedLink, IsSpillLink, IsSummaryOf, IsThere, IsTrue, IsWayBelow, LeadsOut, List, Mosaic, Node, OUT, Outlet, Point, Rim, Spill, Summarizes, Summary, ℕ, ℤ, [], and_parts, ap, ap₂, arith, bare_block, block_of, block_terrain, cases_Bool, cases_eq, cases_lt, crest, end_of, false, get_or, get_or-map, get_or_default, inl, inner_only, inr, int_max, is_ground, is_inner_outlet, is_linked, is_rim, is_solid, le-max_left, le-max_right, length, length-map, linked_parts, list_any, list_any_at, map, max-le, not, not_void, one_index, one_rim_point, or_cases, point_of, pos, refl, rim_number, rim_number_below, rim_point, rim_point_of, rising_from, slice_index, slice_index_or, solid_below, subst, suc, summary_at, sym, true≢false, void, ≤ℤ_trans, ◌&&◌, ◌*◌, ◌+◌, ◌-◌, ◌<◌, ◌∙◌, ◌∷◌, ◌≡◌, ◌≢◌, ◌≤ℤ◌, ◌≤◌, ◌⊎◌}
use denote.Struct.Props.{props}
use Rattle.lattice.specs.Corners.{is_corner, same_corner}
use Rattle.lattice.specs.Lattice.{IsBefore, holds, index_of}
use Rattle.lattice.specs.Mosaic.{Tile, is_present}
use Rattle.lattice.specs.Ground.{is_outlet, is_adjacent, same_point, is_near, share_tile, terrain}
use Rattle.lattice.proofs.Levels.{height-le_level, height-le_crest, level_is_unique, level_of_outlet, max-swap}
use Rattle.lattice.proofs.Lawful.{terrain_is_lawful, block_is_lawful, five_parts}
use Rattle.lattice.proofs.Samples.{index_of_point, holds_is, point_of_index, index_of_below, index_of_point_is, point_of_held}
use Rattle.lattice.proofs.FilledLevels.{filled_level_exists}
use Rattle.labelling.specs.Spills.{Meets, IsSpill}
use Rattle.labelling.proofs.Parts.{IsPart, path_onto, crest_onto, end_onto, end-le_crest, way_in_part}
use Rattle.labelling.proofs.InMosaic.{block_is_part, ground_is, inner_outlet_is_outlet, adjacent_in_tile}
use Rattle.labelling.proofs.Squares.{solid_height, solid_if, rim_is_exit}
use Rattle.border_graph.specs.Links.{IsLinkBelow}
use Rattle.border_graph.proofs.Onward.{way_up}
use Rattle.lattice.proofs.CornerOrder.{same_from}
use Rattle.border_graph.proofs.Ways.{WayOut, along, back, way_of_level, level_of_ways}

index_of_any : {X : Type 0} (f : X → Bool) (xs : List X) → IsTrue (list_any f xs) → (k : ℕ) × ((k < length xs) × ((d : X) → IsTrue (f (get_or xs k d))))
index_of_any f [] h = absurd (true≢false (sym h))
index_of_any f (x ∷ xs) h = elim (or_cases (f x) (list_any f xs) h) [
  | inl here ↦ (0, (omega arith, λ d. here))
  | inr later ↦ let there = index_of_any f xs later in (suc there.0, (omega (arith, there.1.0), there.1.1))
]

module _ (m : Mosaic) (is : IsMosaic m) (summaries : List Summary) (all : AreSummaries m summaries) where
  as_many : length summaries ≡ length m.tiles
  as_many = sym (length-map summaries (λ (b : Summary). b.corner)) ∙ (ap length all.corners ∙ length-map m.tiles (λ (t : Tile). t.corner))

  tile_corner : (t : ℕ) → (get_or m.tiles t (record { corner = record { lat = pos 0; lon = pos 0 }; samples = [] })).corner ≡ (summary_at summaries t).corner
  tile_corner t =
      sym (get_or-map (λ (t : Tile). t.corner) m.tiles t (record { corner = record { lat = pos 0; lon = pos 0 }; samples = [] }))
      ∙ (ap (λ (cs : List Corner). get_or cs t (record { lat = pos 0; lon = pos 0 })) (sym all.corners)
      ∙ get_or-map (λ (b : Summary). b.corner) summaries t (record { corner = record { lat = pos 0; lon = pos 0 }; rim = []; spills = [] }))

  pub present : (t : ℕ) → t < length summaries → IsTrue (is_present m (summary_at summaries t).corner)
  present t small = list_any_at (λ (tile : Tile). same_corner tile.corner (summary_at summaries t).corner) m.tiles t (record { corner = record { lat = pos 0; lon = pos 0 }; samples = [] }) (subst (λ k. t < k) as_many small)
      (subst (λ c. IsTrue (same_corner c (summary_at summaries t).corner)) (sym (tile_corner t)) (same_from (summary_at summaries t).corner (summary_at summaries t).corner refl))

  one_summary : (t u : ℕ) → t < length summaries → u < length summaries → (summary_at summaries t).corner ≡ (summary_at summaries u).corner → t ≡ u
  one_summary t u in_t in_u same = one_index (λ (tile : Tile). tile.corner) m.tiles t u (record { corner = record { lat = pos 0; lon = pos 0 }; samples = [] }) (rising_from (λ (tile : Tile). tile.corner) m.tiles is.in_order)
      (subst (λ k. t < k) as_many in_t) (subst (λ k. u < k) as_many in_u) (tile_corner t ∙ (same ∙ sym (tile_corner u)))

  corner_is : (t : ℕ) → t < length summaries → IsTrue (is_corner (summary_at summaries t).corner)
  corner_is t small = subst (λ c. IsTrue (is_corner c)) (tile_corner t) (is.tiles t (record { corner = record { lat = pos 0; lon = pos 0 }; samples = [] }) (subst (λ k. t < k) as_many small)).corner

  some : 0 < m.side
  some = let low = is.side_low in omega arith

  held_in : (t : ℕ) → t < length summaries → (e : ℕ) → e < m.side * m.side → IsTrue (holds m.side (summary_at summaries t).corner (point_of m.side (summary_at summaries t).corner e))
  held_in t small e inside = (holds_is m.side (summary_at summaries t).corner (point_of m.side (summary_at summaries t).corner e) is.side_low (corner_is t small)).1
      (point_of_held m.side (summary_at summaries t).corner e some (corner_is t small) inside)

  record Holder (p q : Point) : Type 0 where
    tile : ℕ
    small : tile < length summaries
    first : IsTrue (holds m.side (summary_at summaries tile).corner p)
    second : IsTrue (holds m.side (summary_at summaries tile).corner q)

  holder : (p q : Point) → IsTrue (share_tile m p q) → Holder p q
  holder p q h =
      let there = index_of_any (λ (t : Tile). holds m.side t.corner p && holds m.side t.corner q) m.tiles h in
      let both = subst (λ c. IsTrue (holds m.side c p && holds m.side c q)) (tile_corner there.0) (there.1.1 (record { corner = record { lat = pos 0; lon = pos 0 }; samples = [] })) in
      let parts = and_parts (holds m.side (summary_at summaries there.0).corner p) (holds m.side (summary_at summaries there.0).corner q) both in
      record { tile = there.0; small = subst (λ k. there.0 < k) (sym as_many) there.1.0; first = parts.0; second = parts.1 }

  module _ (t : ℕ) (small : t < length summaries) where
    pub summarizes : Summarizes m (summary_at summaries t)
    summarizes = all.each t (record { corner = record { lat = pos 0; lon = pos 0 }; rim = []; spills = [] }) small

    pub of : IsSummaryOf m (record (summary_at summaries t) { spills = summarizes.all })
    of = summarizes.of

    pub spill_of : (a b : ℕ) (v : ℤ) → IsSpillLink m.side summaries t a b v → IsSpill m.side of.heights of.levels of.labels (record { a = a; b = b; level = v })
    spill_of a b v has = of.spills.each (record { a = a; b = b; level = v }) (summarizes.kept.only (record { a = a; b = b; level = v }) has)

    part : IsPart (block_terrain (block_of m.side of.heights of.sinks)) (terrain m) (λ e. point_of m.side (summary_at summaries t).corner e) (is_rim m.side)
    part = block_is_part m is (summary_at summaries t).corner (present t small) of.heights of.sinks of.block

    pub ground_at : (e : ℕ) → IsTrue (is_solid (bare_block m.side of.heights) e) → IsTrue (is_ground m (point_of m.side (summary_at summaries t).corner e))
    ground_at e solid = part.solid e solid

    pub solid_at : (e : ℕ) → e < m.side * m.side → IsTrue (is_ground m (point_of m.side (summary_at summaries t).corner e)) → IsTrue (is_solid (bare_block m.side of.heights) e)
    solid_at e inside on = ground_is m is (summary_at summaries t).corner (present t small) of.heights of.sinks of.block e inside ∙ on

    pub height-le_level_at : (e : ℕ) → IsTrue (is_solid (bare_block m.side of.heights) e) → slice_index_or of.heights e void ≤ℤ slice_index_or of.levels e void
    height-le_level_at e solid = height-le_level (block_terrain (block_of m.side of.heights of.sinks)) e (slice_index_or of.levels e void) (of.labelling.level e solid)

    rim_level : (e : ℕ) → IsTrue (is_solid (bare_block m.side of.heights) e) → IsTrue (is_rim m.side e) → slice_index_or of.levels e void ≡ slice_index_or of.heights e void
    rim_level e solid rim = level_is_unique (block_terrain (block_of m.side of.heights of.sinks)) e (slice_index_or of.levels e void) (slice_index_or of.heights e void) (of.labelling.level e solid)
        (level_of_outlet (block_terrain (block_of m.side of.heights of.sinks)) (block_is_lawful (block_of m.side of.heights of.sinks)) e (rim_is_exit m.side of.heights of.sinks e solid rim))

    -- the rim point that a label names, reached at the level
    record Named (e : ℕ) : Type 0 where
      r : ℕ
      solid : IsTrue (is_solid (bare_block m.side of.heights) r)
      rim : IsTrue (is_rim m.side r)
      number : rim_number m.side r ≡ slice_index of.labels e
      rest : List ℕ
      path : IsPath (block_terrain (block_of m.side of.heights of.sinks)) e rest
      crest_is : crest (block_terrain (block_of m.side of.heights of.sinks)) e rest ≡ slice_index_or of.levels e void
      ends : end_of (block_terrain (block_of m.side of.heights of.sinks)) e rest ≡ r

    named : (e : ℕ) → IsTrue (is_solid (bare_block m.side of.heights) e) → slice_index of.labels e ≢ OUT → Named e
    named e solid some =
        let label = of.labelling.label e solid in
        let last = end_of (block_terrain (block_of m.side of.heights of.sinks)) e label.way.0 in
        elim label.way.1.1.1.1 [
          | inl by_rim ↦ record {
            r = last;
            solid = (block_is_lawful (block_of m.side of.heights of.sinks)).outlet_ground last label.way.1.1.1.0;
            rim = by_rim.0;
            number = sym by_rim.1;
            rest = label.way.0;
            path = label.way.1.0;
            crest_is = label.way.1.1.0;
            ends = refl;
          }
          | inr out ↦ absurd (some out.1)
        ]

    number_small : (e : ℕ) → IsTrue (is_solid (bare_block m.side of.heights) e) → rim_number m.side e < 4 * (m.side - 1)
    number_small e solid = rim_number_below m.side e is.side_low (solid_below m.side of.heights e solid)

    number_is_not_out : (k : ℕ) → k < 4 * (m.side - 1) → k ≢ OUT
    number_is_not_out k less same = let high = is.side_high in absurd (omega arith)

    -- a rim point of the summary, with its point in the tile
    pub record At (k : ℕ) : Type 0 where
      pub e : ℕ
      pub inside : e < m.side * m.side
      pub rim : IsTrue (is_rim m.side e)
      pub number : rim_number m.side e ≡ k
      pub solid : IsTrue (is_solid (bare_block m.side of.heights) e)
      pub height : (rim_point (summary_at summaries t) k).height ≡ slice_index_or of.heights e void
      pub label : (rim_point (summary_at summaries t) k).label ≡ slice_index of.labels e
      pub outlet : (rim_point (summary_at summaries t) k).outlet ≡ is_outlet m (point_of m.side (summary_at summaries t).corner e)

    rim_at : (e : ℕ) → e < m.side * m.side → IsTrue (is_rim m.side e) → IsTrue (is_solid (bare_block m.side of.heights) e) → At (rim_number m.side e)
    rim_at e inside rim solid = record {
      e = e;
      inside = inside;
      rim = rim;
      number = refl;
      solid = solid;
      height = of.rim.height e inside rim;
      label = of.rim.label e inside rim;
      outlet = of.rim.outlet e inside rim (ground_at e solid);
    }

    pub at_node : (k : ℕ) → IsThere m.side summaries t k → At k
    at_node k there =
        let found = rim_point_of m.side k is.side_low there.number in
        let height : (rim_point (summary_at summaries t) k).height ≡ slice_index_or of.heights found.0 void =
        subst (λ j. (rim_point (summary_at summaries t) j).height ≡ slice_index_or of.heights found.0 void) found.1.number (of.rim.height found.0 found.1.small found.1.rim) in
        subst At found.1.number (rim_at found.0 found.1.small found.1.rim (solid_if m.side of.heights found.0 found.1.small (not_void (slice_index_or of.heights found.0 void) (λ gap. there.solid (height ∙ gap)))))

    pub there_at : (e : ℕ) → e < m.side * m.side → IsTrue (is_rim m.side e) → IsTrue (is_solid (bare_block m.side of.heights) e) → IsThere m.side summaries t (rim_number m.side e)
    there_at e inside rim solid = record {
      tile = small;
      number = number_small e solid;
      solid = λ gap. solid_height m.side of.heights e solid (sym (of.rim.height e inside rim) ∙ gap);
    }

    there_named : (e : ℕ) (n : Named e) → IsThere m.side summaries t (slice_index of.labels e)
    there_named e n = subst (IsThere m.side summaries t) n.number (there_at n.r (solid_below m.side of.heights n.r n.solid) n.rim n.solid)

    named_is : (e k : ℕ) (n : Named e) (a : At k) → slice_index of.labels e ≡ k → n.r ≡ a.e
    named_is e k n a label = one_rim_point m.side n.r a.e is.side_low (solid_below m.side of.heights n.r n.solid) a.inside n.rim a.rim (n.number ∙ (label ∙ sym a.number))

    module _ (level : ℤ) where
      start_has_way : (e : ℕ) (rest : List ℕ) → IsPath (block_terrain (block_of m.side of.heights of.sinks)) e rest → crest (block_terrain (block_of m.side of.heights of.sinks)) e rest ≤ℤ level →
          WayOut (terrain m) level (point_of m.side (summary_at summaries t).corner (end_of (block_terrain (block_of m.side of.heights of.sinks)) e rest)) → WayOut (terrain m) level (point_of m.side (summary_at summaries t).corner e)
      start_has_way e rest path low way =
          let at : ℕ → Point = λ e. point_of m.side (summary_at summaries t).corner e in
          along (terrain m) level (at e) (map at rest) (path_onto (block_terrain (block_of m.side of.heights of.sinks)) (terrain m) at (is_rim m.side) part (block_is_lawful (block_of m.side of.heights of.sinks)) e rest path)
          (subst (λ v. v ≤ℤ level) (sym (crest_onto (block_terrain (block_of m.side of.heights of.sinks)) (terrain m) at (is_rim m.side) part (block_is_lawful (block_of m.side of.heights of.sinks)) e rest path)) low)
          (subst (λ p. WayOut (terrain m) level p) (sym (end_onto (block_terrain (block_of m.side of.heights of.sinks)) (terrain m) at (is_rim m.side) part (block_is_lawful (block_of m.side of.heights of.sinks)) e rest)) way)

      end_has_way : (e : ℕ) (rest : List ℕ) → IsPath (block_terrain (block_of m.side of.heights of.sinks)) e rest → crest (block_terrain (block_of m.side of.heights of.sinks)) e rest ≤ℤ level →
          WayOut (terrain m) level (point_of m.side (summary_at summaries t).corner e) → WayOut (terrain m) level (point_of m.side (summary_at summaries t).corner (end_of (block_terrain (block_of m.side of.heights of.sinks)) e rest))
      end_has_way e rest path low way =
          let at : ℕ → Point = λ e. point_of m.side (summary_at summaries t).corner e in
          subst (λ p. WayOut (terrain m) level p) (end_onto (block_terrain (block_of m.side of.heights of.sinks)) (terrain m) at (is_rim m.side) part (block_is_lawful (block_of m.side of.heights of.sinks)) e rest)
          (back (terrain m) (terrain_is_lawful m) level (at e) (map at rest) (path_onto (block_terrain (block_of m.side of.heights of.sinks)) (terrain m) at (is_rim m.side) part (block_is_lawful (block_of m.side of.heights of.sinks)) e rest path)
          (subst (λ v. v ≤ℤ level) (sym (crest_onto (block_terrain (block_of m.side of.heights of.sinks)) (terrain m) at (is_rim m.side) part (block_is_lawful (block_of m.side of.heights of.sinks)) e rest path)) low) way)

      to_named : (e : ℕ) (n : Named e) → slice_index_or of.levels e void ≤ℤ level →
          WayOut (terrain m) level (point_of m.side (summary_at summaries t).corner n.r) → WayOut (terrain m) level (point_of m.side (summary_at summaries t).corner e)
      to_named e n low way = start_has_way e n.rest n.path (subst (λ v. v ≤ℤ level) (sym n.crest_is) low) (subst (λ r. WayOut (terrain m) level (point_of m.side (summary_at summaries t).corner r)) (sym n.ends) way)

      from_named : (e : ℕ) (n : Named e) → slice_index_or of.levels e void ≤ℤ level →
          WayOut (terrain m) level (point_of m.side (summary_at summaries t).corner e) → WayOut (terrain m) level (point_of m.side (summary_at summaries t).corner n.r)
      from_named e n low way = subst (λ r. WayOut (terrain m) level (point_of m.side (summary_at summaries t).corner r)) n.ends (end_has_way e n.rest n.path (subst (λ v. v ≤ℤ level) (sym n.crest_is) low) way)

      -- water gets out from a point whose label is OUT
      out_below : (e : ℕ) → IsTrue (is_solid (bare_block m.side of.heights) e) → slice_index of.labels e ≡ OUT → slice_index_or of.levels e void ≤ℤ level →
          WayOut (terrain m) level (point_of m.side (summary_at summaries t).corner e)
      out_below e solid out low =
          let at : ℕ → Point = λ e. point_of m.side (summary_at summaries t).corner e in
          let label = of.labelling.label e solid in
          let rest = label.way.0 in
          let last = end_of (block_terrain (block_of m.side of.heights of.sinks)) e rest in
          let path = label.way.1.0 in
          let solid_last : IsTrue (is_solid (bare_block m.side of.heights) last) = (block_is_lawful (block_of m.side of.heights of.sinks)).outlet_ground last label.way.1.1.1.0 in
          let crest_low : crest (block_terrain (block_of m.side of.heights of.sinks)) e rest ≤ℤ level = subst (λ v. v ≤ℤ level) (sym label.way.1.1.0) low in
          elim label.way.1.1.1.1 [
            | inl by_rim ↦ absurd (number_is_not_out (rim_number m.side last) (number_small last solid_last) (sym by_rim.1 ∙ out))
            | inr inner ↦ start_has_way e rest path crest_low (record {
              rest = [];
              out = record { path = ground_at last solid_last; outlet = inner_outlet_is_outlet m is (summary_at summaries t).corner (present t small) of.heights of.sinks of.block last inner.0 };
              below = subst (λ v. v ≤ℤ level) (part.heights last solid_last) (≤ℤ_trans (slice_index_or of.heights last void) (crest (block_terrain (block_of m.side of.heights of.sinks)) e rest) level (end-le_crest (block_terrain (block_of m.side of.heights of.sinks)) e rest) crest_low);
            })
          ]

      -- water that gets out from a point gets out from an adjacent one
      over : (e f : ℕ) → IsTrue (is_linked (bare_block m.side of.heights) e f) → slice_index_or of.levels e void ≤ℤ level → slice_index_or of.levels f void ≤ℤ level →
          WayOut (terrain m) level (point_of m.side (summary_at summaries t).corner f) → WayOut (terrain m) level (point_of m.side (summary_at summaries t).corner e)
      over e f link low_e low_f way =
          let both = linked_parts m.side of.heights e f link in
          start_has_way e (f ∷ []) (link, both.to) (max-le (slice_index_or of.heights e void) (slice_index_or of.heights f void) level
          (≤ℤ_trans (slice_index_or of.heights e void) (slice_index_or of.levels e void) level (height-le_level_at e both.from) low_e)
          (≤ℤ_trans (slice_index_or of.heights f void) (slice_index_or of.levels f void) level (height-le_level_at f both.to) low_f)) way

      -- water that gets out from a rim point gets out from each point with its label, and conversely
      to_rim : (k : ℕ) (a : At k) (e : ℕ) → IsTrue (is_solid (bare_block m.side of.heights) e) → slice_index of.labels e ≡ k → slice_index_or of.levels e void ≤ℤ level →
          WayOut (terrain m) level (point_of m.side (summary_at summaries t).corner a.e) → WayOut (terrain m) level (point_of m.side (summary_at summaries t).corner e)
      to_rim k a e solid label low way =
          let n = named e solid (λ out. number_is_not_out k (subst (λ j. j < 4 * (m.side - 1)) a.number (number_small a.e a.solid)) (sym label ∙ out)) in
          to_named e n low (subst (λ r. WayOut (terrain m) level (point_of m.side (summary_at summaries t).corner r)) (sym (named_is e k n a label)) way)

      from_rim : (k : ℕ) (a : At k) (e : ℕ) → IsTrue (is_solid (bare_block m.side of.heights) e) → slice_index of.labels e ≡ k → slice_index_or of.levels e void ≤ℤ level →
          WayOut (terrain m) level (point_of m.side (summary_at summaries t).corner e) → WayOut (terrain m) level (point_of m.side (summary_at summaries t).corner a.e)
      from_rim k a e solid label low way =
          let n = named e solid (λ out. number_is_not_out k (subst (λ j. j < 4 * (m.side - 1)) a.number (number_small a.e a.solid)) (sym label ∙ out)) in
          subst (λ r. WayOut (terrain m) level (point_of m.side (summary_at summaries t).corner r)) (named_is e k n a label) (from_named e n low way)

      level_of_node : (k : ℕ) (a : At k) (v : ℤ) → (rim_point (summary_at summaries t) k).height ≡ v → v ≤ℤ level → slice_index_or of.levels a.e void ≤ℤ level
      level_of_node k a v at low = subst (λ w. w ≤ℤ level) (sym (rim_level a.e a.solid a.rim ∙ (sym a.height ∙ at))) low

      -- water gets out from a rim point if it gets out from all points of another label, over their spill
      spilled : (k : ℕ) (a : At k) (l : ℕ) (v : ℤ) → Meets m.side of.heights of.levels of.labels k l v → v ≤ℤ level →
          ((f : ℕ) → IsTrue (is_solid (bare_block m.side of.heights) f) → slice_index of.labels f ≡ l → slice_index_or of.levels f void ≤ℤ level → WayOut (terrain m) level (point_of m.side (summary_at summaries t).corner f)) →
          WayOut (terrain m) level (point_of m.side (summary_at summaries t).corner a.e)
      spilled k a l v meets low way =
          let e = meets.points.0 in
          let f = meets.points.1 in
          let link = meets.points.2.0 in
          let both = linked_parts m.side of.heights e f link in
          let at : int_max (slice_index_or of.levels e void) (slice_index_or of.levels f void) ≡ v = meets.points.2.1.1.1 in
          let low_e : slice_index_or of.levels e void ≤ℤ level = ≤ℤ_trans (slice_index_or of.levels e void) v level (subst (λ w. slice_index_or of.levels e void ≤ℤ w) at (le-max_left (slice_index_or of.levels e void) (slice_index_or of.levels f void))) low in
          let low_f : slice_index_or of.levels f void ≤ℤ level = ≤ℤ_trans (slice_index_or of.levels f void) v level (subst (λ w. slice_index_or of.levels f void ≤ℤ w) at (le-max_right (slice_index_or of.levels e void) (slice_index_or of.levels f void))) low in
          from_rim k a e both.from meets.points.2.1.0 low_e (over e f link low_e low_f (way f both.to meets.points.2.1.1.0 low_f))

      -- water gets out from a rim point with a link to the outlet node
      to_outlet : (k : ℕ) (a : At k) (v : ℤ) → IsOutletLink m.side summaries t k v ⊎ (IsLabelLink m.side summaries t k OUT v ⊎ IsSpillLink m.side summaries t k OUT v) → v ≤ℤ level →
          WayOut (terrain m) level (point_of m.side (summary_at summaries t).corner a.e)
      to_outlet k a v (inl out) low = record {
        rest = [];
        out = record { path = ground_at a.e a.solid; outlet = sym a.outlet ∙ out.outlet };
        below = subst (λ w. w ≤ℤ level) (sym out.height ∙ (a.height ∙ part.heights a.e a.solid)) low;
      }
      to_outlet k a v (inr (inl label)) low = out_below a.e a.solid (sym a.label ∙ label.names) (level_of_node k a v label.height low)
      to_outlet k a v (inr (inr spill)) low = spilled k a OUT v (spill_of k OUT v spill).meets low out_below

      turned : (a b : ℕ) (v : ℤ) → Meets m.side of.heights of.levels of.labels a b v → Meets m.side of.heights of.levels of.labels b a v
      turned a b v meets = record {
        points = (
          meets.points.1,
          meets.points.0,
          (
            (block_is_lawful (block_of m.side of.heights of.sinks)).both_ways meets.points.0 meets.points.1 meets.points.2.0,
            (meets.points.2.1.1.0, (meets.points.2.1.0, max-swap (slice_index_or of.levels meets.points.1 void) (slice_index_or of.levels meets.points.0 void) ∙ meets.points.2.1.1.1)),
          ),
        );
      }

      -- water gets out from a rim point with a link to one from which it gets out
      inner_link : (k l : ℕ) (a : At k) (b : At l) (v : ℤ) → IsInnerLink m.side summaries t k l v → v ≤ℤ level →
          WayOut (terrain m) level (point_of m.side (summary_at summaries t).corner b.e) → WayOut (terrain m) level (point_of m.side (summary_at summaries t).corner a.e)
      inner_link k l a b v (inl label) low way = to_rim l b a.e a.solid (sym a.label ∙ label.names) (level_of_node k a v label.height low) way
      inner_link k l a b v (inr (inl label)) low way = from_rim k a b.e b.solid (sym b.label ∙ label.names) (level_of_node l b v label.height low) way
      inner_link k l a b v (inr (inr (inl spill))) low way = spilled k a l v (spill_of k l v spill).meets low (λ f solid label low_f. to_rim l b f solid label low_f way)
      inner_link k l a b v (inr (inr (inr spill))) low way = spilled k a l v (turned l k v (spill_of l k v spill).meets) low (λ f solid label low_f. to_rim l b f solid label low_f way)

  -- water at the node's point leaves at no more than the level
  abbrev Sinks : ℤ → Node → Type 0
  Sinks level Outlet = Unit {0}
  Sinks level (Rim t k) = (small : t < length summaries) (a : At t small k) → WayOut (terrain m) level (point_of m.side (summary_at summaries t).corner a.e)

  numbered : (t k : ℕ) (small : t < length summaries) (a : At t small k) (p : Point) → IsRimNumberOf m.side (summary_at summaries t).corner k p → point_of m.side (summary_at summaries t).corner a.e ≡ p
  numbered t k small a p at = ap (λ e. point_of m.side (summary_at summaries t).corner e) (one_rim_point m.side a.e at.index is.side_low a.inside at.small a.rim at.rim (a.number ∙ sym at.number)) ∙ at.point

  sinks : (level : ℤ) (x : Node) (rest : List Node) → IsWayBelow (IsLink m.side summaries) Outlet level x rest → Sinks level x
  sinks level Outlet rest way = tt
  sinks level (Rim t k) [] way = absurd (not_outlet way)
    where
      not_outlet : Rim t k ≡ Outlet → ⊥
      not_outlet h = cc
  sinks level (Rim t k) (Outlet ∷ rest) way = λ small a. to_outlet t small level k a way.0.0 way.0.1.0.1 way.0.1.1
  sinks level (Rim t k) (Rim u l ∷ rest) way =
      let on : (small : u < length summaries) (a : At u small l) → WayOut (terrain m) level (point_of m.side (summary_at summaries u).corner a.e) = sinks level (Rim u l) rest way.1 in
      let there = way.0.1.0.1.0 in
      linked on there way.0.1.0.1.1
    where
      linked : ((small : u < length summaries) (a : At u small l) → WayOut (terrain m) level (point_of m.side (summary_at summaries u).corner a.e)) → IsThere m.side summaries u l →
          ((t ≡ u) × IsInnerLink m.side summaries t k l way.0.0) ⊎ IsSharedLink m.side summaries t k u l way.0.0 →
          (small : t < length summaries) (a : At t small k) → WayOut (terrain m) level (point_of m.side (summary_at summaries t).corner a.e)
      linked on there (inl inner) small a =
          let in_t : IsThere m.side summaries t l = subst (λ v. IsThere m.side summaries v l) (sym inner.0) there in
          let T : ℕ → Type 0 = λ v. (small : v < length summaries) (a : At v small l) → WayOut (terrain m) level (point_of m.side (summary_at summaries v).corner a.e) in
          let on_t : (small : t < length summaries) (a : At t small l) → WayOut (terrain m) level (point_of m.side (summary_at summaries t).corner a.e) = subst T (sym inner.0) on in
          let b = at_node t small l in_t in
          inner_link t small level k l a b way.0.0 inner.1 way.0.1.1 (on_t small b)
      linked on there (inr shared) small a =
          let b = at_node u there.tile l there in
          subst (λ p. WayOut (terrain m) level p) (numbered u l there.tile b shared.point shared.there ∙ sym (numbered t k small a shared.point shared.here)) (on there.tile b)

  -- a path of links at no more than the level
  pub record WayBelow (level : ℤ) (x : Node) : Type 0 where
    pub rest : List Node
    pub way : IsWayBelow (IsLink m.side summaries) Outlet level x rest

  step_to : (level : ℤ) (x y : Node) → IsLinkBelow (IsLink m.side summaries) Outlet level x y → WayBelow level y → WayBelow level x
  step_to level x y link on = record { rest = y ∷ on.rest; way = (link, on.way) }

  at_outlet : (level : ℤ) → WayBelow level Outlet
  at_outlet level = record { rest = []; way = refl }

  module _ (level : ℤ) (t : ℕ) (small : t < length summaries) where
    -- a path of links leads out from a rim point if one does from the point that its label names
    of_node : (e : ℕ) → e < m.side * m.side → IsTrue (is_rim m.side e) → IsTrue (is_solid (bare_block m.side (of t small).heights) e) → slice_index_or (of t small).heights e void ≤ℤ level →
        (slice_index (of t small).labels e ≡ OUT) ⊎ WayBelow level (Rim t (slice_index (of t small).labels e)) → WayBelow level (Rim t (rim_number m.side e))
    of_node e inside rim solid low drains = elim (cases_eq (slice_index (of t small).labels e) OUT) [
      | inl out ↦ step_to level (Rim t (rim_number m.side e)) Outlet
          (slice_index_or (of t small).heights e void, ((there_at t small e inside rim solid, inr (inl (record { names = (of t small).rim.label e inside rim ∙ out; height = (of t small).rim.height e inside rim }))), low)) (at_outlet level)
      | inr some ↦ elim drains [
        | inl out ↦ absurd (some out)
        | inr way ↦
            let n = named t small e solid some in
            step_to level (Rim t (rim_number m.side e)) (Rim t (slice_index (of t small).labels e)) (
              slice_index_or (of t small).heights e void,
              ((there_at t small e inside rim solid, (there_named t small e n, inl (refl, inl (record { names = (of t small).rim.label e inside rim; height = (of t small).rim.height e inside rim })))), low),
            ) way
      ]
    ]

    to_label : (e : ℕ) → e < m.side * m.side → IsTrue (is_rim m.side e) → IsTrue (is_solid (bare_block m.side (of t small).heights) e) → slice_index_or (of t small).heights e void ≤ℤ level →
        WayBelow level (Rim t (rim_number m.side e)) → (slice_index (of t small).labels e ≡ OUT) ⊎ WayBelow level (Rim t (slice_index (of t small).labels e))
    to_label e inside rim solid low way = elim (cases_eq (slice_index (of t small).labels e) OUT) [
      | inl out ↦ inl out
      | inr some ↦
          let n = named t small e solid some in
          inr (step_to level (Rim t (slice_index (of t small).labels e)) (Rim t (rim_number m.side e)) (
            slice_index_or (of t small).heights e void,
            ((there_named t small e n, (there_at t small e inside rim solid, inl (refl, inr (inl (record { names = (of t small).rim.label e inside rim; height = (of t small).rim.height e inside rim }))))), low),
          ) way)
    ]

    -- a path of links leads out from an outlet of the mosaic, or from the rim point that its label names
    outlet_drains : (e : ℕ) → e < m.side * m.side → IsTrue (is_outlet m (point_of m.side (summary_at summaries t).corner e)) → slice_index_or (of t small).heights e void ≤ℤ level →
        (slice_index (of t small).labels e ≡ OUT) ⊎ WayBelow level (Rim t (slice_index (of t small).labels e))
    outlet_drains e inside out low =
        let on = (terrain_is_lawful m).outlet_ground (point_of m.side (summary_at summaries t).corner e) out in
        let solid = solid_at t small e inside on in
        elim (cases_Bool (is_rim m.side e)) [
          | inl rim ↦ to_label e inside rim solid low (step_to level (Rim t (rim_number m.side e)) Outlet
              (slice_index_or (of t small).heights e void, ((there_at t small e inside rim solid, inl (record { outlet = (of t small).rim.outlet e inside rim on ∙ out; height = (of t small).rim.height e inside rim })), low)) (at_outlet level))
          | inr off ↦ elim (or_cases (is_solid (bare_block m.side (of t small).heights) e && is_rim m.side e) (is_inner_outlet (block_of m.side (of t small).heights (of t small).sinks) e) ((part t small).outlets e solid out)) [
            | inl rim ↦ absurd (true≢false (sym (and_parts (is_solid (bare_block m.side (of t small).heights) e) (is_rim m.side e) rim).1 ∙ off))
            | inr inner ↦ inl (((of t small).labelling.label e solid).inner_outlet inner)
          ]
        ]

    -- a label of a spill is OUT or the number of a ground rim point
    label_there : (a b : ℕ) (v : ℤ) → Meets m.side (of t small).heights (of t small).levels (of t small).labels a b v → a ≢ OUT → IsThere m.side summaries t a
    label_there a b v meets some =
        let e = meets.points.0 in
        let solid = (linked_parts m.side (of t small).heights e meets.points.1 meets.points.2.0).from in
        let label : slice_index (of t small).labels e ≡ a = meets.points.2.1.0 in
        subst (IsThere m.side summaries t) label (there_named t small e (named t small e solid (λ out. some (sym label ∙ out))))

    -- water that drains to the label gets out
    abbrev Drains : ℕ → Type 0
    Drains label = (label ≡ OUT) ⊎ WayBelow level (Rim t label)

    -- water gets out from the label x if it crosses to a label from which it gets out
    cross : (x z : ℕ) → IsLinkBelow (IsCrossing (summary_at summaries t).spills) OUT level x z → Drains z → Drains x
    cross x z (v, ((some, inl has), low)) drains =
        let spill = spill_of t small x z v has in
        let here = label_there x z v spill.meets some in
        inr (elim (cases_eq z OUT) [
          | inl out ↦ step_to level (Rim t x) Outlet (v, ((here, inr (inr (subst (λ y. IsSpillLink m.side summaries t x y v) out has))), low)) (at_outlet level)
          | inr on ↦ elim drains [
            | inl out ↦ absurd (on out)
            | inr way ↦ step_to level (Rim t x) (Rim t z) (v, ((here, (label_there z x v (turned t small level x z v spill.meets) on, inl (refl, inr (inr (inl has))))), low)) way
          ]
        ])
    cross x z (v, ((some, inr has), low)) drains =
        let spill = spill_of t small z x v has in
        let here = label_there x z v (turned t small level z x v spill.meets) some in
        let on : z ≢ OUT = λ out. after_out (subst (λ y. y < x) out spill.in_order) here.number in
        elim drains [
          | inl out ↦ absurd (on out)
          | inr way ↦ inr (step_to level (Rim t x) (Rim t z) (v, ((here, (label_there z x v spill.meets on, inl (refl, inr (inr (inr has))))), low)) way)
        ]
      where
        after_out : OUT < x → x < 4 * (m.side - 1) → ⊥
        after_out more number = let high = is.side_high in absurd (omega arith)

    -- water gets out from the label x if several crossings lead to a label from which it gets out
    walk : (y x : ℕ) (rest : List ℕ) → IsWayBelow (IsCrossing (summary_at summaries t).spills) y level x rest → Drains y → Drains x
    walk y x [] way drains = subst Drains (sym way) drains
    walk y x (z ∷ rest) way drains = cross x z way.0 (walk y z rest way.1 drains)

    size_is : length (summary_at summaries t).rim ≡ 4 * (m.side - 1)
    size_is = (of t small).rim.whole

    -- water gets out from the label x if a spill, kept or not, leads to a label from which it gets out
    spilled_to : (x y : ℕ) (v : ℤ) → IsThere m.side summaries t x → (y ≡ OUT) ⊎ IsThere m.side summaries t y → v ≤ℤ level → IsCrossing (summarizes t small).all x y v → Drains y → Drains x
    spilled_to x y v here there low crossing drains = elim ((summarizes t small).kept.crossed x y v (label here) (named_by there) crossing) [
      | inl on ↦ walk y x on.0 (way_up (IsCrossing (summary_at summaries t).spills) y v level low x on.0 on.1) drains
      | inr gone ↦ walk OUT x gone.0 (way_up (IsCrossing (summary_at summaries t).spills) OUT v level low x gone.0 gone.1) (inl refl)
    ]
      where
        label : {k : ℕ} → IsThere m.side summaries t k → IsLabelOf (length (summary_at summaries t).rim) k
        label {k} at = inl (subst (λ n. k < n) (sym size_is) at.number)

        named_by : (y ≡ OUT) ⊎ IsThere m.side summaries t y → IsLabelOf (length (summary_at summaries t).rim) y
        named_by (inl out) = inr out
        named_by (inr at) = label at

    -- labels that meet have a spill
    spill_to : (a b : ℕ) (v : ℤ) → a < b → Meets m.side (of t small).heights (of t small).levels (of t small).labels a b v → v ≤ℤ level
        → (w : ℤ) × (Contains (summarizes t small).all (record { a = a; b = b; level = w }) × (w ≤ℤ level))
    spill_to a b v less meets low =
        let found = (of t small).spills.all a b v less meets in
        let spill = (of t small).spills.each found.0 found.1.0 in
        let same : ◌≡◌ {A = Spill} found.0 (record { a = a; b = b; level = found.0.level }) = ap₂ (λ (x y : ℕ). record { a = x; b = y; level = found.0.level }) found.1.1.0 found.1.1.1 in (
          found.0.level,
          (
            subst (λ (p : Spill). Contains (summarizes t small).all p) same found.1.0,
            ≤ℤ_trans found.0.level v level (spill.least v (subst (λ x. Meets m.side (of t small).heights (of t small).levels (of t small).labels x found.0.b v) (sym found.1.1.0)
                (subst (λ y. Meets m.side (of t small).heights (of t small).levels (of t small).labels a y v) (sym found.1.1.1) meets))) low,
          ),
        )

    -- water that gets out from a point's label gets out from the label of an adjacent point
    over_drains : (e f : ℕ) → IsTrue (is_linked (bare_block m.side (of t small).heights) e f) → slice_index_or (of t small).levels e void ≤ℤ level → slice_index_or (of t small).levels f void ≤ℤ level →
        Drains (slice_index (of t small).labels f) → Drains (slice_index (of t small).labels e)
    over_drains e f link low_e low_f drains =
        let labels = (of t small).labels in
        let v = int_max (slice_index_or (of t small).levels e void) (slice_index_or (of t small).levels f void) in
        let low : int_max (slice_index_or (of t small).levels e void) (slice_index_or (of t small).levels f void) ≤ℤ level = max-le (slice_index_or (of t small).levels e void) (slice_index_or (of t small).levels f void) level low_e low_f in
        let meets : Meets m.side (of t small).heights (of t small).levels (of t small).labels (slice_index (of t small).labels e) (slice_index (of t small).labels f) (int_max (slice_index_or (of t small).levels e void) (slice_index_or (of t small).levels f void)) =
        record { points = (e, f, (link, (refl, (refl, refl)))) } in
        let back = turned t small level (slice_index (of t small).labels e) (slice_index (of t small).labels f) v meets in
        elim (cases_eq (slice_index (of t small).labels e) (slice_index (of t small).labels f)) [
          | inl same ↦ subst Drains (sym same) drains
          | inr other ↦ elim (cases_eq (slice_index (of t small).labels e) OUT) [
            | inl out ↦ inl out
            | inr some ↦
                let here = label_there (slice_index (of t small).labels e) (slice_index (of t small).labels f) v meets some in
                let there : (slice_index (of t small).labels f ≡ OUT) ⊎ IsThere m.side summaries t (slice_index (of t small).labels f) = elim (cases_eq (slice_index (of t small).labels f) OUT) [
                  | inl out ↦ inl out
                  | inr on ↦ inr (label_there (slice_index (of t small).labels f) (slice_index (of t small).labels e) v back on)
                ] in
                elim (cases_lt (slice_index (of t small).labels e) (slice_index (of t small).labels f)) [
                  | inl less ↦
                      let spill = spill_to (slice_index (of t small).labels e) (slice_index (of t small).labels f) v less meets low in
                      spilled_to (slice_index (of t small).labels e) (slice_index (of t small).labels f) spill.0 here there spill.1.1 (some, inl spill.1.0) drains
                  | inr more ↦
                      let spill = spill_to (slice_index (of t small).labels f) (slice_index (of t small).labels e) v (other_way (slice_index (of t small).labels e) (slice_index (of t small).labels f) other more) back low in
                      spilled_to (slice_index (of t small).labels e) (slice_index (of t small).labels f) spill.0 here there spill.1.1 (some, inr spill.1.0) drains
                ]
          ]
        ]
      where
        other_way : (a b : ℕ) → a ≢ b → b ≤ a → b < a
        other_way a b other more = omega arith

  -- a point's in-tile level is at most the crest of a path to an outlet
  low_level : (t : ℕ) (small : t < length summaries) (e : ℕ) (p : Point) (rest : List Point) → IsTrue (is_solid (bare_block m.side (of t small).heights) e) → point_of m.side (summary_at summaries t).corner e ≡ p → LeadsOut (terrain m) p rest →
      {level : ℤ} → crest (terrain m) p rest ≤ℤ level → slice_index_or (of t small).levels e void ≤ℤ level
  low_level t small e p rest solid at out {level} low =
      let inside = way_in_part (block_terrain (block_of m.side (of t small).heights (of t small).sinks)) (terrain m) (λ e. point_of m.side (summary_at summaries t).corner e) (is_rim m.side) (part t small) (block_is_lawful (block_of m.side (of t small).heights (of t small).sinks)) e p rest solid at out in
      ≤ℤ_trans (slice_index_or (of t small).levels e void) (crest (block_terrain (block_of m.side (of t small).heights (of t small).sinks)) e inside.0) level (((of t small).labelling.level e solid).least inside.0 inside.1.0)
      (≤ℤ_trans (crest (block_terrain (block_of m.side (of t small).heights (of t small).sinks)) e inside.0) (crest (terrain m) p rest) level inside.1.1 low)

  -- no other tile holds a point off the rim
  inner_held : (t u : ℕ) → t < length summaries → u < length summaries → (e : ℕ) → e < m.side * m.side → is_rim m.side e ≡ false →
      IsTrue (holds m.side (summary_at summaries u).corner (point_of m.side (summary_at summaries t).corner e)) → (summary_at summaries t).corner ≡ (summary_at summaries u).corner
  inner_held t u in_t in_u e inside off held =
      let c = (summary_at summaries t).corner in
      let p = point_of m.side c e in
      sym (inner_only m.side c e p is.side_low (index_of_point m.side c e some (corner_is t in_t) inside) off (summary_at summaries u).corner
      ((holds_is m.side (summary_at summaries u).corner p is.side_low (corner_is u in_u)).0 held))

  -- water that gets out from a point in one tile gets out from the same point in another tile
  moved : (level : ℤ) (p : Point) (t u : ℕ) (in_t : t < length summaries) (in_u : u < length summaries) (e f : ℕ) → e < m.side * m.side → f < m.side * m.side →
      point_of m.side (summary_at summaries t).corner e ≡ p → point_of m.side (summary_at summaries u).corner f ≡ p → IsTrue (is_ground m p) → (terrain m).height p ≤ℤ level →
      (slice_index (of u in_u).labels f ≡ OUT) ⊎ WayBelow level (Rim u (slice_index (of u in_u).labels f)) → (slice_index (of t in_t).labels e ≡ OUT) ⊎ WayBelow level (Rim t (slice_index (of t in_t).labels e))
  moved level p t u in_t in_u e f inside inside' at at' on low drains = elim (cases_eq t u) [
    | inl same ↦ same_tile same
    | inr other ↦ elim (cases_Bool (is_rim m.side e)) [
      | inr off ↦ absurd (other (one_summary t u in_t in_u (inner_held t u in_t in_u e inside off
          (subst (λ q. IsTrue (holds m.side (summary_at summaries u).corner q)) (at' ∙ sym at) (held_in u in_u f inside')))))
      | inl rim ↦ elim (cases_Bool (is_rim m.side f)) [
        | inr off ↦ absurd (other (sym (one_summary u t in_u in_t (inner_held u t in_u in_t f inside' off
            (subst (λ q. IsTrue (holds m.side (summary_at summaries t).corner q)) (at ∙ sym at') (held_in t in_t e inside))))))
        | inl rim' ↦
            let solid = solid_at t in_t e inside (subst (λ q. IsTrue (is_ground m q)) (sym at) on) in
            let solid' = solid_at u in_u f inside' (subst (λ q. IsTrue (is_ground m q)) (sym at') on) in
            let low_e : slice_index_or (of t in_t).heights e void ≤ℤ level = subst (λ w. w ≤ℤ level) (sym ((part t in_t).heights e solid ∙ ap (terrain m).height at)) low in
            let low_f : slice_index_or (of u in_u).heights f void ≤ℤ level = subst (λ w. w ≤ℤ level) (sym ((part u in_u).heights f solid' ∙ ap (terrain m).height at')) low in
            to_label level t in_t e inside rim solid low_e (step_to level (Rim t (rim_number m.side e)) (Rim u (rim_number m.side f)) (
              slice_index_or (of t in_t).heights e void,
              (
                (
                  there_at t in_t e inside rim solid,
                  (
                    there_at u in_u f inside' rim' solid',
                    inr (record {
                      apart = other;
                      point = p;
                      here = record { index = e; small = inside; rim = rim; number = refl; point = at };
                      there = record { index = f; small = inside'; rim = rim'; number = refl; point = at' };
                      height = (of t in_t).rim.height e inside rim;
                    }),
                  ),
                ),
                low_e,
              ),
            ) (of_node level u in_u f inside' rim' solid' low_f drains))
      ]
    ]
  ]
    where
      same_tile : t ≡ u → (slice_index (of t in_t).labels e ≡ OUT) ⊎ WayBelow level (Rim t (slice_index (of t in_t).labels e))
      same_tile same =
          let c = (summary_at summaries t).corner in
          let there : point_of m.side c f ≡ p = ap (λ v. point_of m.side (summary_at summaries v).corner f) same ∙ at' in
          let index : f ≡ e = sym (index_of_point_is m.side c f some (corner_is t in_t) inside') ∙ (ap (index_of m.side c) (there ∙ sym at) ∙ index_of_point_is m.side c e some (corner_is t in_t) inside) in
          let T : ℕ → Type 0 = λ v. (in_v : v < length summaries) → (slice_index (of v in_v).labels f ≡ OUT) ⊎ WayBelow level (Rim v (slice_index (of v in_v).labels f)) in
          let on_u : (in_v : u < length summaries) → (slice_index (of u in_v).labels f ≡ OUT) ⊎ WayBelow level (Rim u (slice_index (of u in_v).labels f)) =
          λ in_v. subst (λ h. (slice_index (of u h).labels f ≡ OUT) ⊎ WayBelow level (Rim u (slice_index (of u h).labels f))) (lt-one in_u in_v) drains in
          subst (λ g. (slice_index (of t in_t).labels g ≡ OUT) ⊎ WayBelow level (Rim t (slice_index (of t in_t).labels g))) index (subst T (sym same) on_u in_t)
        where
          lt-one : (a b : u < length summaries) → a ≡ b
          lt-one a b = let one : (a b : u < length summaries) → a ≡ b = hlevel props in one a b

  -- links follow each path to an outlet
  drains_along : (level : ℤ) (p : Point) (rest : List Point) → LeadsOut (terrain m) p rest → crest (terrain m) p rest ≤ℤ level →
      (t : ℕ) (small : t < length summaries) (e : ℕ) → e < m.side * m.side → point_of m.side (summary_at summaries t).corner e ≡ p →
      (slice_index (of t small).labels e ≡ OUT) ⊎ WayBelow level (Rim t (slice_index (of t small).labels e))
  drains_along level p [] out low t small e inside at =
      let outlet = subst (λ q. IsTrue (is_outlet m q)) (sym at) out.outlet in
      let solid = solid_at t small e inside ((terrain_is_lawful m).outlet_ground (point_of m.side (summary_at summaries t).corner e) outlet) in
      outlet_drains level t small e inside outlet (subst (λ w. w ≤ℤ level) (sym ((part t small).heights e solid ∙ ap (terrain m).height at)) low)
  drains_along level p (q ∷ rest) out low t small e inside at =
      let on : LeadsOut (terrain m) q rest = record { path = out.path.1; outlet = out.outlet } in
      let low_q : crest (terrain m) q rest ≤ℤ level = ≤ℤ_trans (crest (terrain m) q rest) (crest (terrain m) p (q ∷ rest)) level (le-max_right ((terrain m).height p) (crest (terrain m) q rest)) low in
      let low_p : (terrain m).height p ≤ℤ level = ≤ℤ_trans ((terrain m).height p) (crest (terrain m) p (q ∷ rest)) level (le-max_left ((terrain m).height p) (crest (terrain m) q rest)) low in
      let beside : IsTrue (is_adjacent m p q) = out.path.0 in
      let five = five_parts (is_ground m p) (is_ground m q) (not (same_point p q)) (is_near p q) (share_tile m p q) beside in
      let h = holder p q five.fifth in
      let u = h.tile in
      let c = (summary_at summaries u).corner in
      let held_p = (holds_is m.side c p is.side_low (corner_is u h.small)).0 h.first in
      let held_q = (holds_is m.side c q is.side_low (corner_is u h.small)).0 h.second in
      let i = index_of m.side c p in
      let j = index_of m.side c q in
      let in_i = index_of_below m.side c p held_p in
      let in_j = index_of_below m.side c q held_q in
      let at_i : point_of m.side c i ≡ p = point_of_index m.side c p held_p in
      let at_j : point_of m.side c j ≡ q = point_of_index m.side c q held_q in
      let solid_i = solid_at u h.small i in_i (subst (λ v. IsTrue (is_ground m v)) (sym at_i) five.first) in
      let solid_j = solid_at u h.small j in_j (subst (λ v. IsTrue (is_ground m v)) (sym at_j) five.second) in
      let link : IsTrue (is_linked (bare_block m.side (of u h.small).heights) i j) = adjacent_in_tile m is c (present u h.small) (of u h.small).heights (of u h.small).sinks (of u h.small).block i j in_i in_j
      (subst (λ v. IsTrue (is_adjacent m v (point_of m.side c j))) (sym at_i) (subst (λ v. IsTrue (is_adjacent m p v)) (sym at_j) beside)) in
      moved level p t u small h.small e i inside in_i at at_i five.first low_p
      (over_drains level u h.small i j link (low_level u h.small i p (q ∷ rest) solid_i at_i out low) (low_level u h.small j q rest solid_j at_j on low_q)
      (drains_along level q rest on low_q u h.small j in_j at_j))

  -- the joined level of a rim point is the filled level of its point
  pub joined_is_filled : (t k : ℕ) (there : IsThere m.side summaries t k) (v : ℤ) → IsJoinedLevel (IsLink m.side summaries) Outlet (Rim t k) v → (p : Point) → IsRimNumberOf m.side (summary_at summaries t).corner k p → IsFilledLevel (terrain m) p v
  joined_is_filled t k there v joined p number =
      let a = at_node t there.tile k there in
      let here : point_of m.side (summary_at summaries t).corner a.e ≡ p = numbered t k there.tile a p number in
      let out = filled_level_exists m is p (subst (λ q. IsTrue (is_ground m q)) here (ground_at t there.tile a.e a.solid)) in
      level_of_ways (terrain m) p v (subst (λ q. WayOut (terrain m) v q) here (sinks v (Rim t k) joined.reached.0 joined.reached.1 there.tile a))
      (λ lower way.
      let low : slice_index_or (of t there.tile).heights a.e void ≤ℤ lower = subst (λ w. w ≤ℤ lower) (sym ((part t there.tile).heights a.e a.solid ∙ ap (terrain m).height here))
      (≤ℤ_trans ((terrain m).height p) (crest (terrain m) p way.rest) lower (height-le_crest (terrain m) p way.rest) way.below) in
      let drains = drains_along lower p way.rest way.out way.below t there.tile a.e a.inside here in
      let on = of_node lower t there.tile a.e a.inside a.rim a.solid low drains in
      joined.least lower on.rest (subst (λ j. IsWayBelow (IsLink m.side summaries) Outlet lower (Rim t j) on.rest) a.number on.way))

  -- the filled level of a rim point's point is its joined level
  pub filled_is_joined : (t k : ℕ) (there : IsThere m.side summaries t k) (v : ℤ) (p : Point) → IsRimNumberOf m.side (summary_at summaries t).corner k p → IsFilledLevel (terrain m) p v → IsJoinedLevel (IsLink m.side summaries) Outlet (Rim t k) v
  filled_is_joined t k there v p number fill =
      let a = at_node t there.tile k there in
      let here : point_of m.side (summary_at summaries t).corner a.e ≡ p = numbered t k there.tile a p number in
      let way = way_of_level (terrain m) p v fill in
      let low : slice_index_or (of t there.tile).heights a.e void ≤ℤ v = subst (λ w. w ≤ℤ v) (sym ((part t there.tile).heights a.e a.solid ∙ ap (terrain m).height here)) (height-le_level (terrain m) p v fill) in
      let drains = drains_along v p way.rest way.out way.below t there.tile a.e a.inside here in
      let on = of_node v t there.tile a.e a.inside a.rim a.solid low drains in
      record {
        reached = (on.rest, subst (λ j. IsWayBelow (IsLink m.side summaries) Outlet v (Rim t j) on.rest) a.number on.way);
        least = λ lower rest joined.
            let back : WayOut (terrain m) lower p = subst (λ q. WayOut (terrain m) lower q) here (sinks lower (Rim t k) rest joined there.tile a) in
            ≤ℤ_trans v (crest (terrain m) p back.rest) lower (fill.least back.rest back.out) back.below;
      }

  -- each ground rim point has a joined level
  pub is_joined : (t k : ℕ) (there : IsThere m.side summaries t k) → (v : ℤ) × WayBelow v (Rim t k)
  is_joined t k there =
      let a = at_node t there.tile k there in
      let p = point_of m.side (summary_at summaries t).corner a.e in
      let fill = filled_level_exists m is p (ground_at t there.tile a.e a.solid) in
      let way = way_of_level (terrain m) p fill.0 fill.1 in
      let low : slice_index_or (of t there.tile).heights a.e void ≤ℤ fill.0 = subst (λ w. w ≤ℤ fill.0) (sym ((part t there.tile).heights a.e a.solid)) (height-le_level (terrain m) p fill.0 fill.1) in
      let drains = drains_along fill.0 p way.rest way.out way.below t there.tile a.e a.inside refl in
      (fill.0, subst (λ j. WayBelow fill.0 (Rim t j)) a.number (of_node fill.0 t there.tile a.e a.inside a.rim a.solid low drains))

  -- the summaries are in the order of tiles
  pub are_in_order : AreInOrder summaries
  are_in_order = record {
    corners = corner_is;
    rising = λ k d small.
        let none : Summary = record { corner = record { lat = pos 0; lon = pos 0 }; rim = []; spills = [] } in
        let first = get_or_default summaries k none d (omega arith) in
        let second = get_or_default summaries (k + 1) none d small in
        let rise = is.in_order k (record { corner = record { lat = pos 0; lon = pos 0 }; samples = [] }) (subst (λ v. k + 1 < v) as_many small) in
        subst (λ (b : Summary). IsBefore (get_or summaries k d).corner b.corner) second
        (subst (λ (b : Summary). IsBefore b.corner (summary_at summaries (k + 1)).corner) first
        (subst (λ c. IsBefore c (summary_at summaries (k + 1)).corner) (tile_corner k) (subst (λ c. IsBefore (get_or m.tiles k (record { corner = record { lat = pos 0; lon = pos 0 }; samples = [] })).corner c) (tile_corner (k + 1)) rise)));
  }
