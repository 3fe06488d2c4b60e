-- Flows computed from the square around a tile are right for the mosaic.
use Rattle.std.proofs.Common.{rules}
use Rattle.flow_d8.proofs.Prelude.{AreFilledLevels, AreTileFlows, Beside, Bool, Contains, Corner, CrossesFlat, Dir, East, Flat, FlatTo, Flow, IsFalse, IsFlow, IsInner, IsLevelGrid, IsMosaic, IsPaddedTile, IsShown, IsStepped, IsTrue, LeadsToEnd, LiesInside, List, Mosaic, NoGround, North, NorthEast, NorthWest, Outlet, Point, Sides, South, SouthEast, SouthWest, To, Unknown, West, ℕ, ℤ, [], ap, ap₂, arith, cases_Bool, cases_eq, cases_lt, cond-false, cond-true, east_of, east_of_tile, eq_or_not, false, from_parts, if◌then◌else◌, inl, inr, ints, is_adjacent, is_ground, is_present, is_sink, le_or_above, level_beside, level_is_unique, list_any, lt_false, lt_true, north_of, north_of_tile, or_cases, or_left, or_right, padded_point, place_by, point_of, pos, refl, same_point, share_tile, south_of_tile, step, subst, suc, sym, terrain, true, true≢false, void, west_of_tile, zero, ⊎_elim, ◌%◌, ◌*ℤ◌, ◌*◌, ◌+ℤ◌, ◌+◌, ◌-ℤ◌, ◌-◌, ◌/◌, ◌<ℤ◌, ◌<◌, ◌↔◌, ◌∙◌, ◌∷◌, ◌≡◌, ◌≤◌, ◌⊎◌}
use Rattle.lattice.proofs.SamePoints.{same_place, same_point_says, same_point_from}
use Rattle.lattice.proofs.Samples.{row_below}
use Rattle.water.proofs.Compass.{first_dir}
use Rattle.flow_d8.proofs.Steps.Nearby.{one_step, in_one_tile, level_grid, never_void}
use Rattle.flow_d8.proofs.Mosaics.PointFlows.{edge_off, inner_is}
use Rattle.flow_d8.specs.Preparing.{flow_in, level_in, IsLocal, IsPlain, IsEnd, HasSink, IsSunkFlow, AreSunkFlows, IsEndBeside, IsFirstEndBeside, IsEnded, AreEnded, place_in, leads_over, IsClosedAt, IsClosedFlow, IsClosing}
use Rattle.flow_d8.proofs.Padded.FirstEnds.{crosses_by, leads_by, first_is_direction}
use Rattle.flow_d8.proofs.Mosaics.FullTerrain.{mosaic_is_full}
use Rattle.flow_d8.proofs.Padded.PaddedPlaces.{row_by, column_by, place_is, point_is, row_near, column_near, close_y, close_x, one_row, one_column, inner_at}
use Rattle.flow_d8.proofs.Mosaics.SharedTiles.{IsAlong, IsBetween, Lies, lies_at, just_above, just_below, share_around, along_x, along_y, share_inside, share_corner, over_rows, over_columns}

plain_end : (f : Flow) → IsPlain f → (f ≡ NoGround → ⊥) → (f ≡ Flat → ⊥) → IsEnd f
plain_end NoGround plain other flat = absurd (other refl)
plain_end Outlet plain other flat = tt
plain_end (To d) plain other flat = tt
plain_end Flat plain other flat = absurd (flat refl)
plain_end _ plain other flat = absurd plain

-- ---- points of a list
any_listed : (p : Point) (l : List Point) (s : Point) → Contains l s → s ≡ p → list_any (λ x. same_point x p) l ≡ true
any_listed p [] s (k, below, at) same = absurd (omega arith)
any_listed p (x ∷ xs) s (zero, below, at) same = or_left (same_point x p) (list_any (λ y. same_point y p) xs) (same_point_from x p (at ∙ same))
any_listed p (x ∷ xs) s (suc k, below, at) same = or_right (same_point x p) (list_any (λ y. same_point y p) xs) (any_listed p xs s (k, omega arith, at) same)

listed_says : (p : Point) (l : List Point) → list_any (λ x. same_point x p) l ≡ true → (s : Point) × (Contains l s × (s ≡ p))
listed_says p [] none = absurd (true≢false (sym none))
listed_says p (x ∷ xs) some = ⊎_elim
    (λ here. (x, ((0, omega arith, refl), same_point_says x p here)))
    (λ later. let rest = listed_says p xs later in (rest.0, ((suc rest.1.0.0, omega (arith, rest.1.0.1), rest.1.0.2), rest.1.1)))
    (or_cases (same_point x p) _ some)

module _ (m : Mosaic) (is : IsMosaic m) (c : Corner) (levels : List ℤ) (sides : Sides) (sinks : List Point) (padded : IsPaddedTile m c levels sides sinks)
    (level : Point → ℤ) (filled : AreFilledLevels (terrain m) level) where
  abbrev n : ℕ
  n = m.side

  abbrev width : ℕ
  width = n + 4

  abbrev pt : ℕ → ℕ → Point
  pt i j = padded_point n c i j

  side : 3 ≤ n
  side = is.side_low

  grid : IsLevelGrid (terrain m) level
  grid = level_grid m is level filled

  seen : (i j : ℕ) → i < width → j < width → level_in levels (i * width + j) ≡ (if is_ground m (pt i j) then level (pt i j) else void)
  seen i j row column = elim (cases_Bool (is_ground m (pt i j))) [
    | inl solid ↦
        level_is_unique (terrain m) (pt i j) (level_in levels (i * width + j)) (level (pt i j)) (padded.levels_are.on_ground i j row column solid) (filled (pt i j) solid)
        ∙ sym (cond-true (is_ground m (pt i j)) (level (pt i j)) void solid)
    | inr none ↦ padded.levels_are.elsewhere i j row column none ∙ sym (cond-false (is_ground m (pt i j)) (level (pt i j)) void none)
  ]

  -- a place that isn't at the edge of the square
  module _ (i j : ℕ) (up : 1 ≤ i) (down : i < n + 3) (left : 1 ≤ j) (right : j < n + 3) where
    abbrev k : ℕ
    k = i * width + j

    abbrev p : Point
    p = pt i j

    here : level_in levels k ≡ (if is_ground m p then level p else void)
    here = seen i j (omega arith) (omega arith)

    level_here : IsTrue (is_ground m p) → level_in levels k ≡ level p
    level_here solid = here ∙ cond-true (is_ground m p) (level p) void solid

    there : (d : Dir) → level_in levels (place_by width k d) ≡ (if is_ground m (step d p) then level (step d p) else void)
    there d =
        let a = row_near i d in
        let b = column_near j d in
        ap (level_in levels) (place_is width i j up left d)
        ∙ seen (row_by i d) (column_by j d) (omega (arith, a.1)) (omega (arith, b.1))
        ∙ ap (λ q. if is_ground m q then level q else void) (point_is n c i j up left d)

    ground_there : (d : Dir) → (level_in levels (place_by width k d) ≡ void → ⊥) → IsTrue (is_ground m (step d p))
    ground_there d some = elim (cases_Bool (is_ground m (step d p))) [
      | inl solid ↦ solid
      | inr none ↦ absurd (some (there d ∙ cond-false (is_ground m (step d p)) (level (step d p)) void none))
    ]

    not_there : (d : Dir) → level_in levels (place_by width k d) ≡ void → IsFalse (is_ground m (step d p))
    not_there d none = elim (cases_Bool (is_ground m (step d p))) [
      | inl solid ↦ absurd (never_void m is level filled (step d p) solid (sym (there d ∙ cond-true (is_ground m (step d p)) (level (step d p)) void solid) ∙ none))
      | inr off ↦ off
    ]

    -- a neighbour that isn't ground, or shares no tile with the point, isn't adjacent
    apart_void : (d : Dir) → IsFalse (is_ground m (step d p)) → IsFalse (is_adjacent m p (step d p))
    apart_void d none = search rules

    apart_tiles : (d : Dir) → (IsTrue (share_tile m p (step d p)) → ⊥) → IsFalse (is_adjacent m p (step d p))
    apart_tiles d none = elim (cases_Bool (is_adjacent m p (step d p))) [
      | inl on ↦ absurd (none (in_one_tile m p (step d p) on))
      | inr off ↦ off
    ]

    beside_is : IsTrue (is_ground m p) → (d : Dir) → (IsTrue (is_ground m (step d p)) → IsTrue (share_tile m p (step d p)))
        → level_in levels (place_by width k d) ≡ level_beside (terrain m) level p d
    beside_is solid d share = elim (cases_Bool (is_ground m (step d p))) [
      | inl on ↦
          there d ∙ cond-true (is_ground m (step d p)) (level (step d p)) void on
          ∙ sym (cond-true (is_adjacent m p (step d p)) (level (step d p)) void (one_step m p d solid on (share on)))
      | inr off ↦
          there d ∙ cond-false (is_ground m (step d p)) (level (step d p)) void off
          ∙ sym (cond-false (is_adjacent m p (step d p)) (level (step d p)) void (apart_void d off))
    ]

    beside_none : (d : Dir) → (IsTrue (share_tile m p (step d p)) → ⊥) → void ≡ level_beside (terrain m) level p d
    beside_none d none = sym (cond-false (is_adjacent m p (step d p)) (level (step d p)) void (apart_tiles d none))

    shown : (IsTrue (is_ground m p) → (d : Dir) → IsTrue (is_ground m (step d p)) → IsTrue (share_tile m p (step d p))) → IsShown (terrain m) level levels width p k
    shown share = record { here = here; around = λ solid d. beside_is solid d (share solid d) }

    -- ---- if all eight neighbours are ground, all are adjacent
    lies_y : Lies (n - 1) p.y
    lies_y = lies_at (n - 1) (omega (arith, side)) c.lat p.y (n + 2 - i) (omega (arith, side)) (omega (arith, ints))

    lies_x : Lies (n - 1) p.x
    lies_x = lies_at (n - 1) (omega (arith, side)) c.lon p.x (j - 1) (omega (arith, side)) (omega (arith, ints))

    module _ (solid : IsTrue (is_ground m p)) (all : (d : Dir) → IsTrue (is_ground m (step d p))) where
      by : (e : Dir) (y x : ℤ) → y ≡ (step e p).y → x ≡ (step e p).x → IsTrue (is_ground m (record { y = y; x = x }))
      by e y x same_y same_x = subst (λ q. IsTrue (is_ground m q)) (sym (same_place (record { y = y; x = x }) (step e p) same_y same_x)) (all e)

      by_here : (y x : ℤ) → y ≡ p.y → x ≡ p.x → IsTrue (is_ground m (record { y = y; x = x }))
      by_here y x same_y same_x = subst (λ q. IsTrue (is_ground m q)) (sym (same_place (record { y = y; x = x }) p same_y same_x)) solid

      around : (d : Dir) → IsTrue (is_ground m (record { y = p.y; x = (step d p).x })) → IsTrue (is_ground m (record { y = (step d p).y; x = p.x })) → IsTrue (share_tile m p (step d p))
      around d g_row g_column = share_around m side p (step d p) lies_y lies_x (close_y p d) (close_x p d) solid g_row g_column (all d)

      pub share_all : (d : Dir) → IsTrue (share_tile m p (step d p))
      share_all East = around East (by East _ _ (omega (arith, ints)) refl) (by_here _ _ (omega (arith, ints)) refl)
      share_all SouthEast = around SouthEast (by East _ _ (omega (arith, ints)) refl) (by South _ _ refl (omega (arith, ints)))
      share_all South = around South (by_here _ _ refl (omega (arith, ints))) (by South _ _ refl (omega (arith, ints)))
      share_all SouthWest = around SouthWest (by West _ _ (omega (arith, ints)) refl) (by South _ _ refl (omega (arith, ints)))
      share_all West = around West (by West _ _ (omega (arith, ints)) refl) (by_here _ _ (omega (arith, ints)) refl)
      share_all NorthWest = around NorthWest (by West _ _ (omega (arith, ints)) refl) (by North _ _ refl (omega (arith, ints)))
      share_all North = around North (by_here _ _ refl (omega (arith, ints))) (by North _ _ refl (omega (arith, ints)))
      share_all NorthEast = around NorthEast (by East _ _ (omega (arith, ints)) refl) (by North _ _ refl (omega (arith, ints)))

    -- ---- sinks
    sink_if : HasSink n c sinks k → is_sink m p ≡ true
    sink_if (s, (listed, at)) =
        let row : at.row ≡ i = one_row width at.row at.column i j (omega (arith, at.column_high)) (omega arith) (sym at.at) in
        let column : at.column ≡ j = one_column width at.row at.column i j (omega (arith, at.column_high)) (omega arith) (sym at.at) in
        let same : s ≡ p = sym at.is ∙ ap₂ pt row column in
        any_listed p m.sinks s (subst (λ l. Contains l s) padded.sinks_are listed) same

    sink_says : is_sink m p ≡ true → HasSink n c sinks k
    sink_says on =
        let found = listed_says p m.sinks on in (
          found.0,
          (
            subst (λ l. Contains l found.0) (sym padded.sinks_are) found.1.0,
            record {
              row = i;
              column = j;
              row_low = up;
              row_high = down;
              column_low = left;
              column_high = right;
              at = refl;
              is = sym found.1.1;
            },
          ),
        )

    -- ---- the flow from the levels around a point and the sinks is right if the levels show the point
    module _ (flow : Flow) (sunk : IsSunkFlow n c levels sinks k flow) (solid : IsTrue (is_ground m p)) where
      not_sink : flow ≡ Flat → is_sink m p ≡ false
      not_sink flat = ⊎_elim (λ on. absurd (sunk.sunk (sink_says on) flat)) (λ off. off) (cases_Bool (is_sink m p))

      inner_out : ((d : Dir) → IsTrue (is_adjacent m p (step d p))) → (b : Bool) → is_sink m p ≡ b → (terrain m).is_outlet p ≡ b
      inner_out all b is = inner_is (terrain m) level p (is_sink m p) refl solid all ∙ is

      -- a local flow, changed only by a sink, is an exit's flow exactly if the point is an exit
      local_told : (f : Flow) → IsLocal (terrain m) level p f → (flow ≡ f) ⊎ ((f ≡ Flat) × (flow ≡ Outlet) × HasSink n c sinks k) → (CrossesFlat (terrain m) level p 0) ↔ IsEnd flow
      local_told Unknown so or_sink = absurd so
      local_told NoGround so or_sink = absurd (true≢false (sym solid ∙ so))
      local_told Outlet so or_sink =
          let out : flow ≡ Outlet = ⊎_elim (λ same. same) (λ sink. sink.1) or_sink in
          (λ crosses. subst IsEnd (sym out) tt, λ end. inr (edge_off (terrain m) level p (is_sink m p) refl solid so.2.0 so.2.1))
      local_told (To d) so (inl same) = (λ crosses. subst IsEnd (sym same) tt, λ end. inl (step d p, so.1.lower))
      local_told (To d) so (inr sink) = absurd (subst (λ f. IsDown f) sink.0 tt)
        where
          IsDown : Flow → Type 0
          IsDown (To d) = Unit {0}
          IsDown _ = ⊥
      local_told (Beside d) so or_sink = absurd so
      local_told Flat so (inl same) = (
        λ crosses. ⊎_elim (λ low. absurd (so.1 low)) (λ out. absurd (true≢false (sym out ∙ inner_out so.2 false (not_sink same)))) crosses,
        λ end. absurd (subst IsEnd same end),
      )
      local_told Flat so (inr sink) = (λ crosses. subst IsEnd (sym sink.1) tt, λ end. inr (inner_out so.2 true (sink_if sink.2)))
      local_told (FlatTo d) so or_sink = absurd so

      -- a place is an exit exactly if its point is one, since a point next to one that isn't ground is an outlet
      pub end_is : (CrossesFlat (terrain m) level p 0) ↔ IsEnd flow
      end_is = ⊎_elim
          (λ gap. (
            λ crosses. ⊎_elim
                (λ same. subst IsEnd (sym same) (plain_end sunk.local sunk.is.plain
                (λ none. never_void m is level filled p solid (sym (level_here solid) ∙ sunk.is.none none))
                (λ flat. sunk.is.full flat gap.0 gap.1.has)))
                (λ sink. subst IsEnd (sym sink.1) tt)
                sunk.or_sink,
            λ end. inr (edge_off (terrain m) level p (is_sink m p) refl solid gap.0 (apart_void gap.0 (not_there gap.0 gap.1.has))),
          ))
          (λ full.
          let all : (d : Dir) → IsTrue (is_ground m (step d p)) = λ d. ground_there d (full d) in
          local_told sunk.local (sunk.is.so (terrain m) level p grid (shown (λ s d g. share_all solid all d))) sunk.or_sink)
          (first_dir (λ d. level_in levels (place_by width k d) ≡ void) (λ d. eq_or_not (level_in levels (place_by width k d)) void))

  -- ---- the samples of the tile
  module _ (r s : ℕ) (low : r < n) (right : s < n) where
    abbrev i : ℕ
    i = r + 2

    abbrev j : ℕ
    j = s + 2

    abbrev x : Point
    x = pt i j

    abbrev kx : ℕ
    kx = place_in n r s

    y_is : (x.y +ℤ pos r) ≡ c.lat *ℤ pos (n - 1) +ℤ pos (n - 1)
    y_is = omega (arith, ints, side)

    x_is : x.x ≡ c.lon *ℤ pos (n - 1) +ℤ pos s
    x_is = omega (arith, ints)

    -- the position is at an end of the row or column, or between them
    spot : (k : ℕ) → k < n → ((k ≡ 0) ⊎ (k ≡ n - 1)) ⊎ ((0 < k) × (k < n - 1))
    spot k small = search rules

    module _ (d : Dir) where
      abbrev q : Point
      q = step d x

      abbrev Shares : Type 0
      Shares = IsTrue (share_tile m x q)

      inside : IsAlong (n - 1) c.lat q.y → IsAlong (n - 1) c.lon q.x → Shares
      inside in_y in_x = share_inside m side c padded.present x q r s (omega arith) (omega arith) y_is x_is (close_y x d) (close_x x d) in_y in_x

      reach_x : 0 < s → s < n - 1 → IsAlong (n - 1) c.lon q.x
      reach_x some more = along_x m side c padded.present x q r s (omega arith) (omega arith) y_is x_is (close_y x d) (close_x x d) some more

      reach_y : 0 < r → r < n - 1 → IsAlong (n - 1) c.lat q.y
      reach_y some more = along_y m side c padded.present x q r s (omega arith) (omega arith) y_is x_is (close_y x d) (close_x x d) some more

      rows_over : 0 < s → s < n - 1 → (lat : ℤ) → IsAlong (n - 1) lat x.y → IsBetween (n - 1) lat q.y → Shares ↔ IsTrue (is_present m (record { lat = lat; lon = c.lon }))
      rows_over = over_rows m side c padded.present x q r s (omega arith) (omega arith) y_is x_is (close_y x d) (close_x x d)

      columns_over : 0 < r → r < n - 1 → (lon : ℤ) → IsAlong (n - 1) lon x.x → IsBetween (n - 1) lon q.x → Shares ↔ IsTrue (is_present m (record { lat = c.lat; lon = lon }))
      columns_over = over_columns m side c padded.present x q r s (omega arith) (omega arith) y_is x_is (close_y x d) (close_x x d)

      over_north : 0 < s → s < n - 1 → (c.lat *ℤ pos (n - 1) +ℤ pos (n - 1)) <ℤ q.y → Shares ↔ IsTrue (is_present m (north_of_tile c))
      over_north some more over =
          let beyond = just_above (n - 1) (omega (arith, side)) c.lat x.y q.y (omega (arith, ints, y_is)) (close_y x d) over in
          rows_over some more (c.lat +ℤ pos 1) beyond.0 beyond.1

      over_south : 0 < s → s < n - 1 → q.y <ℤ (c.lat *ℤ pos (n - 1)) → Shares ↔ IsTrue (is_present m (south_of_tile c))
      over_south some more over =
          let beyond = just_below (n - 1) (omega (arith, side)) c.lat x.y q.y (omega (arith, ints, y_is, low)) (close_y x d) over in
          rows_over some more (c.lat -ℤ pos 1) beyond.0 beyond.1

      over_east : 0 < r → r < n - 1 → (c.lon *ℤ pos (n - 1) +ℤ pos (n - 1)) <ℤ q.x → Shares ↔ IsTrue (is_present m (east_of_tile c))
      over_east some more over =
          let beyond = just_above (n - 1) (omega (arith, side)) c.lon x.x q.x (omega (arith, ints, x_is, right)) (close_x x d) over in
          columns_over some more (c.lon +ℤ pos 1) beyond.0 beyond.1

      over_west : 0 < r → r < n - 1 → q.x <ℤ (c.lon *ℤ pos (n - 1)) → Shares ↔ IsTrue (is_present m (west_of_tile c))
      over_west some more over =
          let beyond = just_below (n - 1) (omega (arith, side)) c.lon x.x q.x (omega (arith, ints, x_is)) (close_x x d) over in
          columns_over some more (c.lon -ℤ pos 1) beyond.0 beyond.1

      -- across edges that aren't closed all ground is adjacent
      module _ (open_at : (e : Dir) → IsClosedAt n sides e r s → ⊥) where
        present_if : (flag : Bool) (tile : Corner) → flag ≡ is_present m tile → (flag ≡ false → ⊥) → IsTrue (is_present m tile)
        present_if flag tile told open_flag = ⊎_elim (λ on. sym told ∙ on) (λ off. absurd (open_flag off)) (cases_Bool flag)

        open_rows : 0 < s → s < n - 1 → Shares
        open_rows some more =
            let cy = close_y x d in
            let y = y_is in
            ⊎_elim
            (λ down. ⊎_elim
            (λ up. inside (from_parts (n - 1) c.lat q.y up down) (reach_x some more))
            (λ south. (over_south some more south).1 (present_if sides.south (south_of_tile c) padded.sides_are.south (λ off.
            open_at South (off, omega (arith, ints, cy.0, cy.1, y, south, low), some, omega (arith, more)))))
            (le_or_above (c.lat *ℤ pos (n - 1)) q.y))
            (λ north. (over_north some more north).1 (present_if sides.north (north_of_tile c) padded.sides_are.north (λ off.
            open_at North (off, omega (arith, ints, cy.0, cy.1, y, north), some, omega (arith, more)))))
            (le_or_above q.y (c.lat *ℤ pos (n - 1) +ℤ pos (n - 1)))

        open_columns : 0 < r → r < n - 1 → Shares
        open_columns some more =
            let cx = close_x x d in
            let xs = x_is in
            ⊎_elim
            (λ down. ⊎_elim
            (λ up. inside (reach_y some more) (from_parts (n - 1) c.lon q.x up down))
            (λ west. (over_west some more west).1 (present_if sides.west (west_of_tile c) padded.sides_are.west (λ off.
            open_at West (off, omega (arith, ints, cx.0, cx.1, xs, west), some, omega (arith, more)))))
            (le_or_above (c.lon *ℤ pos (n - 1)) q.x))
            (λ east. (over_east some more east).1 (present_if sides.east (east_of_tile c) padded.sides_are.east (λ off.
            open_at East (off, omega (arith, ints, cx.0, cx.1, xs, east, right), some, omega (arith, more)))))
            (le_or_above q.x (c.lon *ℤ pos (n - 1) +ℤ pos (n - 1)))

        open_share : IsTrue (is_ground m q) → Shares
        open_share solid = ⊎_elim
            (λ edge_y. ⊎_elim
            (λ edge_x. share_corner m side c padded.present x q r s (omega arith) (omega arith) y_is x_is (close_y x d) (close_x x d) edge_y edge_x solid)
            (λ between_x. open_rows between_x.0 between_x.1)
            (spot s right))
            (λ between_y. open_columns between_y.0 between_y.1)
            (spot r low)

    -- ---- a closed edge
    absent : (flag : Bool) (tile : Corner) → flag ≡ is_present m tile → flag ≡ false → IsTrue (is_present m tile) → ⊥
    absent flag tile told off on = true≢false (sym on ∙ sym told ∙ off)

    -- across a closed edge nothing is adjacent; elsewhere all ground is
    over_closed : (e d : Dir) → IsClosedAt n sides e r s → leads_over e d ≡ true → IsTrue (share_tile m x (step d x)) → ⊥
    over_closed North d closed over share =
        let up = lt_true (pos 0) (north_of d) over in
        let y = y_is in
        absent sides.north (north_of_tile c) padded.sides_are.north closed.0 ((over_north d closed.2 (omega (arith, closed.3)) (omega (arith, ints, closed.1))).0 share)
    over_closed East d closed over share =
        let up = lt_true (pos 0) (east_of d) over in
        let xs = x_is in
        absent sides.east (east_of_tile c) padded.sides_are.east closed.0 ((over_east d closed.2 (omega (arith, closed.3)) (omega (arith, ints, closed.1))).0 share)
    over_closed South d closed over share =
        let up = lt_true (north_of d) (pos 0) over in
        let y = y_is in
        absent sides.south (south_of_tile c) padded.sides_are.south closed.0 ((over_south d closed.2 (omega (arith, closed.3)) (omega (arith, ints, closed.1))).0 share)
    over_closed West d closed over share =
        let up = lt_true (east_of d) (pos 0) over in
        let xs = x_is in
        absent sides.west (west_of_tile c) padded.sides_are.west closed.0 ((over_west d closed.2 (omega (arith, closed.3)) (omega (arith, ints, closed.1))).0 share)
    over_closed SouthEast d closed over share = absurd closed
    over_closed _ d closed over share = absurd closed

    beside_closed : (e d : Dir) → IsClosedAt n sides e r s → leads_over e d ≡ false → IsTrue (share_tile m x (step d x))
    beside_closed North d closed over =
        let up = lt_false (pos 0) (north_of d) over in
        let y = y_is in
        let cy = close_y x d in
        inside d (from_parts (n - 1) c.lat (step d x).y (omega (arith, ints, closed.1, cy.0, side)) (omega (arith, ints, closed.1))) (reach_x d closed.2 (omega (arith, closed.3)))
    beside_closed East d closed over =
        let up = lt_false (pos 0) (east_of d) over in
        let xs = x_is in
        let cx = close_x x d in
        inside d (reach_y d closed.2 (omega (arith, closed.3))) (from_parts (n - 1) c.lon (step d x).x (omega (arith, ints, closed.1, cx.0, side)) (omega (arith, ints, closed.1)))
    beside_closed South d closed over =
        let up = lt_false (north_of d) (pos 0) over in
        let y = y_is in
        let cy = close_y x d in
        inside d (from_parts (n - 1) c.lat (step d x).y (omega (arith, ints, closed.1)) (omega (arith, ints, closed.1, cy.1, side))) (reach_x d closed.2 (omega (arith, closed.3)))
    beside_closed West d closed over =
        let up = lt_false (east_of d) (pos 0) over in
        let xs = x_is in
        let cx = close_x x d in
        inside d (reach_y d closed.2 (omega (arith, closed.3))) (from_parts (n - 1) c.lon (step d x).x (omega (arith, ints, closed.1)) (omega (arith, ints, closed.1, cx.1, side)))
    beside_closed SouthEast d closed over = absurd closed
    beside_closed _ d closed over = absurd closed

    straight_over : (e : Dir) → IsClosedAt n sides e r s → leads_over e e ≡ true
    straight_over SouthEast closed = absurd closed
    straight_over SouthWest closed = absurd closed
    straight_over NorthWest closed = absurd closed
    straight_over NorthEast closed = absurd closed
    straight_over _ closed = refl

    -- ---- the sample's flow is right
    from_local : (f : Flow) → IsLocal (terrain m) level x f → (f ≡ Flat → ⊥) → IsFlow (terrain m) level x f
    from_local NoGround so other = so
    from_local Outlet so other = (so.1, edge_off (terrain m) level x (is_sink m x) refl so.0 so.2.0 so.2.1)
    from_local (To d) so other = so.1
    from_local Flat so other = absurd (other refl)
    from_local _ so other = absurd so

    closed_flow : (flow : Flow) → IsClosedFlow n levels sides (r * n + s) flow → IsFlow (terrain m) level x flow
    closed_flow flow told = from_local flow so (λ flat. let all = (subst (IsLocal (terrain m) level x) flat so).2 in
        over_closed told.side told.side closed (straight_over told.side closed) (in_one_tile m x (step told.side x) (all told.side)))
      where
        row : told.row ≡ r
        row = one_row n told.row told.column r s (column_below told.side told.closed) right (sym told.at)
          where
            column_below : (e : Dir) → IsClosedAt n sides e told.row told.column → told.column < n
            column_below North closed = omega (arith, closed.3)
            column_below East closed = omega (arith, closed.1)
            column_below South closed = omega (arith, closed.3)
            column_below West closed = omega (arith, closed.1, side)
            column_below SouthEast closed = absurd closed
            column_below SouthWest closed = absurd closed
            column_below NorthWest closed = absurd closed
            column_below NorthEast closed = absurd closed

        column : told.column ≡ s
        column = omega (arith, told.at, ap (λ v. v * n) row)

        closed : IsClosedAt n sides told.side r s
        closed = subst (λ v. IsClosedAt n sides told.side v s) row (subst (λ v. IsClosedAt n sides told.side told.row v) column told.closed)

        place : place_in n told.row told.column ≡ kx
        place = ap₂ (place_in n) row column

        so : IsLocal (terrain m) level x flow
        so = told.is.so (terrain m) level x grid (ap (level_in levels) place ∙ here i j (omega arith) (omega arith) (omega arith) (omega arith)) (λ solid d.
            ap (λ v. if leads_over told.side d then void else level_in levels (place_by width v d)) place ∙ around solid d)
          where
            around : IsTrue (is_ground m x) → (d : Dir) → (if leads_over told.side d then void else level_in levels (place_by width kx d)) ≡ level_beside (terrain m) level x d
            around solid d = elim (cases_Bool (leads_over told.side d)) [
              | inl over ↦ cond-true (leads_over told.side d) void (level_in levels (place_by width kx d)) over
                  ∙ beside_none i j (omega arith) (omega arith) (omega arith) (omega arith) d (over_closed told.side d closed over)
              | inr not ↦ cond-false (leads_over told.side d) void (level_in levels (place_by width kx d)) not
                  ∙ beside_is i j (omega arith) (omega arith) (omega arith) (omega arith) solid d (λ g. beside_closed told.side d closed not)
            ]

    -- ---- a sample on no closed edge
    module _ (open_at : (e : Dir) → IsClosedAt n sides e r s → ⊥) (around : List Flow) (sunk : AreSunkFlows n c levels sinks around) where
      inner_sunk : (h k : ℕ) → 1 ≤ h → h < n + 3 → 1 ≤ k → k < n + 3 → IsSunkFlow n c levels sinks (h * width + k) (flow_in around (h * width + k))
      inner_sunk h k up down left end = sunk (h * width + k) (subst (λ z. IsInner width z (h * width + k)) (sym padded.levels_are.whole) (inner_at n h k up down left end))

      told_here : IsSunkFlow n c levels sinks kx (flow_in around kx)
      told_here = inner_sunk i j (omega arith) (omega arith) (omega arith) (omega arith)

      so : IsLocal (terrain m) level x told_here.local
      so = told_here.is.so (terrain m) level x grid (shown i j (omega arith) (omega arith) (omega arith) (omega arith) (λ solid d g. open_share d open_at g))

      not_flat : (flow_in around kx ≡ Flat → ⊥) → IsFlow (terrain m) level x (flow_in around kx)
      not_flat other = ⊎_elim
          (λ same. subst (IsFlow (terrain m) level x) (sym same) (from_local told_here.local so (λ flat. other (same ∙ flat))))
          (λ sink.
          let flat = subst (IsLocal (terrain m) level x) sink.0 so in
          subst (IsFlow (terrain m) level x) (sym sink.1)
          (flat.1, inner_is (terrain m) level x (is_sink m x) refl flat.0 flat.2 ∙ sink_if i j (omega arith) (omega arith) (omega arith) (omega arith) sink.2))
          told_here.or_sink

      module _ (flat : flow_in around kx ≡ Flat) where
        local_flat : IsLocal (terrain m) level x Flat
        local_flat = subst (IsLocal (terrain m) level x) (⊎_elim (λ same. sym same ∙ flat) (λ sink. sink.0) told_here.or_sink) so

        lies : LiesInside (terrain m) level x
        lies = record {
          ground = local_flat.0;
          inside = λ crosses. subst IsEnd flat ((end_is i j (omega arith) (omega arith) (omega arith) (omega arith) (flow_in around kx) told_here local_flat.0).0 crosses);
        }

        module _ (d : Dir) where
          abbrev z : Point
          z = step d x

          solid_z : IsTrue (is_ground m z)
          solid_z = grid.lawful.to_ground x z (local_flat.2 d)

          level_z : level_in levels (place_by width kx d) ≡ level z
          level_z = there i j (omega arith) (omega arith) (omega arith) (omega arith) d ∙ cond-true (is_ground m z) (level z) void solid_z

          level_x : level_in levels kx ≡ level x
          level_x = level_here i j (omega arith) (omega arith) (omega arith) (omega arith) local_flat.0

          end_z : CrossesFlat (terrain m) level z 0 ↔ IsEnd (flow_in around (place_by width kx d))
          end_z =
              let h = row_by i d in
              let k = column_by j d in
              let a = row_near i d in
              let b = column_near j d in
              let point : pt h k ≡ z = point_is n c i j (omega arith) (omega arith) d in
              let place : h * width + k ≡ place_by width kx d = sym (place_is width i j (omega arith) (omega arith) d) in
              let at = end_is h k (omega (arith, a.0)) (omega (arith, a.1)) (omega (arith, b.0)) (omega (arith, b.1)) (flow_in around (h * width + k))
              (inner_sunk h k (omega (arith, a.0)) (omega (arith, a.1)) (omega (arith, b.0)) (omega (arith, b.1))) (subst (λ w. IsTrue (is_ground m w)) (sym point) solid_z) in (
                λ crosses. subst (λ v. IsEnd (flow_in around v)) place (at.0 (subst (λ w. CrossesFlat (terrain m) level w 0) (sym point) crosses)),
                λ end. subst (λ w. CrossesFlat (terrain m) level w 0) point (at.1 (subst (λ v. IsEnd (flow_in around v)) (sym place) end)),
              )

          to_end : IsEndBeside levels around width kx d → LeadsToEnd (terrain m) level x d
          to_end beside = record {
            across = record { beside = local_flat.2 d; same_level = sym level_z ∙ beside.level ∙ level_x };
            end = end_z.1 beside.end;
          }

          from_end : LeadsToEnd (terrain m) level x d → IsEndBeside levels around width kx d
          from_end leads = record { level = level_z ∙ leads.across.same_level ∙ sym level_x; end = end_z.0 leads.end }

        stepped : IsStepped (terrain m)
        stepped = (mosaic_is_full m is).stepped

        flat_flow : (flow : Flow) → ((flow ≡ Flat) × ((d : Dir) → IsEndBeside levels around width kx d → ⊥)) ⊎ ((d : Dir) × ((flow ≡ Beside d) × IsFirstEndBeside levels around width kx d))
            → IsFlow (terrain m) level x flow
        flat_flow flow (inl none) = subst (IsFlow (terrain m) level x) (sym none.0) (
          lies,
          λ crosses.
              let lead = leads_by (terrain m) level x lies.inside stepped crosses in
              none.1 lead.0 (from_end lead.0 lead.1),
        )
        flat_flow flow (inr some) =
            let leads = to_end some.0 some.1.1.leads in
            subst (IsFlow (terrain m) level x) (sym some.1.0) (
              lies,
              (
                crosses_by (terrain m) level x lies.inside some.0 leads,
                first_is_direction (terrain m) level x lies.inside some.0 leads (λ e lead. some.1.1.first e (from_end e lead)),
              ),
            )

      open_flow : (flow : Flow) → IsEnded levels around width kx flow → IsFlow (terrain m) level x flow
      open_flow flow (inl other) = subst (IsFlow (terrain m) level x) (sym other.1) (not_flat other.0)
      open_flow flow (inr flat) = flat_flow flat.0 flow flat.1

    -- if each of four statements is either true or false, so is that all four are true; used for `IsClosedAt`
    both : {A B C D : Type 0} → A ⊎ (A → ⊥) → B ⊎ (B → ⊥) → C ⊎ (C → ⊥) → D ⊎ (D → ⊥) → (A × B × C × D) ⊎ ((A × B × C × D) → ⊥)
    both (inl a) (inl b) (inl c) (inl d) = inl (a, b, c, d)
    both (inr a) b c d = inr (λ h. a h.0)
    both (inl a) (inr b) c d = inr (λ h. b h.1)
    both (inl a) (inl b) (inr c) d = inr (λ h. c h.2)
    both (inl a) (inl b) (inl c) (inr d) = inr (λ h. d h.3)

    is_off : (b : Bool) → (b ≡ false) ⊎ (b ≡ false → ⊥)
    is_off b = ⊎_elim (λ on. inr (λ off. true≢false (sym on ∙ off))) (λ off. inl off) (cases_Bool b)

    is_less : (a b : ℕ) → (a < b) ⊎ (a < b → ⊥)
    is_less a b = ⊎_elim (λ lt. inl lt) (λ ge. inr (λ lt. absurd (omega arith))) (cases_lt a b)

    decide : (e : Dir) → IsClosedAt n sides e r s ⊎ (IsClosedAt n sides e r s → ⊥)
    decide North = both (is_off sides.north) (cases_eq r 0) (is_less 0 s) (is_less (s + 1) n)
    decide East = both (is_off sides.east) (cases_eq (s + 1) n) (is_less 0 r) (is_less (r + 1) n)
    decide South = both (is_off sides.south) (cases_eq (r + 1) n) (is_less 0 s) (is_less (s + 1) n)
    decide West = both (is_off sides.west) (cases_eq s 0) (is_less 0 r) (is_less (r + 1) n)
    decide _ = inr (λ h. h)

    pub sample_flow : (around old new : List Flow) → AreSunkFlows n c levels sinks around → IsEnded levels around width kx (flow_in old (r * n + s)) → IsClosing n levels sides old new
        → ((d : Dir) → IsClosedAt n sides d r s → IsClosedFlow n levels sides (r * n + s) (flow_in new (r * n + s))) → IsFlow (terrain m) level x (flow_in new (r * n + s))
    sample_flow around old new sunk ended closing told = ⊎_elim
        (λ at. closed_flow (flow_in new (r * n + s)) (told at.0 at.1.has))
        (λ none. ⊎_elim
        (λ same. subst (IsFlow (terrain m) level x) (sym same) (open_flow none around sunk (flow_in old (r * n + s)) ended))
        (λ at. closed_flow (flow_in new (r * n + s)) at)
        (closing.each (r * n + s)))
        (first_dir (λ e. IsClosedAt n sides e r s) decide)

-- each flow of the tile is right
pub tile_is_told : (m : Mosaic) → IsMosaic m → (c : Corner) (levels : List ℤ) (sides : Sides) (sinks : List Point) → IsPaddedTile m c levels sides sinks → (around old new : List Flow)
    → AreSunkFlows m.side c levels sinks around → AreEnded m.side levels around (m.side * m.side) old → IsClosing m.side levels sides old new
    → ((d : Dir) (r s : ℕ) → IsClosedAt m.side sides d r s → IsClosedFlow m.side levels sides (r * m.side + s) (flow_in new (r * m.side + s))) → AreTileFlows m c new
tile_is_told m is c levels sides sinks padded around old new sunk ended closing told level filled e small =
    let n = m.side in
    let some : 0 < n = omega (arith, is.side_low) in
    let row : e / n < n = row_below n e some small in
    let column : e % n < n = omega arith in
    let index : e / n * n + e % n ≡ e = omega arith in
    let point : padded_point n c (e / n + 2) (e % n + 2) ≡ point_of n c e = same_place (padded_point n c (e / n + 2) (e % n + 2)) (point_of n c e) (omega (arith, ints, is.side_low)) (omega (arith, ints)) in
    subst (λ q. IsFlow (terrain m) level q (flow_in new e)) point
    (subst (λ k. IsFlow (terrain m) level (padded_point n c (e / n + 2) (e % n + 2)) (flow_in new k)) index
    (sample_flow m is c levels sides sinks padded level filled (e / n) (e % n) row column around old new sunk
    (subst (λ k. IsEnded levels around (n + 4) (place_in n (e / n) (e % n)) (flow_in old k)) (sym index) (ended e small)) closing (λ d at. told d (e / n) (e % n) at)))

-- each flow of the tile is right, where n is the mosaic's side
pub tile_of_side : (m : Mosaic) → IsMosaic m → (c : Corner) (levels : List ℤ) (sides : Sides) (sinks : List Point) (n : ℕ) → m.side ≡ n → IsPaddedTile m c levels sides sinks → (around old new : List Flow)
    → AreSunkFlows n c levels sinks around → AreEnded n levels around (n * n) old → IsClosing n levels sides old new
    → ((d : Dir) (r s : ℕ) → IsClosedAt n sides d r s → IsClosedFlow n levels sides (r * n + s) (flow_in new (r * n + s))) → AreTileFlows m c new
tile_of_side m is c levels sides sinks n same padded around old new = subst
    (λ k. AreSunkFlows k c levels sinks around → AreEnded k levels around (k * k) old → IsClosing k levels sides old new
    → ((d : Dir) (r s : ℕ) → IsClosedAt k sides d r s → IsClosedFlow k levels sides (r * k + s) (flow_in new (r * k + s))) → AreTileFlows m c new)
    same (tile_is_told m is c levels sides sinks padded around old new)
