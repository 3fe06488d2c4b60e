-- What the filled levels of a mosaic show about its ground.
use Rattle.flow_d8.proofs.Prelude.{All, AreLevels, Bool, Filled, IsFalse, IsFilledOf, IsTrue, List, ℕ, ℤ, [], ap, ap₂, arith, cases_Bool, false, height-le_level, held, if◌then◌else◌, inl, inr, ints, is_held, is_holder, list_any, map, not, point_of_index, refl, slice_index_or, subst, suc, sym, true, true≢false, ◌&&◌, ◌*◌, ◌+◌, ◌||◌, ◌∙◌, ◌∷◌, ◌≡◌, ◌≤ℤ◌}
use Rattle.flow_d8.specs.Prelude.{Point, At, Corner, is_corner, holds, index_of, point_of, IsFilledLevel, Mosaic, Tile, IsMosaic, IsTile, void, is_void, samples_at, first_height, by_seam_rule, height_of, is_ground, is_height, metres, terrain}
use Rattle.lattice.proofs.BoolTests.{same_tests}
use Rattle.flow_d8.specs.Surface.{level_at, has_level}
use Rattle.flow_d8.proofs.Samples.Numbers.{seat_of, holder_holds, index_small}
use Rattle.flow_d8.proofs.Steps.Surfaces.{level_held, at_level}
use Rattle.water.proofs.MosaicGrid.{mosaic_is_grid}

-- a height differs from the void
some_sample : (s : ℤ) (later : List ℤ) (b : Bool) → is_void s ≡ b → (IsTrue (is_height (first_height later)) → is_void (metres (first_height later)) ≡ false)
    → IsTrue (is_height (if b then first_height later else At s)) → is_void (metres (if b then first_height later else At s)) ≡ false
some_sample s later true e rest h = rest h
some_sample s later false e rest h = e

not_void : (samples : List ℤ) → IsTrue (is_height (first_height samples)) → is_void (metres (first_height samples)) ≡ false
not_void [] h = absurd (true≢false (sym h))
not_void (s ∷ later) h = some_sample s later (is_void s) refl (not_void later) h

pub ground_not_void : (samples : List ℤ) → IsTrue (is_height (by_seam_rule samples)) → is_void (metres (by_seam_rule samples)) ≡ false
ground_not_void [] h = absurd (true≢false (sym h))
ground_not_void (s ∷ later) h = not_void (s ∷ later) h

pub above_void : (height level : ℤ) → is_void height ≡ false → void ≤ℤ height → height ≤ℤ level → is_void level ≡ false
above_void height level some low le = grind (arith, ints)

-- a test of corners gives the same result over the list of corners and over the tiles
pub any_corner : (P Q : Corner → Bool) (n : ℕ) (tiles : List Tile) → All (IsTile n) tiles → ((c : Corner) → IsTrue (is_corner c) → P c ≡ Q c)
    → list_any P (map (λ (t : Tile). t.corner) tiles) ≡ list_any (λ t. Q t.corner) tiles
any_corner P Q n [] whole same = refl
any_corner P Q n (t ∷ rest) whole same = ap₂ ◌||◌ (same t.corner (whole 0 t (omega arith)).corner) (any_corner P Q n rest (λ k d lt. whole (suc k) d (omega arith)) same)

module _ (m : Mosaic) (f : Filled) (is : IsMosaic m) (whole : AreLevels f) (of : IsFilledOf m f) where
  held_same : (p : Point) → is_held f.side f.corners p ≡ list_any (λ t. holds m.side t.corner p) m.tiles
  held_same p = ap₂ (λ n cs. is_held n cs p) of.side of.corners
      ∙ any_corner (λ c. is_holder m.side c p) (λ c. holds m.side c p) m.side m.tiles is.tiles (λ c corner. ap (λ b. b && holds m.side c p) corner)

  -- the level of a point that some tile holds
  record Said (p : Point) : Type 0 where
    on_ground : IsTrue (is_ground m p) → IsFilledLevel (terrain m) p (level_at f p)
    elsewhere : IsFalse (is_ground m p) → level_at f p ≡ void

  at_held : (p : Point) → IsTrue (is_held f.side f.corners p) → Said p
  at_held p in_tile =
      let seat = seat_of f.side f.corners p in_tile in
      let e = index_of f.side seat.corner p in
      let small = index_small f.side seat.corner p whole.side_low seat.held in
      let point : point_of f.side seat.corner e ≡ p = point_of_index f.side seat.corner p (holder_holds f.side seat.corner p whole.side_low seat.held) in
      let level : slice_index_or f.levels (seat.number * (f.side * f.side) + e) void ≡ level_at f p = ap (λ g. slice_index_or f.levels g void) (sym seat.numbered) ∙ at_level f p in
      record {
        on_ground = λ solid.
            let there = of.on_ground seat.number e seat.corner seat.listed small (subst (λ q. IsTrue (is_ground m q)) (sym point) solid) in
            subst (λ v. IsFilledLevel (terrain m) p v) level (subst (λ q. IsFilledLevel (terrain m) q (slice_index_or f.levels (seat.number * (f.side * f.side) + e) void)) point there);
        elsewhere = λ none. sym level ∙ of.elsewhere seat.number e seat.corner seat.listed small (subst (λ q. IsFalse (is_ground m q)) (sym point) none);
      }

  pub ground_held : (p : Point) → IsTrue (is_ground m p) → IsTrue (is_held f.side f.corners p)
  ground_held p solid = held_same p ∙ held m.side p m.tiles solid

  pub filled_at : (p : Point) → IsTrue (is_ground m p) → IsFilledLevel (terrain m) p (level_at f p)
  filled_at p solid = (at_held p (ground_held p solid)).on_ground solid

  pub ground_level : (p : Point) → IsTrue (is_ground m p) → IsTrue (has_level f p)
  unfolding has_level
  ground_level p solid =
      let low = (mosaic_is_grid m is).bottom_below p solid in
      let high = height-le_level (terrain m) p (level_at f p) (filled_at p solid) in
      ap not (above_void (metres (height_of m p)) (level_at f p) (ground_not_void (samples_at m p) solid) low high)

  level_void : (p : Point) → level_at f p ≡ void → has_level f p ≡ false
  unfolding has_level
  level_void p none = ap (λ v. not (is_void v)) none

  pub level_ground : (p : Point) → IsTrue (has_level f p) → IsTrue (is_ground m p)
  level_ground p level = elim (cases_Bool (is_ground m p)) [
    | inl solid ↦ solid
    | inr none ↦ absurd (true≢false (sym level ∙ level_void p ((at_held p (level_held f whole p level)).elsewhere none)))
  ]

  pub ground_same : (p : Point) → has_level f p ≡ is_ground m p
  ground_same p = same_tests (has_level f p) (is_ground m p) (level_ground p) (ground_level p)
