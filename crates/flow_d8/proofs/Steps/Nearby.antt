-- What lies around a point of a mosaic.
use Rattle.flow_d8.proofs.Prelude.{AreFilledLevels, IsFalse, IsLevelGrid, IsTrue, List, None, Option, Some, ℤ, ap, arith, cases_Bool, cond-false, cond-true, false, get_or, height-le_level, inl, inr, length, level_is_unique, not, refl, sym, true≢false, ◌∙◌, ◌≡◌}
use Rattle.std.proofs.lemmas.List.{same_lists, get_or_default}
use Rattle.flow_d8.specs.Prelude.{Point, Dir, East, step, order_of, fits_point, Terrain, IsFilledLevel, Mosaic, IsMosaic, void, is_void, samples_at, height_of, is_ground, same_point, is_near, share_tile, is_adjacent, terrain, metres}
use Rattle.lattice.proofs.Lawful.{five_parts, five_from}
use Rattle.water.proofs.Compass.{dir_at, order_of-dir_at}
use Rattle.water.proofs.NearSteps.{step_near, step_other}
use Rattle.water.proofs.Fitting.{ground_fits}
use Rattle.flow_d8.proofs.Mosaics.FilledOf.{ground_not_void, above_void}
use Rattle.water.proofs.MosaicGrid.{mosaic_is_grid}
use Rattle.water.proofs.MosaicGrid.{level_ground}
use Rattle.flow_d8.specs.LevelsAround.{IsLevelAt, beside_of, around_of}

module _ (t : Terrain Point) (level : Point → ℤ) (p : Point) where
  pub beside_there : (d : Dir) → IsTrue (t.is_adjacent p (step d p)) → beside_of t level p d ≡ Some (level (step d p))
  beside_there d on = cond-true (t.is_adjacent p (step d p)) (Some (level (step d p))) None on

  pub beside_none : (d : Dir) → IsFalse (t.is_adjacent p (step d p)) → beside_of t level p d ≡ None
  beside_none d off = cond-false (t.is_adjacent p (step d p)) (Some (level (step d p))) None off

  -- the element of the list at a direction's position
  pub in_place : (d : Dir) → get_or (around_of t level p) (order_of d) None ≡ beside_of t level p d
  in_place East = refl
  in_place _ = refl

  -- a list of eight elements that is right in each direction is the whole list
  pub all_around : (around : List (Option ℤ)) → length around ≡ 8 → ((d : Dir) → get_or around (order_of d) None ≡ beside_of t level p d) → around ≡ around_of t level p
  all_around around eight each = same_lists around (around_of t level p) eight
      (λ k d small.
      let is = order_of-dir_at k (omega arith) in
      get_or_default around k d None small
      ∙ ap (λ i. get_or around i None) (sym is) ∙ each (dir_at k) ∙ sym (in_place (dir_at k)) ∙ ap (λ i. get_or (around_of t level p) i None) is
      ∙ get_or_default (around_of t level p) k None d (omega arith))

-- a ground neighbour is adjacent if some tile holds both points
pub one_step : (m : Mosaic) (p : Point) (d : Dir) → IsTrue (is_ground m p) → IsTrue (is_ground m (step d p)) → IsTrue (share_tile m p (step d p)) → IsTrue (is_adjacent m p (step d p))
one_step m p d here there share = five_from (is_ground m p) (is_ground m (step d p)) (not (same_point p (step d p))) (is_near p (step d p)) (share_tile m p (step d p))
    (record { first = here; second = there; third = ap not (step_other p d); fourth = step_near p d; fifth = share })

pub in_one_tile : (m : Mosaic) (p q : Point) → IsTrue (is_adjacent m p q) → IsTrue (share_tile m p q)
in_one_tile m p q beside = (five_parts (is_ground m p) (is_ground m q) (not (same_point p q)) (is_near p q) (share_tile m p q) beside).fifth

module _ (m : Mosaic) (level : Point → ℤ) (p : Point) where
  -- a neighbour isn't adjacent if it isn't ground, or if no tile holds both points
  module _ (is : IsMosaic m) (d : Dir) where
    not_beside : (IsTrue (is_ground m (step d p)) → IsTrue (share_tile m p (step d p)) → ⊥) → None ≡ beside_of (terrain m) level p d
    not_beside none = sym (beside_none (terrain m) level p d apart)
      where
        apart : IsFalse (is_adjacent m p (step d p))
        apart = elim (cases_Bool (is_adjacent m p (step d p))) [
          | inl on ↦
              let parts = five_parts (is_ground m p) (is_ground m (step d p)) (not (same_point p (step d p))) (is_near p (step d p)) (share_tile m p (step d p)) on in
              absurd (none parts.second parts.fifth)
          | inr off ↦ off
        ]

    pub beside_unfit : (IsTrue (fits_point (step d p)) → ⊥) → None ≡ beside_of (terrain m) level p d
    beside_unfit far = not_beside (λ solid share. far (ground_fits m is (step d p) solid))

    pub beside_apart : IsFalse (share_tile m p (step d p)) → None ≡ beside_of (terrain m) level p d
    beside_apart apart = not_beside (λ solid share. true≢false (sym share ∙ apart))

    pub beside_void : IsFalse (is_ground m (step d p)) → None ≡ beside_of (terrain m) level p d
    beside_void none = not_beside (λ solid share. true≢false (sym solid ∙ none))

    pub beside_found : AreFilledLevels (terrain m) level → IsTrue (is_ground m p) → IsTrue (share_tile m p (step d p)) → (v : ℤ) → IsFilledLevel (terrain m) (step d p) v → IsTrue (is_ground m (step d p))
        → Some v ≡ beside_of (terrain m) level p d
    beside_found filled here share v there solid =
        ap Some (level_is_unique (terrain m) (step d p) v (level (step d p)) there (filled (step d p) solid))
        ∙ sym (beside_there (terrain m) level p d (one_step m p d here solid share))

    pub told : AreFilledLevels (terrain m) level → IsTrue (is_ground m p) → IsTrue (share_tile m p (step d p)) → (found : Option ℤ) → IsLevelAt m (step d p) found → found ≡ beside_of (terrain m) level p d
    told filled here share None none = beside_void none
    told filled here share (Some v) there = beside_found filled here share v there (level_ground m (step d p) v there)

-- no filled level is the void
pub never_void : (m : Mosaic) → IsMosaic m → (level : Point → ℤ) → AreFilledLevels (terrain m) level → (p : Point) → IsTrue (is_ground m p) → level p ≡ void → ⊥
never_void m is level filled p solid none =
    let low = (mosaic_is_grid m is).bottom_below p solid in
    let high = height-le_level (terrain m) p (level p) (filled p solid) in
    let some : is_void (level p) ≡ false = above_void (metres (height_of m p)) (level p) (ground_not_void (samples_at m p) solid) low high in
    true≢false (sym (ap is_void none) ∙ some)

pub level_grid : (m : Mosaic) → IsMosaic m → (level : Point → ℤ) → AreFilledLevels (terrain m) level → IsLevelGrid (terrain m) level
level_grid m is level filled = let grid = mosaic_is_grid m is in record { lawful = grid.lawful; steps = grid.steps; some = never_void m is level filled }
