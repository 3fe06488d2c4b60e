-- The levels at a point and around it, from the cached results of one tile.
use Rattle.std.proofs.Common.{◌≡◌, ◌≢◌, ℕ, ◌+◌, ◌*◌, ◌-◌, ◌<◌, ℤ, pos, Option, Some, None, IsTrue, List, length, get_or, slice_index, slice_index_or, refl, sym, subst}
use Rattle.drainage.proofs.Prelude.{Contains, Corner, Dir, Holds, IsFlooded, IsIndexOf, IsMosaic, IsRight, IsRimLevel, Known, LabelledGround, Mosaic, NO_LABEL, OUT, Point, all_around, corner_at, corners_of, get_or_default, int_max, level_ground, level_is_unique, level_of, order_of, share_tile, shared_from, step, terrain, told, void}
use Rattle.flow_d8.specs.LevelsAround.{IsNear}
use Rattle.drainage.specs.Nearby.{IsKnownLevel}
use Rattle.levels.proofs.Questions.Filled.{level_inside, level_over}
use Rattle.levels.proofs.Flows.Found.{start_is}

-- a point, by its index in a tile with a cached labelling, and its level and label there
module _ (known : Known) (p : Point) (t e : ℕ) (c : Corner) (small : t < length known.corners) (place : corner_at known.corners t ≡ c) (index : IsIndexOf known.side c p e)
    (labelled : LabelledGround) (held : (m : Mosaic) → IsRight m known → IsFlooded m c labelled) (level : ℤ) (label : ℕ) (level_is : level ≡ slice_index_or labelled.levels e void) (label_is : label ≡ slice_index labelled.labels e) where
  index_here : IsIndexOf known.side (corner_at known.corners t) p e
  index_here = subst (λ (d : Corner). IsIndexOf known.side d p e) (sym place) index

  holds : Holds known.side (corner_at known.corners t) p
  holds = record { corner = index_here.corner; sample = (index_here.sample.0, index_here.sample.1, index_here.sample.2.0) }

  flooded : (m : Mosaic) → IsRight m known → IsFlooded m (corner_at known.corners t) labelled
  flooded m right = subst (λ (d : Corner). IsFlooded m d labelled) (sym place) (held m right)

  -- the point's level if its label is OUT
  pub told_out : label ≢ NO_LABEL → label ≡ OUT → IsKnownLevel known t p (Some level)
  told_out ground out = record {
    held = holds;
    level = λ m is right. level_inside m is p known right known.corners refl t e (small, index_here) level label (labelled, (flooded m right, (level_is, label_is))) ground out;
  }

  -- the point's level if its label names a rim point whose level is known
  pub told_over : label ≢ NO_LABEL → label ≢ OUT → (start : ℕ) (v : ℤ) → start ≡ 1 + t * (4 * (known.side - 1)) + label → level_of known.levels start ≡ Some v → IsKnownLevel known t p (Some (int_max level v))
  told_over ground named start v node known_there = record {
    held = holds;
    level = λ m is right. level_over m is p known right known.corners refl t e (small, index_here) level label (labelled, (flooded m right, (level_is, label_is))) ground named v
        (subst (λ x. IsRimLevel m known.corners x v) (start_is m known t label start right node) (right.levels start v known_there));
  }

-- the levels of a point and of its eight neighbours make up `IsNear`
pub near_is : (m : Mosaic) → IsMosaic m → (known : Known) → IsRight m known → (t : ℕ) → t < length known.corners → (p : Point) (height : ℤ) (around : List (Option ℤ)) → length around ≡ 8
    → IsKnownLevel known t p (Some height) → ((d : Dir) → IsKnownLevel known t (step d p) (get_or around (order_of d) None)) → IsNear m p (record { height = height; around = around })
near_is m is known right t small p height around eight here each =
    let c = corner_at known.corners t in
    let filled_here = here.level m is right in
    let solid = level_ground m p height filled_here in
    let there : Contains (corners_of m) c = subst (λ (cs : List Corner). Contains cs c) right.ready.all
    (t, small, get_or_default known.corners t c (record { lat = pos 0; lon = pos 0 }) small) in
    let holds_here : Holds m.side c p = subst (λ n. Holds n c p) right.ready.same_side here.held in
    let share : (d : Dir) → IsTrue (share_tile m p (step d p)) = λ d. shared_from m p (step d p) c is there holds_here (subst (λ n. Holds n c (step d p)) right.ready.same_side (each d).held) in
    record {
      solid = solid;
      here = λ level filled. level_is_unique (terrain m) p (level p) height (filled p solid) filled_here;
      around_it = λ level filled. all_around (terrain m) level p around eight (λ d. told m level p is d filled solid (share d) (get_or around (order_of d) None) ((each d).level m is right));
    }
