-- The heights of points before each gets its new height, one after another.
use Rattle.edits.proofs.Prelude.{All-cons, All-head, All-nil, All-tail, AreCorners, AreEarlier, List, Mosaic, NewHeight, Point, [], ap, both_ways, corners_of, false, false_from_ne_true, height_of, is_named, is_repeated, or_parts, points_of, refl, same_point, same_point_from, same_point_says, subst, sym, true, with_height, ◌∙◌, ◌∷◌, ◌≡◌, ◌≤◌}
use Rattle.std.specs.Prelude.{All, if◌then◌else◌}
use Rattle.lattice.specs.declared.height.Height.TheVariants.{At}
use Rattle.edits.proofs.EditedHeights.{edited_corners, height_stays}

abbrev HasEarlier : Mosaic → NewHeight → Type 0
HasEarlier m h = height_of m h.point ≡ At h.was

apart : (p q : Point) → same_point p q ≡ false → same_point q p ≡ false
apart p q out = false_from_ne_true (same_point q p) (λ same. both_ways (same_point p q) out (subst (λ (x : Point). same_point x q ≡ true) (same_point_says q p same) (same_point_from q q refl)))

module _ (h : NewHeight) (m : Mosaic) (side : 3 ≤ m.side) (are : AreCorners (corners_of m)) where
  one_stays : (k : NewHeight) → same_point h.point k.point ≡ false → HasEarlier m k → HasEarlier (with_height h.point h.metres m) k
  one_stays k out was = height_stays (λ q s. if same_point q h.point then h.metres else s) m k.point side are (λ s. ap (λ b. if b then h.metres else s) (apart h.point k.point out)) ∙ was

  all_stay : (hs : List NewHeight) → is_named (points_of hs) h.point ≡ false → All (HasEarlier m) hs → All (HasEarlier (with_height h.point h.metres m)) hs
  all_stay [] out was = All-nil (HasEarlier (with_height h.point h.metres m))
  all_stay (k ∷ hs) out was =
      let both = or_parts (same_point h.point k.point) (is_named (points_of hs) h.point) out in
      All-cons (HasEarlier (with_height h.point h.metres m)) k hs (one_stays k both.0 (All-head (HasEarlier m) k hs was)) (all_stay hs both.1 (All-tail (HasEarlier m) k hs was))

-- If no point is named twice, these are the heights in the mosaic.
pub are_earlier : (hs : List NewHeight) (m : Mosaic) → 3 ≤ m.side → AreCorners (corners_of m) → is_repeated (points_of hs) ≡ false → All (λ h. height_of m h.point ≡ At h.was) hs → AreEarlier hs m
are_earlier [] m side are single was = tt
are_earlier (h ∷ hs) m side are single was =
    let both = or_parts (is_named (points_of hs) h.point) (is_repeated (points_of hs)) single in
    let still : AreCorners (corners_of (with_height h.point h.metres m)) = subst AreCorners (sym (edited_corners (λ q s. if same_point q h.point then h.metres else s) m)) are in
    (All-head (HasEarlier m) h hs was, are_earlier hs (with_height h.point h.metres m) side still both.1 (all_stay h m side are hs both.0 (All-tail (HasEarlier m) h hs was)))
