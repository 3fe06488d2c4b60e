-- Tiles in the order of their corners: a corner has one tile.
use Rattle.cow_tree.proofs.Prelude.{All, All-cons, All-head, All-nil, All-tail, Bool, Contains, Corner, IsLocated, IsTrue, List, TileLocation, [], ap, arith, cond, corners_of_locations, false, is_at, is_before, length, map, refl, same_corner, subst, suc, sym, true, zero, ◌||◌, ◌∙◌, ◌∷◌, ◌≡◌}
use Rattle.std.specs.List.{AllAdjacentBelow, filter, list_any}
use Rattle.lattice.specs.Lattice.{IsBefore}
use Rattle.lattice.proofs.CornerOrder.{before_apart}
use Rattle.catalogue.proofs.Presence.{listed_from}
use Rattle.lattice.proofs.Rising.{AllAfter, Rising, rising_from, adjacent_from}
use Rattle.page_map.proofs.EntryLists.{rising_map}

abbrev pub corner_of : TileLocation → Corner
corner_of t = t.corner

after_says : (c : Corner) (tiles : List TileLocation) (t : TileLocation) → AllAfter corner_of c tiles → Contains tiles t → IsTrue (is_before c t.corner)
after_says c [] t after (k, lt, here) = absurd (omega (arith, lt))
after_says c (u ∷ rest) t after (zero, lt, here) = subst (λ (v : TileLocation). IsTrue (is_before c v.corner)) here after.0
after_says c (u ∷ rest) t after (suc k, lt, here) = after_says c rest t after.1 (k, omega arith, here)

rising_one : (tiles : List TileLocation) (t u : TileLocation) → Rising corner_of tiles → Contains tiles t → Contains tiles u → t.corner ≡ u.corner → t ≡ u
rising_one [] t u rising (k, lt, here) there same = absurd (omega (arith, lt))
rising_one (v ∷ rest) t u rising (zero, lt, here) (zero, lt_2, there) same = sym here ∙ there
rising_one (v ∷ rest) t u rising (zero, lt, here) (suc j, lt_2, there) same =
    absurd (before_apart v.corner u.corner (after_says v.corner rest u rising.0 (j, omega arith, there)) (ap corner_of here ∙ same))
rising_one (v ∷ rest) t u rising (suc k, lt, here) (zero, lt_2, there) same =
    absurd (before_apart v.corner t.corner (after_says v.corner rest t rising.0 (k, omega arith, here)) (ap corner_of there ∙ sym same))
rising_one (v ∷ rest) t u rising (suc k, lt, here) (suc j, lt_2, there) same = rising_one rest t u rising.1 (k, omega arith, here) (j, omega arith, there) same

pub one_at_corner : (tiles : List TileLocation) (t u : TileLocation) → AllAdjacentBelow (λ a b. IsBefore a.corner b.corner) tiles (length tiles) → Contains tiles t → Contains tiles u → t.corner ≡ u.corner → t ≡ u
one_at_corner tiles t u in_order has_t has_u same = rising_one tiles t u (rising_from corner_of tiles in_order) has_t has_u same

-- A test finds whether the corner's tile is in the list.
pub located_test : (c : Corner) (tiles : List TileLocation) → list_any (is_at c) tiles ≡ list_any (λ d. same_corner d c) (corners_of_locations tiles)
located_test c [] = refl
located_test c (t ∷ rest) = ap (λ (b : Bool). same_corner t.corner c || b) (located_test c rest)

pub located_is : (c : Corner) (tiles : List TileLocation) → IsLocated c tiles → list_any (is_at c) tiles ≡ true
located_is c tiles located = located_test c tiles ∙ listed_from c (corners_of_locations tiles) located

-- A property of all filtered elements holds for each element that passes the test.
pub unfiltered : {X : Type 0} (test : X → Bool) (P : X → Type 0) (xs : List X) → All P (filter test xs) → All (λ x. test x ≡ true → P x) xs
unfiltered test P [] all = All-nil (λ x. test x ≡ true → P x)
unfiltered test P (x ∷ xs) all =
    elim (test x) as (λ (v : Bool). test x ≡ v → All P (cond v (x ∷ filter test xs) (filter test xs)) → All (λ x. test x ≡ true → P x) (x ∷ xs)) [
      | true ↦ λ here all. All-cons (λ x. test x ≡ true → P x) x xs (λ _. All-head P x (filter test xs) all) (unfiltered test P xs (All-tail P x (filter test xs) all))
      | false ↦ λ other all. All-cons (λ x. test x ≡ true → P x) x xs (λ yes. absurd (let no : true ≡ false = sym yes ∙ other in cc)) (unfiltered test P xs all)
    ] refl all

-- A map that keeps the corners keeps the order.
pub adjacent_map : {X Y : Type 0} (f : X → Y) (key : Y → Corner) (xs : List X) → AllAdjacentBelow (λ a b. IsBefore (key (f a)) (key (f b))) xs (length xs) → AllAdjacentBelow (λ a b. IsBefore (key a) (key b)) (map f xs) (length (map f xs))
adjacent_map f key xs in_order = adjacent_from key (map f xs) (rising_map f key xs (rising_from (λ x. key (f x)) xs in_order))

pub corners_adjacent : (tiles : List TileLocation) → AllAdjacentBelow (λ a b. IsBefore a.corner b.corner) tiles (length tiles) → AllAdjacentBelow IsBefore (corners_of_locations tiles) (length (corners_of_locations tiles))
corners_adjacent = adjacent_map corner_of (λ d. d)
