-- The entry of a corner, and the corner's tiles in the page map.
use Rattle.std.proofs.Common.{◌≡◌, zero, suc, true, false, cond, List, [], ◌∷◌, ◌++◌, refl, sym, ap, ap₂, subst, ◌∙◌, arith, ◌↔◌, Bor, MutBor}
use Rattle.page_map.proofs.Prelude.{AreTogether, Contains, Corner, Entry, Equal, Format, Greater, HasPlane, HasPlaneAt, Heights, IfNone, IfSome, IsLocated, IsSome, IsSound, Labels, Less, Levels, MatchOrdering, None, Option, Ordering, Plane, PlaneLocation, Rising, Some, TileEntry, TileLocation, after_not_same, before_not_same, cons_option, corner_cmp, false≢true, is_before, is_eq, named_plane, option_and_then, option_copied_mut, plane_of, planes_at, ranked_corners, same_Some, same_corner, same_from, staged_plane, staged_tile, staged_tiles, tile_of, with_planes}
use Rattle.std.proofs.lemmas.List.Elements.{Contains-append_right, filter_map-append}
use Rattle.page_map.proofs.EntryLists.{corner_of, rising_after, rising_before, staged_all}
use Rattle.page_map.proofs.EntryChanges.{AllOther, other_before, other_after, staged_corner, staged_split}

-- ---- the map's value for a corner
-- The corner's entry has these planes, and other planes for the corner replace them.
pub record IsThere (c : Corner) (s : TileEntry) (entries : List Entry) (put : TileEntry → List Entry) : Type 0 where
  pub before : List Entry
  pub after : List Entry
  pub split : entries ≡ before ++ (c, s) ∷ after
  pub puts : (w : TileEntry) → put w ≡ before ++ (c, w) ∷ after

pub there : (c : Corner) (entries : List Entry) (s : TileEntry) → planes_at c entries ≡ Some s → IsThere c s entries (λ w. with_planes c w entries)
there c [] s found = cc
there c (e ∷ rest) s found = by (corner_cmp c e.0) (ranked_corners c e.0) found (there c rest s)
  where
    further : IsThere c s rest (λ w. with_planes c w rest) → IsThere c s (e ∷ rest) (λ w. e ∷ with_planes c w rest)
    further later = record { before = e ∷ later.before; after = later.after; split = ap (λ l. e ∷ l) later.split; puts = λ w. ap (λ l. e ∷ l) (later.puts w) }

    by : (o : Ordering) → MatchOrdering o (is_before c e.0 ≡ true) (c ≡ e.0) (is_before e.0 c ≡ true) → cond (is_eq o) (Some e.1) (planes_at c rest) ≡ Some s → (planes_at c rest ≡ Some s → IsThere c s rest (λ w. with_planes c w rest))
        → IsThere c s (e ∷ rest) (λ w. cond (is_eq o) ((e.0, w) ∷ rest) (e ∷ with_planes c w rest))
    by Less is found later = further (later found)
    by Equal is found later = record { before = []; after = rest; split = ap₂ (λ (d : Corner) (x : TileEntry). (d, x) ∷ rest) (sym is) (same_Some e.1 s found); puts = λ w. ap (λ (d : Corner). (d, w) ∷ rest) (sym is) }
    by Greater is found later = further (later found)

-- a corner without an entry
pub none_apart : (c : Corner) (e : Entry) (rest : List Entry) → planes_at c (e ∷ rest) ≡ None → (same_corner e.0 c ≡ false) × (planes_at c rest ≡ None)
none_apart c e rest none = by (corner_cmp c e.0) (ranked_corners c e.0) none
  where
    by : (o : Ordering) → MatchOrdering o (is_before c e.0 ≡ true) (c ≡ e.0) (is_before e.0 c ≡ true) → cond (is_eq o) (Some e.1) (planes_at c rest) ≡ None → (same_corner e.0 c ≡ false) × (planes_at c rest ≡ None)
    by Less is none = (after_not_same c e.0 is, none)
    by Equal is none = cc
    by Greater is none = (before_not_same e.0 c is, none)

-- ---- tiles of other corners
pub not_located : (c : Corner) (tiles : List TileLocation) → AllOther c tiles → IsLocated c tiles → ⊥
not_located c [] other (k, below, here) = absurd (omega arith)
not_located c (t ∷ rest) other (zero, below, here) = false≢true (sym other.0 ∙ same_from t.corner c here)
not_located c (t ∷ rest) other (suc k, below, here) = not_located c rest other.1 (k, omega arith, here)

other-append : (c : Corner) (xs ys : List TileLocation) → AllOther c xs → AllOther c ys → AllOther c (xs ++ ys)
other-append c [] ys first second = second
other-append c (x ∷ xs) ys first second = (first.0, other-append c xs ys first.1 second)

pub located-from_tile : (c : Corner) (tiles : List TileLocation) (t : TileLocation) → Contains tiles t → t.corner ≡ c → IsLocated c tiles
located-from_tile c [] t (k, below, here) same = absurd (omega arith)
located-from_tile c (x ∷ rest) t (zero, below, here) same = (0, omega arith, ap (λ (u : TileLocation). u.corner) here ∙ same)
located-from_tile c (x ∷ rest) t (suc k, below, here) same = let later = located-from_tile c rest t (k, omega arith, here) same in (suc later.0, omega arith, later.2)

pub tile_at_corner : (c : Corner) (tiles : List TileLocation) → IsLocated c tiles → HasPlane tiles c Heights
tile_at_corner c [] (k, below, here) = absurd (omega arith)
tile_at_corner c (t ∷ rest) (zero, below, here) = (t.heights, (t, ((0, omega arith, refl), (here, refl))))
tile_at_corner c (t ∷ rest) (suc k, below, here) = let (location, (u, ((j, within, is), found))) = tile_at_corner c rest (k, omega arith, here) in (location, (u, ((suc j, omega arith, is), found)))

module _ (before : List Entry) (s : Entry) (after : List Entry) (rising : Rising corner_of (before ++ s ∷ after)) where
  others : AllOther s.0 (staged_tiles before) × AllOther s.0 (staged_tiles after)
  others = (other_before s.0 before (rising_before corner_of before s after rising), other_after s.0 after (rising_after before s after rising))

  pub located_here : IsLocated s.0 (staged_tiles (before ++ s ∷ after)) → IsSome (staged_tile s)
  located_here located = by (staged_tile s) (subst (λ (l : List TileLocation). IsLocated s.0 l) (filter_map-append staged_tile before (s ∷ after)) located)
    where
      by : (o : Option TileLocation) → IsLocated s.0 (staged_tiles before ++ cons_option o (staged_tiles after)) → IsSome o
      by None located = absurd (not_located s.0 (staged_tiles before ++ staged_tiles after) (other-append s.0 (staged_tiles before) (staged_tiles after) others.0 others.1) located)
      by (Some t) located = refl

  pub tile_here : (t : TileLocation) → staged_tile s ≡ Some t → Contains (staged_tiles (before ++ s ∷ after)) t
  tile_here t had = subst (λ (l : List TileLocation). Contains l t) (sym (staged_split before s after rising t had)) (Contains-append_right (staged_tiles before) (t ∷ staged_tiles after) t (0, omega arith, refl))

  pub located_there : (t : TileLocation) → staged_tile s ≡ Some t → IsLocated s.0 (staged_tiles (before ++ s ∷ after))
  located_there t had = located-from_tile s.0 (staged_tiles (before ++ s ∷ after)) t (tile_here t had) (staged_corner before s after rising t had)

  -- The staged tile of the corner is the entry's.
  pub tile_is : (t : TileLocation) → Contains (staged_tiles (before ++ s ∷ after)) t → t.corner ≡ s.0 → staged_tile s ≡ Some t
  tile_is t there same = by (staged_tile s) refl (subst (λ (l : List TileLocation). Contains l t) (filter_map-append staged_tile before (s ∷ after)) there)
    where
      not_among : (tiles : List TileLocation) → AllOther s.0 tiles → Contains tiles t → ⊥
      not_among tiles other among = not_located s.0 tiles other (located-from_tile s.0 tiles t among same)

      pick : (xs : List TileLocation) (u : TileLocation) (ys : List TileLocation) → AllOther s.0 xs → AllOther s.0 ys → Contains (xs ++ u ∷ ys) t → u ≡ t
      pick [] u ys first second (zero, below, here) = here
      pick [] u ys first second (suc k, below, here) = absurd (not_among ys second (k, omega arith, here))
      pick (x ∷ xs) u ys first second (zero, below, here) = absurd (false≢true (sym first.0 ∙ same_from x.corner s.0 (ap (λ (v : TileLocation). v.corner) here ∙ same)))
      pick (x ∷ xs) u ys first second (suc k, below, here) = pick xs u ys first.1 second (k, omega arith, here)

      by : (o : Option TileLocation) → staged_tile s ≡ o → Contains (staged_tiles before ++ cons_option o (staged_tiles after)) t → o ≡ Some t
      by None is among = absurd (not_among (staged_tiles before ++ staged_tiles after) (other-append s.0 (staged_tiles before) (staged_tiles after) others.0 others.1) among)
      by (Some u) is among = ap Some (pick (staged_tiles before) u (staged_tiles after) others.0 others.1 among)

-- ---- no entry
pub no_entry : (c : Corner) (entries : List Entry) → planes_at c entries ≡ None → IsLocated c (staged_tiles entries) → ⊥
no_entry c entries none = not_located c (staged_tiles entries) (staged_all (λ d. same_corner d c ≡ false) (λ (l : List Entry). planes_at c l ≡ None) (none_apart c) entries none)

-- the mutable entry of a corner with a staged tile
pub some_entry : (c : Corner) (entries : List Entry) (r : Option (MutBor TileEntry)) → option_copied_mut r ≡ planes_at c entries → IsLocated c (staged_tiles entries) → IsSome r
some_entry c entries None is located = absurd (no_entry c entries (sym is) located)
some_entry c entries (Some s) is located = refl

-- ---- the location of a plane
-- A plane of an entry is a plane of its staged tile.
heights_in : (c : Corner) (h l m : Option PlaneLocation) → option_and_then (plane_of Heights) (tile_of c h l m) ≡ h
heights_in c None l m = refl
heights_in c (Some h) l m = refl

kept_in : (c : Corner) (h l m : Option PlaneLocation) → AreTogether h l m → (option_and_then (plane_of Levels) (tile_of c h l m) ≡ l) × (option_and_then (plane_of Labels) (tile_of c h l m) ≡ m)
kept_in c None None None together = (refl, refl)
kept_in c None None (Some m) together = absurd together
kept_in c None (Some l) None together = absurd together
kept_in c None (Some l) (Some m) together = absurd together
kept_in c (Some h) None None together = (refl, refl)
kept_in c (Some h) None (Some m) together = absurd together
kept_in c (Some h) (Some l) None together = absurd together
kept_in c (Some h) (Some l) (Some m) together = (refl, refl)

pub plane_staged : (format : Format) (plane : Plane) (s : Entry) → IsSound format s → option_and_then (plane_of plane) (staged_tile s) ≡ staged_plane (named_plane plane s.1)
plane_staged format Heights s sound = heights_in s.0 (staged_plane s.1.heights) (staged_plane s.1.levels) (staged_plane s.1.labels)
plane_staged format Levels s sound = (kept_in s.0 (staged_plane s.1.heights) (staged_plane s.1.levels) (staged_plane s.1.labels) sound.staged).0
plane_staged format Labels s sound = (kept_in s.0 (staged_plane s.1.heights) (staged_plane s.1.levels) (staged_plane s.1.labels) sound.staged).1

-- A plane is found if the corner has it; heights are found if the corner has a tile.
pub held_plane : (c : Corner) (plane : Plane) (tiles : List TileLocation) (r : Option (Bor PlaneLocation)) → IfSome r (λ location. HasPlaneAt tiles c plane location.now) → IfNone r (¬ HasPlane tiles c plane) → IsSome r ↔ HasPlane tiles c plane
held_plane c plane tiles None found none = ((λ some. absurd (false≢true some)), (λ held. absurd (none held)))
held_plane c plane tiles (Some location) found none = ((λ some. (location.now, found)), (λ held. refl))

pub located_plane : (c : Corner) (tiles : List TileLocation) (r : Option (Bor PlaneLocation)) → IfSome r (λ location. HasPlaneAt tiles c Heights location.now) → IfNone r (¬ HasPlane tiles c Heights) → IsSome r ↔ IsLocated c tiles
located_plane c tiles r found none =
    let held = held_plane c Heights tiles r found none in
    ((λ some. let (location, (t, (there, (at_corner, lies_at)))) = held.0 some in located-from_tile c tiles t there at_corner), (λ located. held.1 (tile_at_corner c tiles located)))
