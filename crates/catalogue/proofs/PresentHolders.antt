-- The corners of the present tiles with a point, in order.
use Rattle.catalogue.proofs.Prelude.{Adjacent, AllAfter, Bool, Contains, Corner, Holds, IsMosaic, IsTrue, List, Mosaic, Point, Rising, Tile, ℕ, [], and_from, and_parts, ap, ap₂, before_not_back, cond, corners_of, drop, false, false≢true, filter, get_or, holds, holds_is, is_before, is_first, is_listed, is_present, length, map, or_left, present_holders, refl, rising-filter, rising_from, same_corner, same_from, same_says, same_tests, subst, sym, true, ◌&&◌, ◌+◌, ◌<◌, ◌||◌, ◌↔◌, ◌∙◌, ◌∷◌, ◌≡◌}
use Rattle.std.proofs.lemmas.List.{drop_more}
use Rattle.std.proofs.Math.Bool.{and-false}
use Rattle.catalogue.proofs.Mosaics.{corner_of}
use Rattle.catalogue.proofs.Presence.{listed_from, listed_says, present-listed, corners_rise}
use Rattle.catalogue.proofs.OneTile.{corner_is}
use Rattle.catalogue.proofs.Holders.{itself, not_listed, listed_after}

listed_self : (x : Corner) (xs : List Corner) → is_listed x (x ∷ xs) ≡ true
listed_self x xs = or_left (same_corner x x) (is_listed x xs) (same_from x x refl)

listed_tail : (x c : Corner) (xs : List Corner) → same_corner x c ≡ false → is_listed c (x ∷ xs) ≡ true → is_listed c xs ≡ true
listed_tail x c xs apart listed = sym (ap (λ b. b || is_listed c xs) apart) ∙ listed

-- Rising lists with the same members are equal.
pub same_rising : (xs ys : List Corner) → Rising itself xs → Rising itself ys → ((c : Corner) → is_listed c xs ≡ is_listed c ys) → xs ≡ ys
same_rising [] [] xr yr same = refl
same_rising [] (y ∷ ys) xr yr same = absurd (false≢true (same y ∙ listed_self y ys))
same_rising (x ∷ xs) [] xr yr same = absurd (false≢true (sym (same x) ∙ listed_self x xs))
same_rising (x ∷ xs) (y ∷ ys) xr yr same =
    let heads : x ≡ y = head (same_corner x y) refl (same_corner y x) refl in
    ap₂ (λ (z : Corner) (zs : List Corner). z ∷ zs) heads (same_rising xs ys xr.1 yr.1 (λ c. tail c heads (same_corner x c) refl))
  where
    head : (b : Bool) → same_corner x y ≡ b → (d : Bool) → same_corner y x ≡ d → x ≡ y
    head true e d f = same_says x y e
    head false e true f = sym (same_says y x f)
    head false e false f =
        let y_later : IsTrue (is_before x y) = listed_after x y xs xr.0 (listed_tail x y xs e (same y ∙ listed_self y ys)) in
        let x_later : IsTrue (is_before y x) = listed_after y x ys yr.0 (listed_tail y x ys f (sym (same x) ∙ listed_self x xs)) in
        absurd (false≢true (sym (before_not_back x y y_later) ∙ x_later))

    tail : (c : Corner) → x ≡ y → (b : Bool) → same_corner x c ≡ b → is_listed c xs ≡ is_listed c ys
    tail c heads true e =
        let is : x ≡ c = same_says x c e in
        not_listed c xs (subst (λ d. AllAfter itself d xs) is xr.0) ∙ sym (not_listed c ys (subst (λ d. AllAfter itself d ys) (sym heads ∙ is) yr.0))
    tail c heads false e =
        let apart : same_corner y c ≡ false = ap (λ d. same_corner d c) (sym heads) ∙ e in
        sym (ap (λ b. b || is_listed c xs) e) ∙ same c ∙ ap (λ b. b || is_listed c ys) apart

pub listed-filter : (f : Corner → Bool) (c : Corner) (cs : List Corner) → is_listed c (filter f cs) ≡ (is_listed c cs && f c)
listed-filter f c [] = refl
listed-filter f c (d ∷ ds) = by (f d) refl (same_corner d c) refl (listed-filter f c ds)
  where
    by : (b : Bool) → f d ≡ b → (s : Bool) → same_corner d c ≡ s → is_listed c (filter f ds) ≡ (is_listed c ds && f c)
        → is_listed c (cond b (d ∷ filter f ds) (filter f ds)) ≡ ((s || is_listed c ds) && f c)
    by true fd true is rest = rw is (sym (ap f (sym (same_says d c is)) ∙ fd))
    by true fd false apart rest = rw apart rest
    by false fd true is rest =
        let not_here : f c ≡ false = ap f (sym (same_says d c is)) ∙ fd in
        rest ∙ rw not_here (and-false (is_listed c ds))
    by false fd false apart rest = rest

map-filter : (f : Corner → Bool) (tiles : List Tile) → map corner_of (filter (λ (t : Tile). f t.corner) tiles) ≡ filter f (map corner_of tiles)
map-filter f [] = refl
map-filter f (t ∷ ts) = by (f t.corner) (map-filter f ts)
  where
    by : (b : Bool) → map corner_of (filter (λ (x : Tile). f x.corner) ts) ≡ filter f (map corner_of ts)
        → map corner_of (cond b (t ∷ filter (λ (x : Tile). f x.corner) ts) (filter (λ (x : Tile). f x.corner) ts)) ≡ cond b (t.corner ∷ filter f (map corner_of ts)) (filter f (map corner_of ts))
    by true rest = ap (λ (cs : List Corner). t.corner ∷ cs) rest
    by false rest = rest

pub holders_filtered : (m : Mosaic) (p : Point) → present_holders m p ≡ filter (λ c. holds m.side c p) (corners_of m)
holders_filtered m p = map-filter (λ c. holds m.side c p) m.tiles

-- the corners whose tiles have the point and are present
pub present_holders_are : (m : Mosaic) (p : Point) (cs : List Corner) → IsMosaic m → Adjacent itself cs → ((c : Corner) → Contains cs c ↔ Holds m.side c p)
    → present_holders m p ≡ filter (λ c. is_present m c) cs
present_holders_are m p cs valid in_order exactly =
    holders_filtered m p
    ∙ same_rising (filter (λ c. holds m.side c p) (corners_of m)) (filter (λ c. is_present m c) cs)
    (rising-filter itself (λ c. holds m.side c p) (corners_of m) (corners_rise m valid))
    (rising-filter itself (λ c. is_present m c) cs (rising_from itself cs in_order))
    (λ c. listed-filter (λ d. holds m.side d p) c (corners_of m)
    ∙ same_tests (is_listed c (corners_of m) && holds m.side c p) (is_listed c cs && is_present m c)
    (λ both.
    let parts = and_parts (is_listed c (corners_of m)) (holds m.side c p) both in
    let corner = corner_is m c valid (listed_says c (corners_of m) parts.0) in
    and_from (is_listed c cs) (is_present m c) (listed_from c cs ((exactly c).1 ((holds_is m.side c p valid.side_low corner).0 parts.1))) (present-listed c m.tiles ∙ parts.0))
    (λ both.
    let parts = and_parts (is_listed c cs) (is_present m c) both in
    let held = (exactly c).0 (listed_says c cs parts.0) in
    and_from (is_listed c (corners_of m)) (holds m.side c p) (sym (present-listed c m.tiles) ∙ parts.1) ((holds_is m.side c p valid.side_low held.corner).1 held))
    ∙ sym (listed-filter (λ d. is_present m d) c cs))

-- The first corner that passes a test is searched one element further.
pub first_step : (f : Corner → Bool) (c h : Corner) (cs : List Corner) (i : ℕ) → i < length cs → h ≡ get_or cs i h
    → is_first c (filter f (drop i cs)) ≡ cond (f h) (same_corner h c) (is_first c (filter f (drop (i + 1) cs)))
first_step f c h cs i within is = ap (λ (l : List Corner). is_first c (filter f l)) (drop_more cs i h within ∙ ap (λ (x : Corner). x ∷ drop (i + 1) cs) (sym is)) ∙ by (f h)
  where
    by : (b : Bool) → is_first c (cond b (h ∷ filter f (drop (i + 1) cs)) (filter f (drop (i + 1) cs))) ≡ cond b (same_corner h c) (is_first c (filter f (drop (i + 1) cs)))
    by true = refl
    by false = refl
