-- The heights of a tile's points, and what is adjacent to them, depend only on the tile and its neighbours.
use Rattle.std.proofs.Common.{rules}
use Rattle.std.proofs.Common.{◌≡◌, ℕ, zero, suc, ◌+◌, ◌-◌, ◌*◌, ◌<◌, ◌≤◌, ◌⊎◌, inl, inr, ℤ, pos, ◌+ℤ◌, ◌-ℤ◌, ◌*ℤ◌, nat_abs, Bool, true, false, cond, not, ◌&&◌, ◌||◌, IsTrue, List, [], ◌∷◌, map, Option, Some, None, refl, sym, ◌∙◌, ap, ap₂, subst, arith}
use Rattle.catalogue.proofs.Prelude.{AllAfter, Corner, Dir, Height, IsMosaic, Mosaic, Point, Rising, Tile, after_from, after_later, by_lt_z, by_seam_rule, count_by, directions, filter, height_of, holds_is, ints, is_before, is_corner, list_any, nat_lt, point_of_held, rising-filter, same_corner, same_from, same_says, sample_at, samples_among, samples_of, step}
use Rattle.std.proofs.Math.Path.{fun_ext}
use Rattle.std.proofs.lemmas.Bool.{and_parts, ltb-true}
use Rattle.lattice.specs.Block.{Block, AreHeightsOf, IsBlockOf}
use Rattle.lattice.specs.Ground.{is_height, metres, is_ground, same_point, is_near, share_tile, is_adjacent, degree_of, is_sink, is_outlet}
use Rattle.lattice.specs.Lattice.{is_along, holds, point_of}
use Rattle.lattice.proofs.Along.{steps}
use Rattle.catalogue.specs.Locality.{SameNearby, SameSinksIn}
use Rattle.catalogue.proofs.Holders.{none_after}
use Rattle.catalogue.proofs.Mosaics.{corner_of, rising_tiles}
use Rattle.lattice.proofs.Multiples.{product_plus}
use Rattle.lattice.proofs.BoolTests.{fourth_fails}

-- ---- tiles with points at most one row and one column apart are at most a degree apart
few_steps : (m d : ℕ) → 2 ≤ m → d * m ≤ m + 1 → d < 2
few_steps m zero side small = omega arith
few_steps m (suc zero) side small = omega arith
few_steps m (suc (suc d)) side small = absurd (omega arith)

apart : (m : ℕ) (x y v w : ℤ) (d i j : ℕ) → x ≡ y +ℤ pos d → v ≡ x *ℤ pos m +ℤ pos i → w ≡ y *ℤ pos m +ℤ pos j → j ≤ m → nat_abs (v -ℤ w) < 2 → d * m ≤ m + 1
apart m x y v w d i j is at_x at_y within beside =
    let product : (x *ℤ pos m) ≡ y *ℤ pos m +ℤ pos (d * m) = ap (λ z. z *ℤ pos m) is ∙ product_plus y d m in
    omega (arith, ints)

gap : (x y : ℤ) → (d : ℕ) × ((nat_abs (x -ℤ y) ≡ d) × ((x ≡ y +ℤ pos d) ⊎ (y ≡ x +ℤ pos d)))
gap x y = (nat_abs (x -ℤ y), (refl, by_lt_z x y (λ less. inr (grind (arith, ints))) (λ not_less. inl (grind (arith, ints)))))

along_near : (m : ℕ) (x y v w : ℤ) → 2 ≤ m → IsTrue (is_along (pos m) x v) → IsTrue (is_along (pos m) y w) → nat_abs (v -ℤ w) < 2 → nat_abs (x -ℤ y) < 2
along_near m x y v w side at_x at_y beside =
    let from_x = steps m x v at_x in
    let from_y = steps m y w at_y in
    let between = gap x y in
    let back : nat_abs (w -ℤ v) < 2 = omega (arith, ints) in
    let small : between.0 < 2 = elim between.1.1 [
      | inl above ↦ few_steps m between.0 side (apart m x y v w between.0 from_x.0 from_y.0 above from_x.1.1 from_y.1.1 from_y.1.0 beside)
      | inr below ↦ few_steps m between.0 side (apart m y x w v between.0 from_y.0 from_x.0 below from_y.1.1 from_x.1.1 from_x.1.0 back)
    ] in
    subst (λ k. k < 2) (sym between.1.0) small

-- The corners are at most one degree of latitude and one of longitude apart.
abbrev pub AreNear : Corner → Corner → Type 0
AreNear a b = (nat_abs (a.lat -ℤ b.lat) < 2) × (nat_abs (a.lon -ℤ b.lon) < 2)

beside_near : (n : ℕ) (a b : Corner) (p q : Point) → 3 ≤ n → holds n a p ≡ true → holds n b q ≡ true → nat_abs (p.y -ℤ q.y) < 2 → nat_abs (p.x -ℤ q.x) < 2 → AreNear a b
beside_near n a b p q side at_a at_b row column =
    let in_a = and_parts (is_along (pos (n - 1)) a.lat p.y) (is_along (pos (n - 1)) a.lon p.x) at_a in
    let in_b = and_parts (is_along (pos (n - 1)) b.lat q.y) (is_along (pos (n - 1)) b.lon q.x) at_b in (
      along_near (n - 1) a.lat b.lat p.y q.y (omega arith) in_a.0 in_b.0 row,
      along_near (n - 1) a.lon b.lon p.x q.x (omega arith) in_a.1 in_b.1 column,
    )

pub holders_near : (n : ℕ) (a b : Corner) (p : Point) → 3 ≤ n → holds n a p ≡ true → holds n b p ≡ true → AreNear a b
holders_near n a b p side at_a at_b = beside_near n a b p p side at_a at_b (omega (arith, ints)) (omega (arith, ints))

-- ---- rising lists of tiles with the same samples at each corner
first_among : (t : Tile) (ts : List Tile) → samples_among (t ∷ ts) t.corner ≡ Some t.samples
first_among t ts = rw (same_from t.corner t.corner refl) refl

missing_earlier : (x y : Tile) (xs ys : List Tile) → Rising corner_of (y ∷ ys) → is_before x.corner y.corner ≡ true → samples_among (x ∷ xs) x.corner ≡ samples_among (y ∷ ys) x.corner → ⊥
missing_earlier x y xs ys rising before same =
    let nothing : samples_among (y ∷ ys) x.corner ≡ None = none_after x.corner (y ∷ ys) (before, after_later corner_of x.corner y.corner ys before rising.0) in
    let something = first_among x xs in
    absurd (cc)

same_tiles : (xs ys : List Tile) → Rising corner_of xs → Rising corner_of ys → ((d : Corner) → samples_among xs d ≡ samples_among ys d) → xs ≡ ys
same_tiles [] [] xr yr same = refl
same_tiles [] (y ∷ ys) xr yr same = let here = same y.corner in let something = first_among y ys in absurd (cc)
same_tiles (x ∷ xs) [] xr yr same = let here = same x.corner in let something = first_among x xs in absurd (cc)
same_tiles (x ∷ xs) (y ∷ ys) xr yr same = by (same_corner x.corner y.corner) refl (is_before x.corner y.corner) refl (same_tiles xs ys xr.1 yr.1)
  where
    tail : x.corner ≡ y.corner → (d : Corner) (b : Bool) → same_corner x.corner d ≡ b → samples_among xs d ≡ samples_among ys d
    tail corners d true here =
        let is : x.corner ≡ d = same_says x.corner d here in
        none_after d xs (subst (λ (e : Corner). AllAfter corner_of e xs) is xr.0) ∙ sym (none_after d ys (subst (λ (e : Corner). AllAfter corner_of e ys) (sym corners ∙ is) yr.0))
    tail corners d false other =
        let other_too : same_corner y.corner d ≡ false = ap (λ (e : Corner). same_corner e d) (sym corners) ∙ other in
        sym (ap (λ b. cond b (Some x.samples) (samples_among xs d)) other) ∙ same d ∙ ap (λ b. cond b (Some y.samples) (samples_among ys d)) other_too

    heads : x.corner ≡ y.corner → x ≡ y
    heads corners = search rules

    by : (b : Bool) → same_corner x.corner y.corner ≡ b → (a : Bool) → is_before x.corner y.corner ≡ a → (((d : Corner) → samples_among xs d ≡ samples_among ys d) → xs ≡ ys) → x ∷ xs ≡ y ∷ ys
    by true here a _ rest =
        let corners = same_says x.corner y.corner here in
        ap₂ (λ (t : Tile) (ts : List Tile). t ∷ ts) (heads corners) (rest (λ d. tail corners d (same_corner x.corner d) refl))
    by false other true before rest = absurd (missing_earlier x y xs ys yr before (same x.corner))
    by false other false not_before rest = absurd (missing_earlier y x ys xs xr (after_from x.corner y.corner not_before other) (sym (same y.corner)))

among_filter : (test : Corner → Bool) (tiles : List Tile) (d : Corner) → samples_among (filter (λ t. test t.corner) tiles) d ≡ cond (test d) (samples_among tiles d) None
among_filter test [] d = elim (test d) as (λ b. ◌≡◌ {A = Option (List ℤ)} None (cond b None None)) [ true ↦ refl | false ↦ refl ]
among_filter test (t ∷ ts) d = by (test t.corner) refl (same_corner t.corner d) refl (among_filter test ts d)
  where
    by : (a : Bool) → test t.corner ≡ a → (b : Bool) → same_corner t.corner d ≡ b
        → samples_among (filter (λ u. test u.corner) ts) d ≡ cond (test d) (samples_among ts d) None
        → samples_among (cond a (t ∷ filter (λ u. test u.corner) ts) (filter (λ u. test u.corner) ts)) d ≡ cond (test d) (cond b (Some t.samples) (samples_among ts d)) None
    by true passes true here rest =
        let passes_here : test d ≡ true = ap test (sym (same_says t.corner d here)) ∙ passes in
        rw (here, passes_here) refl
    by true passes false other rest = rw other rest
    by false fails true here rest =
        let fails_here : test d ≡ false = ap test (sym (same_says t.corner d here)) ∙ fails in
        rest ∙ rw fails_here refl
    by false fails false other rest = rest

any_of_both : (f g : Tile → Bool) (tiles : List Tile) → list_any (λ t. f t && g t) tiles ≡ list_any g (filter f tiles)
any_of_both f g [] = refl
any_of_both f g (t ∷ ts) = elim (f t) as (λ b. ((b && g t) || list_any (λ u. f u && g u) ts) ≡ list_any g (cond b (t ∷ filter f ts) (filter f ts))) [
  | true ↦ ap (λ b. g t || b) (any_of_both f g ts)
  | false ↦ any_of_both f g ts
]

-- ---- two mosaics with the same tiles near the corner
module _ (m new : Mosaic) (m_valid : IsMosaic m) (new_valid : IsMosaic new) (same_side : new.side ≡ m.side) (c : Corner) (same : SameNearby m new c) where
  -- the case of a point that only tiles near the corner have
  module _ (p : Point) (near : (d : Corner) → holds m.side d p ≡ true → AreNear d c) where
    same_at : (d : Corner) (b : Bool) → holds m.side d p ≡ b → cond b (samples_of new d) None ≡ cond b (samples_of m d) None
    same_at d true there = same d (near d there).0 (near d there).1
    same_at d false out = refl

    same_holders : filter (λ t. holds m.side t.corner p) new.tiles ≡ filter (λ t. holds m.side t.corner p) m.tiles
    same_holders =
        let test : Corner → Bool = λ d. holds m.side d p in
        same_tiles (filter (λ t. test t.corner) new.tiles) (filter (λ t. test t.corner) m.tiles)
        (rising-filter corner_of (λ t. test t.corner) new.tiles (rising_tiles new new_valid)) (rising-filter corner_of (λ t. test t.corner) m.tiles (rising_tiles m m_valid))
        (λ d. among_filter test new.tiles d ∙ same_at d (holds m.side d p) refl ∙ sym (among_filter test m.tiles d))

    same_height : height_of new p ≡ height_of m p
    same_height =
        ap (λ n. by_seam_rule (map (λ t. sample_at n t p) (filter (λ t. holds n t.corner p) new.tiles))) same_side
        ∙ ap (λ (ts : List Tile). by_seam_rule (map (λ t. sample_at m.side t p) ts)) same_holders

    same_shared : (q : Point) → share_tile new p q ≡ share_tile m p q
    same_shared q =
        any_of_both (λ t. holds new.side t.corner p) (λ t. holds new.side t.corner q) new.tiles
        ∙ ap (λ n. list_any (λ t. holds n t.corner q) (filter (λ t. holds n t.corner p) new.tiles)) same_side
        ∙ ap (λ (ts : List Tile). list_any (λ t. holds m.side t.corner q) ts) same_holders
        ∙ sym (any_of_both (λ t. holds m.side t.corner p) (λ t. holds m.side t.corner q) m.tiles)

  module _ (p : Point) (held : holds m.side c p ≡ true) where
    near_here : (d : Corner) → holds m.side d p ≡ true → AreNear d c
    near_here d there = holders_near m.side d c p m_valid.side_low there held

    near_beside : (q : Point) → is_near p q ≡ true → (d : Corner) → holds m.side d q ≡ true → AreNear d c
    near_beside q beside d there =
        let both = and_parts (nat_lt (nat_abs (p.y -ℤ q.y)) 2) (nat_lt (nat_abs (p.x -ℤ q.x)) 2) beside in
        let row : nat_abs (p.y -ℤ q.y) < 2 = ltb-true (nat_abs (p.y -ℤ q.y)) 2 both.0 in
        let column : nat_abs (p.x -ℤ q.x) < 2 = ltb-true (nat_abs (p.x -ℤ q.x)) 2 both.1 in
        beside_near m.side d c q p m_valid.side_low there held (omega (arith, ints)) (omega (arith, ints))

    pub near_height : height_of new p ≡ height_of m p
    near_height = same_height p near_here

    near_adjacent_by : (q : Point) (b : Bool) → is_near p q ≡ b → is_adjacent new p q ≡ is_adjacent m p q
    near_adjacent_by q true beside =
        ap₂ (λ (h k : Height). is_height h && is_height k && not (same_point p q) && is_near p q && share_tile new p q) near_height (same_height q (near_beside q beside))
        ∙ ap (λ b. is_ground m p && is_ground m q && not (same_point p q) && is_near p q && b) (same_shared p near_here q)
    near_adjacent_by q false far =
        fourth_fails (is_ground new p) (is_ground new q) (not (same_point p q)) (is_near p q) (share_tile new p q) far
        ∙ sym (fourth_fails (is_ground m p) (is_ground m q) (not (same_point p q)) (is_near p q) (share_tile m p q) far)

    pub near_adjacent : (q : Point) → is_adjacent new p q ≡ is_adjacent m p q
    near_adjacent q = near_adjacent_by q (is_near p q) refl

    near_degree : degree_of new p ≡ degree_of m p
    near_degree = ap (λ (f : Dir → Bool). count_by f directions) (fun_ext (λ d. near_adjacent (step d p)))

    pub near_outlet : is_sink new p ≡ is_sink m p → is_outlet new p ≡ is_outlet m p
    near_outlet sink =
        ap₂ (λ (h : Height) (k : ℕ). is_height h && (nat_lt k 8 || is_sink new p)) near_height near_degree
        ∙ ap (λ b. is_ground m p && (nat_lt (degree_of m p) 8 || b)) sink

  near_heights : IsTrue (is_corner c) → (heights : List ℤ) → AreHeightsOf m c heights → AreHeightsOf new c heights
  near_heights corner heights are = record {
    whole = are.whole ∙ ap (λ n. n * n) (sym same_side);
    values = λ e small.
        let small_too = subst (λ n. e < n * n) same_side small in
        are.values e small_too
        ∙ ap metres (sym (near_height (point_of m.side c e) (held_at_index corner e small_too)))
        ∙ ap (λ n. metres (height_of new (point_of n c e))) (sym same_side);
  }
    where
      held_at_index : IsTrue (is_corner c) → (e : ℕ) → e < m.side * m.side → holds m.side c (point_of m.side c e) ≡ true
      held_at_index corner e small = (holds_is m.side c (point_of m.side c e) m_valid.side_low corner).1 (point_of_held m.side c e (omega (arith, m_valid.side_low)) corner small)

  pub near_block : SameSinksIn m new c → IsTrue (is_corner c) → (b : Block) → IsBlockOf m c b → IsBlockOf new c b
  near_block same_sinks corner b is = record {
    side = is.side ∙ sym same_side;
    heights = near_heights corner b.heights is.heights;
    sinks = λ e small.
        let small_too = subst (λ n. e < n * n) same_side small in
        let held = (holds_is m.side c (point_of m.side c e) m_valid.side_low corner).1 (point_of_held m.side c e (omega (arith, m_valid.side_low)) corner small_too) in
        is.sinks e small_too
        ∙ sym (same_sinks (point_of m.side c e) held)
        ∙ ap (λ n. is_sink new (point_of n c e)) (sym same_side);
  }
