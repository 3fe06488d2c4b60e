-- The tiles that an edit makes stale are those that its command makes stale.
use Rattle.edits.proofs.Prelude.{All, All-contains, AreCorners, Bool, Contains, Corner, Holds, IsTrue, List, Mosaic, NewHeight, Point, Tile, ℕ, [], and_from, and_parts, ap, ap₂, are_neighbours, arith, corners_of, false, false_from_ne_true, get_or, has_void_from, holds, holds_is, holds_one, is_corner, is_listed, is_near_one, length, list_any, list_any-append, map, refl, same_corner, same_from, same_says, subst, suc, sym, take, take_more, true, zero, ◌&&◌, ◌++◌, ◌+◌, ◌<◌, ◌||◌, ◌∙◌, ◌∷◌, ◌≡◌, ◌≤◌}
use Rattle.lattice.proofs.BoolTests.{same_tests}
use Rattle.edits.specs.Edits.{AreVoidTiles, holds_any, points_of}
use Rattle.edits.proofs.BoxVoids.Voids.{any_says, any_from, tile_at}

any_corner : (test : Corner → Bool) (ts : List Tile) → list_any test (map (λ t. t.corner) ts) ≡ list_any (λ t. test t.corner) ts
any_corner test [] = refl
any_corner test (t ∷ ts) = ap (λ (b : Bool). test t.corner || b) (any_corner test ts)

-- For any mosaic with this side and these corners.
pub stale_holders : (m : Mosaic) (n : ℕ) (corners : List Corner) → m.side ≡ n → corners_of m ≡ corners → (q : Point) (p : Corner)
    → list_any (λ c. holds n c q && are_neighbours c p) corners ≡ is_near_one (λ t. holds m.side t.corner q) m p
stale_holders m n corners side same q p =
    ap (λ (cs : List Corner). list_any (λ c. holds n c q && are_neighbours c p) cs) (sym same)
    ∙ any_corner (λ c. holds n c q && are_neighbours c p) m.tiles
    ∙ ap (λ (k : ℕ). list_any (λ t. holds k t.corner q && are_neighbours t.corner p) m.tiles) (sym side)

module _ (n : ℕ) (side : 3 ≤ n) (corners : List Corner) (are : AreCorners corners) (q : Point) (p : Corner) where
  held_there : (c : Corner) → Contains corners c → IsTrue (is_corner c)
  held_there c there = All-contains (λ d. IsTrue (is_corner d)) corners c are there

  -- A present tile near the corner has the point.
  pub held_near : (h : Corner) → Contains corners h → Holds n h q → are_neighbours h p ≡ true → list_any (λ c. holds n c q && are_neighbours c p) corners ≡ true
  held_near h there held close = any_from (λ c. holds n c q && are_neighbours c p) corners h there (and_from (holds n h q) (are_neighbours h p) ((holds_is n h q side (held_there h there)).1 held) close)

  -- None of the tiles with the point is present and near.
  pub not_held_near : (hs : List Corner) → ((c : Corner) → Holds n c q → Contains hs c)
      → ((k : ℕ) (d : Corner) → k < length hs → Contains corners (get_or hs k d) → are_neighbours (get_or hs k d) p ≡ true → ⊥)
      → list_any (λ c. holds n c q && are_neighbours c p) corners ≡ false
  not_held_near hs all none = false_from_ne_true (list_any (λ c. holds n c q && are_neighbours c p) corners) (λ some.
      let found = any_says (λ c. holds n c q && are_neighbours c p) corners some in
      let c = found.0 in
      let both = and_parts (holds n c q) (are_neighbours c p) found.1.1 in
      let at = all c ((holds_is n c q side (held_there c found.1.0)).0 both.0) in
      none at.0 c at.1 (subst (λ (d : Corner). Contains corners d) (sym at.2) found.1.0) (ap (λ (d : Corner). are_neighbours d p) at.2 ∙ both.1))

-- The corner's tile or a neighbour has one of the points.
pub any_near : (n : ℕ) (corners : List Corner) (heights : List NewHeight) (p : Corner) →
    list_any (λ h. list_any (λ c. holds n c h.point && are_neighbours c p) corners) heights ≡ list_any (λ c. holds_any n heights c && are_neighbours c p) corners
any_near n corners heights p = same_tests _ _
    (λ some.
    let height = any_says (λ (h : NewHeight). list_any (λ c. holds n c h.point && are_neighbours c p) corners) heights some in
    let h = height.0 in
    let found = any_says (λ c. holds n c h.point && are_neighbours c p) corners height.1.1 in
    let both = and_parts (holds n found.0 h.point) (are_neighbours found.0 p) found.1.1 in
    any_from (λ c. holds_any n heights c && are_neighbours c p) corners found.0 found.1.0
    (and_from (holds_any n heights found.0) (are_neighbours found.0 p) (any_from (λ (k : NewHeight). holds n found.0 k.point) heights h height.1.0 both.0) both.1))
    (λ some.
    let found = any_says (λ c. holds_any n heights c && are_neighbours c p) corners some in
    let both = and_parts (holds_any n heights found.0) (are_neighbours found.0 p) found.1.1 in
    let height = any_says (λ (k : NewHeight). holds n found.0 k.point) heights both.0 in
    any_from (λ (h : NewHeight). list_any (λ c. holds n c h.point && are_neighbours c p) corners) heights height.0 height.1.0
    (any_from (λ c. holds n c height.0.point && are_neighbours c p) corners found.0 found.1.0 (and_from (holds n found.0 height.0.point) (are_neighbours found.0 p) height.1.1 both.1)))

-- None so far passes the test, and this one doesn't either.
pub none_more : {X : Type 0} (test : X → Bool) (xs : List X) (i : ℕ) (x : X) → i < length xs → x ≡ get_or xs i x → list_any test (take i xs) ≡ false → test x ≡ false → list_any test (take (i + 1) xs) ≡ false
none_more {X} test xs i x below is before here =
    ap (list_any test) (take_more xs i x below ∙ ap (λ (y : X). take i xs ++ y ∷ []) (sym is))
    ∙ list_any-append test (take i xs) (x ∷ [])
    ∙ ap₂ (λ (a b : Bool). a || (b || false)) before here

-- An edit of heights or of voids makes the same tiles stale as its command.

pub stale_named : (m : Mosaic) (n : ℕ) (corners : List Corner) → m.side ≡ n → corners_of m ≡ corners → (heights : List NewHeight) (p : Corner)
    → list_any (λ c. holds_any n heights c && are_neighbours c p) corners ≡ is_near_one (λ t. holds_one m (points_of heights) t.corner) m p
stale_named m n corners side same heights p =
    ap (λ (cs : List Corner). list_any (λ c. holds_any n heights c && are_neighbours c p) cs) (sym same)
    ∙ any_corner (λ c. holds_any n heights c && are_neighbours c p) m.tiles
    ∙ ap (λ (test : Corner → Bool). list_any (λ (t : Tile). test t.corner && are_neighbours t.corner p) m.tiles) (λ i c. held c i)
  where
    held : (c : Corner) → holds_any n heights c ≡ holds_one m (points_of heights) c
    held c = ap (λ (k : ℕ). list_any (λ (h : NewHeight). holds k c h.point) heights) (sym side) ∙ named heights
      where
        named : (hs : List NewHeight) → list_any (λ (h : NewHeight). holds m.side c h.point) hs ≡ holds_one m (points_of hs) c
        named [] = refl
        named (h ∷ hs) = ap (λ (b : Bool). holds m.side c h.point || b) (named hs)

pub stale_voids : (m : Mosaic) (from to : Point) (tiles : List Corner) → AreVoidTiles m from to tiles → All (Contains (corners_of m)) tiles → (p : Corner)
    → list_any (λ c. are_neighbours c p) tiles ≡ is_near_one (λ t. has_void_from m from to t.corner 0 t.samples) m p
stale_voids m from to tiles voids present p = same_tests _ _
    (λ some.
    let found = any_says (λ c. are_neighbours c p) tiles some in
    let tile = tile_at m found.0 (All-contains (Contains (corners_of m)) tiles found.0 present found.1.0) in
    let t = tile.0 in
    let named : is_listed t.corner tiles ≡ true = any_from (λ d. same_corner d t.corner) tiles found.0 found.1.0 (same_from found.0 t.corner (sym tile.1.1)) in
    any_from (λ (u : Tile). has_void_from m from to u.corner 0 u.samples && are_neighbours u.corner p) m.tiles t tile.1.0
    (and_from (has_void_from m from to t.corner 0 t.samples) (are_neighbours t.corner p) (sym (voids t tile.1.0) ∙ named) (ap (λ (c : Corner). are_neighbours c p) tile.1.1 ∙ found.1.1)))
    (λ some.
    let found = any_says (λ (u : Tile). has_void_from m from to u.corner 0 u.samples && are_neighbours u.corner p) m.tiles some in
    let t = found.0 in
    let both = and_parts (has_void_from m from to t.corner 0 t.samples) (are_neighbours t.corner p) found.1.1 in
    let named = any_says (λ d. same_corner d t.corner) tiles (voids t found.1.0 ∙ both.0) in
    any_from (λ c. are_neighbours c p) tiles named.0 named.1.0 (ap (λ (c : Corner). are_neighbours c p) (same_says named.0 t.corner named.1.1) ∙ both.1))

pub read_within : {X : Type 0} (xs : List X) (i : ℕ) (d e : X) → i < length xs → get_or xs i d ≡ get_or xs i e
read_within [] i d e within = absurd (omega arith)
read_within (x ∷ xs) zero d e within = refl
read_within (x ∷ xs) (suc i) d e within = read_within xs i d e (omega arith)
