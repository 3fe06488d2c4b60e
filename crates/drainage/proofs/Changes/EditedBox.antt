-- How a mosaic changes as an edit sets one height after another.
use Rattle.drainage.proofs.Prelude.{AreCorners, AreEarlier, At, Bool, DifferAt, DifferBetween, IsMosaic, IsSample, List, Mosaic, NewHeight, Point, ℕ, ℤ, [], ap, arith, corners_of, false, get_or, height_of, if◌then◌else◌, is_between, is_ground, length, refl, same_point, subst, suc, sym, take, true, void, with_height, with_heights, zero, ◌&&◌, ◌+◌, ◌<◌, ◌∷◌, ◌≡◌, ◌≢◌, ◌≤◌}
use Rattle.std.proofs.lemmas.Bool.{and_left}
use Rattle.catalogue.proofs.OneTile.{corners_are}
use Rattle.edits.specs.Effect.{edited, is_in_box, is_void_at, patched}
use Rattle.edits.proofs.Edited.{heights_corners, heights_next, heights_side}
use Rattle.edits.proofs.NewMosaics.{edited_is_mosaic}
use Rattle.edits.proofs.EditedHeights.{edited_corners, height_stays}
use Rattle.levels.proofs.Changes.Reached.{apart_points, other_point}
use Rattle.drainage.proofs.Changes.HeightSet.{height_set}

differ_edited : (f : Point → ℤ → ℤ) (m : Mosaic) (from to : Point) → 3 ≤ m.side → AreCorners (corners_of m) → ((q : Point) (s : ℤ) → is_between from to q ≡ false → f q s ≡ s) → DifferBetween m (edited f m) from to
differ_edited f m from to side are leaves = record {
  same_side = refl;
  same_corners = edited_corners f m;
  heights = λ q out. height_stays f m q side are (λ s. leaves q s out);
  sinks = λ q out. refl;
}

pub differ_patched : (from to : Point) (h : ℤ) (m : Mosaic) → IsMosaic m → DifferBetween m (patched from to h m) from to
differ_patched from to h m valid = differ_edited (λ p s. if is_in_box from to p && is_void_at m p then h else s) m from to valid.side_low (corners_are m valid)
    (λ q s out. ap (λ b. if b then h else s) (and_left (is_in_box from to q) (is_void_at m q) out))

differ_height : (p : Point) (h : ℤ) (m : Mosaic) → 3 ≤ m.side → AreCorners (corners_of m) → DifferBetween m (with_height p h m) p p
differ_height p h m side are = differ_edited (λ q s. if same_point q p then h else s) m p p side are
    (λ q s out. ap (λ b. if b then h else s) (apart_points q p (λ same. other_point p q out (sym same))))

-- setting one more height changes the mosaic at most at that height's point
pub differ_more : (hs : List NewHeight) (i : ℕ) (h : NewHeight) (m : Mosaic) → IsMosaic m → i < length hs → h ≡ get_or hs i h → DifferAt (with_heights (take i hs) m) (with_heights (take (i + 1) hs) m) h.point
differ_more hs i h m valid below is =
    let mid : Mosaic = with_heights (take i hs) m in
    subst (λ (y : Mosaic). DifferAt mid y h.point) (sym (heights_next hs i h m below is)) (record {
      around = differ_height h.point h.metres mid (subst (λ n. 3 ≤ n) (sym (heights_side (take i hs) m)) valid.side_low) (subst AreCorners (sym (heights_corners (take i hs) m)) (corners_are m valid));
      all_sinks = λ q. refl;
    })

-- a point that was ground has the new height after the edit's next height is set
pub set_more : (hs : List NewHeight) (i : ℕ) (h : NewHeight) (m : Mosaic) → IsMosaic m → i < length hs → h ≡ get_or hs i h → h.metres ≢ void → is_ground (with_heights (take i hs) m) h.point ≡ true → height_of (with_heights (take (i + 1) hs) m) h.point ≡ At h.metres
set_more hs i h m valid below is full ground =
    let mid : Mosaic = with_heights (take i hs) m in
    subst (λ (y : Mosaic). height_of y h.point ≡ At h.metres) (sym (heights_next hs i h m below is))
    (height_set h.point h.metres full mid (subst (λ n. 3 ≤ n) (sym (heights_side (take i hs) m)) valid.side_low) (subst AreCorners (sym (heights_corners (take i hs) m)) (corners_are m valid)) ground)

-- until its height is set, a point has the old height that the edit names
pub earlier_at : (hs : List NewHeight) (i : ℕ) (h : NewHeight) (m : Mosaic) → i < length hs → h ≡ get_or hs i h → AreEarlier hs m → height_of (with_heights (take i hs) m) h.point ≡ At h.was
earlier_at [] i h m below is earlier = absurd (omega arith)
earlier_at (k ∷ hs) zero h m below is earlier = subst (λ (x : NewHeight). height_of m x.point ≡ At x.was) (sym is) earlier.0
earlier_at (k ∷ hs) (suc i) h m below is earlier = earlier_at hs i h (with_height k.point k.metres m) (omega arith) is earlier.1

-- the mosaic is still valid after the edit's next height is set
pub valid_more : (hs : List NewHeight) (i : ℕ) (h : NewHeight) (m : Mosaic) → IsMosaic (with_heights (take i hs) m) → i < length hs → h ≡ get_or hs i h → IsSample h.metres → IsMosaic (with_heights (take (i + 1) hs) m)
valid_more hs i h m valid below is sample =
    let mid : Mosaic = with_heights (take i hs) m in
    subst IsMosaic (sym (heights_next hs i h m below is)) (edited_is_mosaic mid (λ q s. if same_point q h.point then h.metres else s) (λ q s old. set_sample (same_point q h.point) s old) valid)
  where
    set_sample : (b : Bool) (s : ℤ) → IsSample s → IsSample (if b then h.metres else s)
    set_sample true s old = sample
    set_sample false s old = old
