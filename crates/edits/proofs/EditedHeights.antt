-- If an edit leaves the samples of a point unchanged, its height stays.
use Rattle.edits.proofs.Prelude.{All-head, All-tail, AreCorners, Bool, Corner, IsTrue, List, Mosaic, Point, Tile, ℕ, ℤ, [], add-zero, ap, ap₂, arith, by_seam_rule, changed_from, cond, corners_of, edited, false, filter, get_or, height_of, holds, holds_is, index_of, is_corner, map, point_of, point_of_index, refl, sample_at, suc, sym, true, void, zero, ◌+◌, ◌∙◌, ◌∷◌, ◌≡◌, ◌≤◌}

changed_same : (g : ℕ → ℤ → ℤ) (e : ℕ) (l : List ℤ) (k : ℕ) (d : ℤ) → ((s : ℤ) → g (e + k) s ≡ s) → get_or (changed_from g e l) k d ≡ get_or l k d
changed_same g e [] k d same = refl
changed_same g e (s ∷ rest) zero d same = ap (λ i. g i s) (sym (add-zero e)) ∙ same s
changed_same g e (s ∷ rest) (suc k) d same =
    let next : e + 1 + k ≡ e + suc k = omega arith in
    changed_same g (e + 1) rest k d (λ v. ap (λ i. g i v) next ∙ same v)

module _ (f : Point → ℤ → ℤ) (n : ℕ) (side : 3 ≤ n) (q : Point) (leaves : (s : ℤ) → f q s ≡ s) where
  abbrev at : Tile → Tile
  at t = record { corner = t.corner; samples = changed_from (λ e s. f (point_of n t.corner e) s) 0 t.samples }

  sample_stays : (t : Tile) → IsTrue (is_corner t.corner) → holds n t.corner q ≡ true → sample_at n (at t) q ≡ sample_at n t q
  sample_stays t corner held =
      let back : point_of n t.corner (index_of n t.corner q) ≡ q = point_of_index n t.corner q ((holds_is n t.corner q side corner).0 held) in
      let first : 0 + index_of n t.corner q ≡ index_of n t.corner q = omega arith in
      changed_same (λ e s. f (point_of n t.corner e) s) 0 t.samples (index_of n t.corner q) void (λ s. ap (λ i. f (point_of n t.corner i) s) first ∙ ap (λ (p : Point). f p s) back ∙ leaves s)

  abbrev said : List Tile → List ℤ
  said ts = map (λ t. sample_at n t q) (filter (λ t. holds n t.corner q) ts)

  said_alike : (ts : List Tile) → AreCorners (map (λ t. t.corner) ts) → said (map at ts) ≡ said ts
  said_alike [] are = refl
  said_alike (t ∷ ts) are = by (holds n t.corner q) refl (said_alike ts (All-tail (λ (c : Corner). IsTrue (is_corner c)) t.corner (map (λ (u : Tile). u.corner) ts) are))
    where
      by : (b : Bool) → holds n t.corner q ≡ b → said (map at ts) ≡ said ts →
          map (λ v. sample_at n v q) (cond b (at t ∷ filter (λ v. holds n v.corner q) (map at ts)) (filter (λ v. holds n v.corner q) (map at ts)))
          ≡ map (λ v. sample_at n v q) (cond b (t ∷ filter (λ v. holds n v.corner q) ts) (filter (λ v. holds n v.corner q) ts))
      by true held rest = ap₂ (λ (s : ℤ) (l : List ℤ). s ∷ l) (sample_stays t (All-head (λ (c : Corner). IsTrue (is_corner c)) t.corner (map (λ (u : Tile). u.corner) ts) are) held) rest
      by false out rest = rest

pub height_stays : (f : Point → ℤ → ℤ) (m : Mosaic) (q : Point) → 3 ≤ m.side → AreCorners (corners_of m) → ((s : ℤ) → f q s ≡ s) → height_of (edited f m) q ≡ height_of m q
height_stays f m q side are leaves = ap by_seam_rule (said_alike f m.side side q leaves m.tiles are)

pub edited_corners : (f : Point → ℤ → ℤ) (m : Mosaic) → corners_of (edited f m) ≡ corners_of m
edited_corners f m = same m.tiles
  where
    same : (ts : List Tile) → map (λ (u : Tile). u.corner) (map (λ (t : Tile). record { corner = t.corner; samples = changed_from (λ e s. f (point_of m.side t.corner e) s) 0 t.samples }) ts) ≡ map (λ (u : Tile). u.corner) ts
    same [] = refl
    same (t ∷ ts) = ap (λ (cs : List Corner). t.corner ∷ cs) (same ts)
