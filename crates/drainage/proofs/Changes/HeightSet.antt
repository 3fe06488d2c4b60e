-- A ground point has the height that it was given.
use Rattle.drainage.proofs.Prelude.{All-head, All-tail, AreCorners, At, Bool, Corner, Decides-int_eq, IsTrue, List, Mosaic, Point, Tile, ℕ, ℤ, [], and_from, ap, arith, by_seam_rule, cases_Bool, cases_lt, cond, corners_of, false, false≢true, filter, first_height, get_or, get_or_past, height_of, holds, index_of, inl, inr, int_eq, is_corner, is_ground, is_height, is_void, length, map, point_of, refl, same_point, sample_at, subst, sym, true, void, with_height, ◌+◌, ◌∙◌, ◌∷◌, ◌≡◌, ◌≢◌, ◌≤◌, ◌⊎◌}
use Rattle.lattice.proofs.Samples.{holds_is, point_of_index}
use Rattle.edits.specs.Effect.{changed_from}
use Rattle.edits.proofs.Placing.{get-changed_from, length-changed_from}

module _ (p : Point) (h : ℤ) (full : h ≢ void) (n : ℕ) (side : 3 ≤ n) where
  abbrev f : Point → ℤ → ℤ
  f q s = cond (same_point q p) h s

  abbrev at : Tile → Tile
  at t = record { corner = t.corner; samples = changed_from (λ e s. f (point_of n t.corner e) s) 0 t.samples }

  same_itself : IsTrue (same_point p p)
  same_itself = and_from (int_eq p.y p.y) (int_eq p.x p.x) ((Decides-int_eq p.y p.y).1 refl) ((Decides-int_eq p.x p.x).1 refl)

  -- in the new mosaic, the sample of a tile that holds the point is the new height, or void if it was void
  sample_set : (t : Tile) → IsTrue (is_corner t.corner) → holds n t.corner p ≡ true → (sample_at n (at t) p ≡ h) ⊎ ((sample_at n (at t) p ≡ void) × (sample_at n t p ≡ void))
  sample_set t corner held =
      let k = index_of n t.corner p in
      let g : ℕ → ℤ → ℤ = λ e s. f (point_of n t.corner e) s in
      elim (cases_lt k (length t.samples)) [
        | inl inside ↦
            let back : point_of n t.corner k ≡ p = point_of_index n t.corner p ((holds_is n t.corner p side corner).0 held) in
            let first : 0 + k ≡ k = omega arith in
            inl (get-changed_from g 0 t.samples k void inside ∙ ap (λ i. f (point_of n t.corner i) (get_or t.samples k void)) first ∙ ap (λ q. f q (get_or t.samples k void)) back ∙ ap (λ b. cond b h (get_or t.samples k void)) same_itself)
        | inr past ↦ inr (get_or_past (changed_from g 0 t.samples) k void (subst (λ l. l ≤ k) (sym (length-changed_from g 0 t.samples)) past), get_or_past t.samples k void past)
      ]

  abbrev said : List Tile → List ℤ
  said ts = map (λ t. sample_at n t p) (filter (λ t. holds n t.corner p) ts)

  void_is : (s : ℤ) → s ≡ void → is_void s ≡ true
  void_is s same = (Decides-int_eq s void).1 same

  void_isnt : (s : ℤ) → s ≢ void → is_void s ≡ false
  void_isnt s other = elim (cases_Bool (is_void s)) [
    | inl same ↦ absurd (other ((Decides-int_eq s void).0 same))
    | inr isnt ↦ isnt
  ]

  height_first : (l : List ℤ) → first_height (h ∷ l) ≡ At h
  height_first l = ap (λ b. cond b (first_height l) (At h)) (void_isnt h full)

  -- the first height among the samples is the new height, if there was a height before
  pub first_set : (ts : List Tile) → AreCorners (map (λ t. t.corner) ts) → is_height (first_height (said ts)) ≡ true → first_height (said (map at ts)) ≡ At h
  first_set [] are ground = absurd (false≢true ground)
  first_set (t ∷ ts) are ground = by (holds n t.corner p) refl ground (first_set ts (All-tail (λ (c : Corner). IsTrue (is_corner c)) t.corner (map (λ (u : Tile). u.corner) ts) are))
    where
      by : (b : Bool) → holds n t.corner p ≡ b → is_height (first_height (map (λ v. sample_at n v p) (cond b (t ∷ filter (λ v. holds n v.corner p) ts) (filter (λ v. holds n v.corner p) ts)))) ≡ true
          → (is_height (first_height (said ts)) ≡ true → first_height (said (map at ts)) ≡ At h)
          → first_height (map (λ v. sample_at n v p) (cond b (at t ∷ filter (λ v. holds n v.corner p) (map at ts)) (filter (λ v. holds n v.corner p) (map at ts)))) ≡ At h
      by false out ground rest = rest ground
      by true held ground rest = elim (sample_set t (All-head (λ (c : Corner). IsTrue (is_corner c)) t.corner (map (λ (u : Tile). u.corner) ts) are) held) [
        | inl is ↦ ap (λ s. first_height (s ∷ said (map at ts))) is ∙ height_first (said (map at ts))
        | inr none ↦
            ap (λ b. cond b (first_height (said (map at ts))) (At (sample_at n (at t) p))) (void_is (sample_at n (at t) p) none.0)
            ∙ rest (sym (ap (λ b. is_height (cond b (first_height (said ts)) (At (sample_at n t p)))) (void_is (sample_at n t p) none.1)) ∙ ground)
      ]

-- if the first height is h, the seam rule gives h
by_first : (l : List ℤ) (h : ℤ) → first_height l ≡ At h → by_seam_rule l ≡ At h
by_first [] h is = absurd (cc)
by_first (s ∷ l) h is = is

first_by : (l : List ℤ) → is_height (by_seam_rule l) ≡ true → is_height (first_height l) ≡ true
first_by [] ground = absurd (false≢true ground)
first_by (s ∷ l) ground = ground

pub height_set : (p : Point) (h : ℤ) → h ≢ void → (m : Mosaic) → 3 ≤ m.side → AreCorners (corners_of m) → is_ground m p ≡ true → height_of (with_height p h m) p ≡ At h
height_set p h full m side are ground = by_first (said p h full m.side side (map (at p h full m.side side) m.tiles)) h (first_set p h full m.side side m.tiles are (first_by (said p h full m.side side m.tiles) ground))
