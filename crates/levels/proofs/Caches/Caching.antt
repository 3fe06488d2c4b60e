-- Lists of cached labellings, and which labellings they contain.
use Rattle.levels.proofs.Prelude.{Bool, Corner, DifferAt, HasSide, HeldLabelling, IsEntered, IsHeldAt, LabelledGround, List, Mosaic, NewHeight, TileLabelling, ℕ, [], ap, arith, cond, corner_at, drop, false, get_or, has_block, holds, inl, inr, length, not, refl, subst, suc, sym, take, true, zero, ◌++◌, ◌<◌, ◌∙◌, ◌∷◌, ◌≡◌, ◌≤◌, ◌⊎◌}
use Rattle.std.specs.Prelude.{◌↔◌, IsTrue, All, Contains, filter, count_by, insert, remove}
use Rattle.std.specs.List.Retain.{RetainsInTurn}
use Rattle.std.proofs.lemmas.List.Elements.{All-cons, All-head, All-tail, All-append, All-take, All-drop, All-filter, All-weaker, All-contains, All-contains_itself, Contains-append_left, Contains-append_right, filter_passes}
use Rattle.std.proofs.lemmas.List.Filters.{sum_by-filter_both}
use Rattle.std.proofs.lemmas.List.Sums.{sum_by-cons}
use Rattle.tile_labellings.specs.TileLabellings.{labelled_of, is_flooded, can_note, IsSetFrom, IsTileLabelling}
use Rattle.levels.specs.Invalidating.{IsNoted, IsHeldStill}

-- ---- elements of lists

module _ {A : Type 0} where
  pub first : (x : A) (xs : List A) → Contains (x ∷ xs) x
  first x xs = (0, omega arith, refl)

  pub behind : (x : A) (xs : List A) (y : A) → Contains xs y → Contains (x ∷ xs) y
  behind x xs y (k, below, at) = (suc k, omega arith, at)

  pub first_or_behind : (x : A) (xs : List A) (y : A) → Contains (x ∷ xs) y → (x ≡ y) ⊎ Contains xs y
  first_or_behind x xs y (k, below, at) = by k below at
    where
      by : (k : ℕ) → k < length (x ∷ xs) → get_or (x ∷ xs) k y ≡ y → (x ≡ y) ⊎ Contains xs y
      by zero below at = inl at
      by (suc k) below at = inr (k, omega arith, at)

  nothing_there : (y : A) → Contains [] y → ⊥
  nothing_there y (k, below, at) = absurd (omega arith)

  -- if all elements of xs satisfy P, so do all elements of ys, which are among them
  pub all_among : (P : A → Type 0) (xs ys : List A) → All (Contains xs) ys → All P xs → All P ys
  all_among P xs ys among all = All-weaker (Contains xs) P (λ y at. All-contains P xs y all at) ys among

  pub removed_among : (xs : List A) (i : ℕ) → All (Contains xs) (remove xs i)
  removed_among xs i = All-append (Contains xs) (take i xs) (drop (suc i) xs) (All-take (Contains xs) i xs (All-contains_itself xs)) (All-drop (Contains xs) (suc i) xs (All-contains_itself xs))

  pub all_inserted : (P : A → Type 0) (xs : List A) (i : ℕ) (x : A) → P x → All P xs → All P (insert xs i x)
  all_inserted P xs i x p all = All-append P (take i xs) (x ∷ drop i xs) (All-take P i xs all) (All-cons P x (drop i xs) p (All-drop P i xs all))

  inserted_cases : (xs : List A) (i : ℕ) (x y : A) → Contains (insert xs i x) y → (x ≡ y) ⊎ Contains xs y
  inserted_cases xs i x y at = All-contains (λ z. (x ≡ z) ⊎ Contains xs z) (insert xs i x) y
      (all_inserted (λ z. (x ≡ z) ⊎ Contains xs z) xs i x (inl refl) (All-weaker (Contains xs) (λ z. (x ≡ z) ⊎ Contains xs z) (λ z there. inr there) xs (All-contains_itself xs))) at

  -- each element of xs is the removed one, or one of the others
  pub moved_first : (xs : List A) (i : ℕ) (x : A) → i < length xs → x ≡ get_or xs i x → All (Contains (x ∷ remove xs i)) xs
  moved_first xs i x below is = subst (All (Contains (x ∷ remove xs i))) (sym (split xs i x below is))
      (All-append (Contains (x ∷ remove xs i)) (take i xs) (x ∷ drop (suc i) xs)
      (All-weaker (Contains (take i xs)) (Contains (x ∷ remove xs i)) (λ y at. behind x (remove xs i) y (Contains-append_left (take i xs) (drop (suc i) xs) y at)) (take i xs) (All-contains_itself (take i xs)))
      (All-cons (Contains (x ∷ remove xs i)) x (drop (suc i) xs) (first x (remove xs i))
      (All-weaker (Contains (drop (suc i) xs)) (Contains (x ∷ remove xs i)) (λ y at. behind x (remove xs i) y (Contains-append_right (take i xs) (drop (suc i) xs) y at)) (drop (suc i) xs) (All-contains_itself (drop (suc i) xs)))))
    where
      split : (xs : List A) (i : ℕ) (x : A) → i < length xs → x ≡ get_or xs i x → xs ≡ take i xs ++ x ∷ drop (suc i) xs
      split [] i x below is = absurd (omega arith)
      split (y ∷ ys) zero x below is = ap (λ z. z ∷ ys) (sym is)
      split (y ∷ ys) (suc i) x below is = ap (λ zs. y ∷ zs) (split ys i x (omega arith) is)

  contains_filtered : (test : A → Bool) (xs : List A) (x : A) → Contains xs x → test x ≡ true → Contains (filter test xs) x
  contains_filtered test [] x at passes = absurd (nothing_there x at)
  contains_filtered test (y ∷ ys) x at passes = elim (first_or_behind y ys x at) [
    | inl is ↦ subst (λ b. Contains (cond b (y ∷ filter test ys) (filter test ys)) x) (sym (ap test is ∙ passes)) (subst (Contains (y ∷ filter test ys)) is (first y (filter test ys)))
    | inr there ↦ either (test y) (contains_filtered test ys x there passes)
  ]
    where
      either : (b : Bool) → Contains (filter test ys) x → Contains (cond b (y ∷ filter test ys) (filter test ys)) x
      either true at = behind y (filter test ys) x at
      either false at = at

  pub count_filtered : (count : A → Bool) (test : A → Bool) (xs : List A) → count_by count (filter test xs) ≤ count_by count xs
  count_filtered count test xs = omega (arith, sum_by-filter_both test (λ x. not (test x)) (λ x. refl) (λ x. cond (count x) 1 0) xs)

-- P holds whether an element was inserted or memory was lacking
pub inserted_or_not : {A : Type 0} (P : List A → Type 0) (b : Bool) (with_ without : List A) → P with_ → P without → P (cond b with_ without)
inserted_or_not P true with_ without p q = p
inserted_or_not P false with_ without p q = q

-- ---- cached labellings

-- the labellings of a list are right for their tiles if all of them are in a list with right ones
pub entered_among : (m : Mosaic) (c : Corner) (t : ℕ) (xs ys : List HeldLabelling) → All (Contains xs) ys → IsEntered m c xs t → IsEntered m c ys t
entered_among m c t xs ys among entered l at = entered l (All-contains (Contains xs) ys (record { place = t; labelling = l }) among at)

-- cached labellings stay right when one more is inserted
pub entered_one : (m : Mosaic) (c : Corner) (t : ℕ) (l : TileLabelling) (u : ℕ) (xs : List HeldLabelling) (i : ℕ) → (u ≡ t → IsTileLabelling m c l) → IsEntered m c xs u → IsEntered m c (insert xs i (record { place = t; labelling = l })) u
entered_one m c t l u xs i valid entered x at = elim (inserted_cases xs i (record { place = t; labelling = l }) (record { place = u; labelling = x }) at) [
  | inl is ↦ subst (IsTileLabelling m c) (ap (λ (h : HeldLabelling). h.labelling) is) (valid (sym (ap (λ (h : HeldLabelling). h.place) is)))
  | inr there ↦ entered x there
]

same_held : (x : HeldLabelling) (t : ℕ) (l : TileLabelling) → x.place ≡ t → x.labelling ≡ l → x ≡ record { place = t; labelling = l }
same_held x t l place labelling = ap (λ k. record { place = x.place; labelling = k }) labelling ∙ ap (λ v. record { place = v; labelling = l }) place

pub held_there : (xs : List HeldLabelling) (i : ℕ) (one : HeldLabelling) (t : ℕ) → i < length xs → one ≡ get_or xs i one → one.place ≡ t → IsHeldAt xs t one.labelling
held_there xs i one t below is place = subst (Contains xs) (same_held one t one.labelling place refl) (i, below, sym is)

-- cached labellings stay right when one is replaced by another labelling of its tile
pub entered_exchanged : (m : Mosaic) (c : Corner) (u : ℕ) (xs : List HeldLabelling) (i : ℕ) (one : HeldLabelling) (l : TileLabelling) → i < length xs → one ≡ get_or xs i one → (IsTileLabelling m c one.labelling → IsTileLabelling m c l)
    → IsEntered m c xs u → IsEntered m c (insert (remove xs i) i (record { place = one.place; labelling = l })) u
entered_exchanged m c u xs i one l below is still entered =
    entered_one m c one.place l u (remove xs i) i
    (λ here. still (entered one.labelling (held_there xs i one u below is (sym here))))
    (entered_among m c u xs (remove xs i) (removed_among xs i) entered)

-- exactly the labellings of the tiles that aren't in `gone` remain
pub left_unreached : (gone : ℕ → Bool) (xs : List HeldLabelling) (t : ℕ) (l : TileLabelling) → IsHeldAt (filter (λ one. not (gone one.place)) xs) t l ↔ (IsHeldAt xs t l × (gone t ≡ false))
left_unreached gone xs t l = (
  λ at. (
    All-contains (Contains xs) (filter test xs) one (All-filter test (Contains xs) xs (All-contains_itself xs)) at,
    isnt (gone t) (All-contains (λ x. test x ≡ true) (filter test xs) one (filter_passes test xs) at),
  ),
  λ was. contains_filtered test xs one was.0 (ap not was.1),
)
  where
    one : HeldLabelling
    one = record { place = t; labelling = l }

    test : HeldLabelling → Bool
    test x = not (gone x.place)

    isnt : (b : Bool) → not b ≡ true → b ≡ false
    isnt false is = refl
    isnt true is = cc

-- ---- recording a change in one labelling after another

module _ (side : ℕ) (corners : List Corner) (h : NewHeight) where
  -- ys are the labellings of xs that record the change
  abbrev pub AreNoted : List HeldLabelling → List HeldLabelling → Type 0
  AreNoted [] ys = ys ≡ []
  AreNoted (x ∷ xs) ys = (b : Bool) × (y : HeldLabelling) × IsNoted side corners h x b y × (zs : List HeldLabelling) × AreNoted xs zs × (ys ≡ cond b (y ∷ zs) zs)

  pub noted_in_turn : {F : Type 0} (R : F → HeldLabelling → Bool → F → HeldLabelling → Type 0) (f : F) → ((x : HeldLabelling) (b : Bool) (f' : F) (y : HeldLabelling) → R f x b f' y → IsNoted side corners h x b y × (f' ≡ f))
      → (xs ys : List HeldLabelling) → RetainsInTurn R f xs ys → AreNoted xs ys
  noted_in_turn R f says [] ys is = is
  noted_in_turn {F} R f says (x ∷ xs) ys (b, f', y, call, zs, rest, is) =
      let one = says x b f' y call in
      (b, y, one.0, zs, noted_in_turn R f says xs zs (subst (λ (s : F). RetainsInTurn R s xs zs) one.1 rest), is)

  module _ (m new : Mosaic) (differ : DifferAt m new h.point) (set_from : IsSetFrom m new h.point h.was h.metres) (same : m.side ≡ side) (t : ℕ) where
    pub noted_right : (xs ys : List HeldLabelling) → AreNoted xs ys → IsEntered m (corner_at corners t) xs t → IsEntered new (corner_at corners t) ys t
    noted_right [] ys is entered l at = absurd (nothing_there (record { place = t; labelling = l }) (subst (λ (ws : List HeldLabelling). IsHeldAt ws t l) is at))
    noted_right (x ∷ xs) ys (b, y, noted, zs, rest, is) entered l at =
        by (noted_right xs zs rest (λ k at. entered k (behind x xs (record { place = t; labelling = k }) at)) l) b noted (subst (λ (ws : List HeldLabelling). IsHeldAt ws t l) is at)
      where
        here : IsNoted side corners h x true y → y ≡ record { place = t; labelling = l } → IsTileLabelling new (corner_at corners t) l
        here noted is =
            let place : x.place ≡ t = sym noted.same_place ∙ ap (λ (h : HeldLabelling). h.place) is in
            let was = subst (λ v. IsTileLabelling m (corner_at corners v) x.labelling) (sym place) (entered x.labelling (subst (Contains (x ∷ xs)) (same_held x t x.labelling place refl) (first x xs))) in
            subst (λ v. IsTileLabelling new (corner_at corners v) l) place
            (subst (IsTileLabelling new (corner_at corners x.place)) (ap (λ (h : HeldLabelling). h.labelling) is) (noted.right refl m new differ set_from same was))

        by : (IsHeldAt zs t l → IsTileLabelling new (corner_at corners t) l) → (b : Bool) → IsNoted side corners h x b y → IsHeldAt (cond b (y ∷ zs) zs) t l → IsTileLabelling new (corner_at corners t) l
        by later true noted at = elim (first_or_behind y zs (record { place = t; labelling = l }) at) [
          | inl is ↦ here noted is
          | inr there ↦ later there
        ]
        by later false noted at = later at

  module _ (t : ℕ) (below : t < length corners) (out : holds side (corner_at corners t) h.point ≡ false) (l : TileLabelling) where
    abbrev one : HeldLabelling
    one = record { place = t; labelling = l }

    kept_there : (x : HeldLabelling) (b : Bool) (y : HeldLabelling) → IsNoted side corners h x b y → x.place ≡ t → IsTrue b × (y.labelling ≡ x.labelling)
    kept_there x b y noted place = noted.kept (subst (λ v. v < length corners) (sym place) below) (subst (λ v. holds side (corner_at corners v) h.point ≡ false) (sym place) out)

    pub noted_kept : (xs ys : List HeldLabelling) → AreNoted xs ys → IsHeldAt ys t l ↔ IsHeldAt xs t l
    noted_kept [] ys is = subst (λ (ws : List HeldLabelling). IsHeldAt ws t l ↔ IsHeldAt [] t l) (sym is) ((λ at. at), (λ at. at))
    noted_kept (x ∷ xs) ys (b, y, noted, zs, rest, is) = subst (λ (ws : List HeldLabelling). IsHeldAt ws t l ↔ IsHeldAt (x ∷ xs) t l) (sym is) (by (noted_kept xs zs rest) b noted)
      where
        by : IsHeldAt zs t l ↔ IsHeldAt xs t l → (b : Bool) → IsNoted side corners h x b y → IsHeldAt (cond b (y ∷ zs) zs) t l ↔ IsHeldAt (x ∷ xs) t l
        by later true noted = (
          λ at. elim (first_or_behind y zs one at) [
            | inl is ↦
                let place : x.place ≡ t = sym noted.same_place ∙ ap (λ (h : HeldLabelling). h.place) is in
                subst (Contains (x ∷ xs)) (same_held x t l place (sym (kept_there x true y noted place).1 ∙ ap (λ (h : HeldLabelling). h.labelling) is)) (first x xs)
            | inr there ↦ behind x xs one (later.0 there)
          ],
          λ at. elim (first_or_behind x xs one at) [
            | inl is ↦
                let place : x.place ≡ t = ap (λ (h : HeldLabelling). h.place) is in
                subst (Contains (y ∷ zs)) (same_held y t l (noted.same_place ∙ place) ((kept_there x true y noted place).1 ∙ ap (λ (h : HeldLabelling). h.labelling) is)) (first y zs)
            | inr there ↦ behind y zs one (later.1 there)
          ],
        )
        by later false noted = (
          λ at. behind x xs one (later.0 at),
          λ at. elim (first_or_behind x xs one at) [
            | inl is ↦ let kept = (kept_there x false y noted (ap (λ (h : HeldLabelling). h.place) is)).0 in absurd (cc)
            | inr there ↦ later.1 there
          ],
        )

  -- a flooded block with room for one more changed point stays
  module _ (t : ℕ) (below : t < length corners) (l : TileLabelling) (can : can_note l ≡ true) where
    pub noted_still : (xs ys : List HeldLabelling) → AreNoted xs ys → IsHeldAt xs t l → IsHeldStill ys t l
    noted_still [] ys is at = absurd (nothing_there (record { place = t; labelling = l }) at)
    noted_still (x ∷ xs) ys (b, y, noted, zs, rest, is) at = subst (λ (ws : List HeldLabelling). IsHeldStill ws t l) (sym is)
        (elim (first_or_behind x xs (record { place = t; labelling = l }) at) [
          | inl here ↦ taken b noted (ap (λ (h : HeldLabelling). h.place) here) (ap (λ (h : HeldLabelling). h.labelling) here)
          | inr there ↦ later b (noted_still xs zs rest there)
        ])
      where
        later : (b : Bool) → IsHeldStill zs t l → IsHeldStill (cond b (y ∷ zs) zs) t l
        later true still = record { noted = still.noted; held = behind y zs (record { place = t; labelling = still.noted }) still.held; same = still.same; flooded = still.flooded }
        later false still = still

        taken : (b : Bool) → IsNoted side corners h x b y → x.place ≡ t → x.labelling ≡ l → IsHeldStill (cond b (y ∷ zs) zs) t l
        taken true noted place labelling = record {
          noted = y.labelling;
          held = subst (Contains (y ∷ zs)) (same_held y t y.labelling (noted.same_place ∙ place) refl) (first y zs);
          same = noted.same_labelled refl ∙ ap labelled_of labelling;
          flooded = noted.same_block ∙ ap is_flooded labelling;
        }
        taken false noted place labelling = let yes = noted.mended (subst (λ v. v < length corners) (sym place) below) (ap can_note labelling ∙ can) in absurd (cc)

  pub noted_sides : (n : ℕ) (xs ys : List HeldLabelling) → AreNoted xs ys → All (HasSide n) xs → All (HasSide n) ys
  noted_sides n [] ys is all = subst (All (HasSide n)) (sym is) all
  noted_sides n (x ∷ xs) ys (b, y, noted, zs, rest, is) all = subst (All (HasSide n)) (sym is) (by (noted_sides n xs zs rest (All-tail (HasSide n) x xs all)) b noted)
    where
      by : All (HasSide n) zs → (b : Bool) → IsNoted side corners h x b y → All (HasSide n) (cond b (y ∷ zs) zs)
      by later true noted = All-cons (HasSide n) y zs (ap (λ (g : LabelledGround). g.side) (noted.same_labelled refl) ∙ All-head (HasSide n) x xs all) later
      by later false noted = later

  pub noted_blocks : (xs ys : List HeldLabelling) → AreNoted xs ys → count_by has_block ys ≤ count_by has_block xs
  noted_blocks [] ys is = omega (arith, ap (count_by has_block) is)
  noted_blocks (x ∷ xs) ys (b, y, noted, zs, rest, is) = subst (λ (ws : List HeldLabelling). count_by has_block ws ≤ count_by has_block (x ∷ xs)) (sym is) (by b (noted_blocks xs zs rest))
    where
      weight : HeldLabelling → ℕ
      weight h = cond (has_block h) 1 0

      by : (b : Bool) → count_by has_block zs ≤ count_by has_block xs → count_by has_block (cond b (y ∷ zs) zs) ≤ count_by has_block (x ∷ xs)
      by true later =
          let same : weight y ≡ weight x = ap (λ v. cond v 1 0) noted.same_block in
          omega (arith, sum_by-cons weight y zs, sum_by-cons weight x xs)
      by false later = omega (arith, sum_by-cons weight x xs)
