-- A page whose void points are filled.
use Rattle.std.proofs.Common.{rules}
use Rattle.std.proofs.Common.{◌≡◌, ◌≢◌, ◌⊎◌, inl, inr, ℕ, ◌+◌, ◌*◌, ◌<◌, ◌≤◌, ℤ, pos, negsuc, Bool, true, false, cond, not, List, length, get_or, set, Contains, nat_eq, refl, sym, ap, ap₂, ◌∙◌, subst, arith, ◌&&◌, ◌||◌, nat_lt, FitsSigned}
use Rattle.std.proofs.lemmas.Int.{to_z-of_z, ints}
use mir.Syntax.{w16}
use mir.Val.{to_z, of_z}
use Rattle.stored_mosaic.proofs.Prelude.{All-contains, Corner, Decides-int_eq, IsMosaic, IsPage, IsSample, IsTile, Mosaic, Patch, Point, RimVoids, Tile, and-false, eqb-false, eqb-true, get_or-set_other, get_or-set_same, get_or_default, high_byte, is_in_box, is_void, is_void_at, length-set, low_byte, lt-ltb, point_of, sample_of, void}
use Rattle.hgt.proofs.Words.{sample_of_bytes}
use Rattle.lattice.specs.Block.{is_rim, rim_number}
use Rattle.stored_mosaic.specs.Underway.{page_sample, filled, is_void_by_rim, is_due, AreRimVoids, IsEdited, IsPageOf}
use Rattle.stored_mosaic.proofs.Pages.{with_bytes, page_with_bytes}
use Rattle.stored_mosaic.proofs.Edits.VoidPoints.{own_ground, inner_void}

-- ---- A sample stays the same when the code passes it.

sample_fits : (s : ℤ) → IsSample s → FitsSigned w16 s
sample_fits (pos n) is = record { sfits = omega (arith, ints, is.1) }
sample_fits (negsuc n) is = record { sfits = omega (arith, ints, is.0) }

pub sample_passed : (s : ℤ) → IsSample s → to_z w16 (of_z w16 s) ≡ s
sample_passed s is = to_z-of_z w16 s (sample_fits s is)

-- ---- a sample put into a page

module _ (page : List ℕ) (j : ℕ) (s : ℤ) where
  pub sample_put : length page ≡ 4096 → j < 2048 → IsSample s → page_sample (with_bytes j s page) j ≡ s
  sample_put whole below is =
      let once : List ℕ = set page (2 * j) (high_byte s) in
      ap₂ sample_of
      (get_or-set_other once (2 * j + 1) (2 * j) (low_byte s) 0 (λ e. omega (arith, e)) ∙ get_or-set_same page (2 * j) (high_byte s) 0 (omega (arith, whole, below)))
      (get_or-set_same once (2 * j + 1) (low_byte s) 0 (omega (arith, whole, below, length-set page (2 * j) (high_byte s))))
      ∙ sample_of_bytes s is

  pub sample_beside : (k : ℕ) → k ≢ j → page_sample (with_bytes j s page) k ≡ page_sample page k
  sample_beside k other = search rules

-- ---- which samples are filled

and_twice : (a b : Bool) → (a && (a && b)) ≡ (a && b)
and_twice true b = refl
and_twice false b = refl

either_way : (x : Bool) (h s : ℤ) → s ≡ h → cond x h s ≡ h
either_way true h s is = refl
either_way false h s is = is

module _ (n : ℕ) (m : Mosaic) (patch : Patch) (rim : RimVoids) (valid : IsMosaic m) (side : m.side ≡ n) (known : AreRimVoids m patch rim)
    (t : Tile) (there : Contains m.tiles t) (corner : t.corner ≡ rim.corner) (e : ℕ) (inside : e < n * n) where
  abbrev p : Point
  p = point_of n rim.corner e

  abbrev own : ℤ
  own = get_or t.samples e (pos 0)

  abbrev in_box : Bool
  in_box = is_in_box patch.from patch.to p

  within : e < m.side * m.side
  within = subst (λ (k : ℕ). e < k * k) (sym side) inside

  own_is : get_or t.samples e void ≡ own
  own_is = let long = (All-contains (IsTile m.side) m.tiles t valid.tiles there).whole in get_or_default t.samples e void (pos 0) (omega (arith, within, long))

  point_is : point_of m.side t.corner e ≡ p
  point_is = ap₂ (λ (k : ℕ) (c : Corner). point_of k c e) side corner

  in_box_is : (b : Bool) → is_rim n e ≡ b → own ≡ void → (in_box && is_void_by_rim n rim e) ≡ (in_box && is_void_at m p)
  in_box_is true on is =
      ap (λ b. in_box && b)
      (ap (λ b. not b || get_or rim.voids.items (rim_number n e) false) on
      ∙ ap (λ (k : ℕ). get_or rim.voids.items (rim_number k e) false) (sym side)
      ∙ known.each e within (ap (λ (k : ℕ). is_rim k e) side ∙ on)
      ∙ ap (λ (k : ℕ). is_in_box patch.from patch.to (point_of k rim.corner e) && is_void_at m (point_of k rim.corner e)) side)
      ∙ and_twice in_box (is_void_at m p)
  in_box_is false off is =
      ap (λ b. in_box && b)
      (ap (λ b. not b || get_or rim.voids.items (rim_number n e) false) off
      ∙ sym (ap (is_void_at m) (sym point_is) ∙ inner_void m valid t there e within (ap (λ (k : ℕ). is_rim k e) side ∙ off) (own_is ∙ is)))

  abbrev made : ℤ → ℤ
  made s = cond (is_due n rim patch e s) patch.height s

  less : nat_lt e (n * n) ≡ true
  less = lt-ltb e (n * n) inside

  own_made : (s : ℤ) (b : Bool) → is_void s ≡ b → own ≡ s → made s ≡ filled m patch p s
  own_made s true is same =
      let s_void : s ≡ void = (Decides-int_eq s void).0 is in
      ap₂ (λ (v l : Bool). cond ((v && l) && (in_box && is_void_by_rim n rim e)) patch.height s) is less
      ∙ ap (λ b. cond b patch.height s) (in_box_is (is_rim n e) refl (same ∙ s_void))
  own_made s false is same =
      let ground : is_void_at m p ≡ false =
      ap (is_void_at m) (sym point_is) ∙ own_ground m valid t there e within (λ v. let e : true ≡ false = sym ((Decides-int_eq s void).1 (sym same ∙ sym own_is ∙ v)) ∙ is in cc) in
      ap (λ v. cond ((v && nat_lt e (n * n)) && (in_box && is_void_by_rim n rim e)) patch.height s) is
      ∙ sym (ap (λ b. cond (in_box && b) patch.height s) ground ∙ ap (λ b. cond b patch.height s) (and-false in_box))

  pub due_fills : (s : ℤ) → (s ≡ own) ⊎ (s ≡ filled m patch p own) → made s ≡ filled m patch p s
  due_fills s (inl same) = own_made s (is_void s) refl (sym same)
  due_fills s (inr is) = by (in_box && is_void_at m p) refl
    where
      by : (b : Bool) → (in_box && is_void_at m p) ≡ b → made s ≡ filled m patch p s
      by true fills =
          let s_is : s ≡ patch.height = is ∙ ap (λ b. cond b patch.height own) fills in
          either_way (is_due n rim patch e s) patch.height s s_is ∙ sym (ap (λ b. cond b patch.height s) fills)
      by false leaves = own_made s (is_void s) refl (sym (is ∙ ap (λ b. cond b patch.height own) leaves))

-- ---- the samples of a page, one after another

pub record IsFilledTo (n : ℕ) (rim : RimVoids) (patch : Patch) (i at : ℕ) (was now : List ℕ) : Type 0 where
  pub page : IsPage was → IsPage now
  pub done : (j : ℕ) → j < at → page_sample now j ≡ cond (is_due n rim patch (2048 * i + j) (page_sample was j)) patch.height (page_sample was j)
  pub left : (j : ℕ) → at ≤ j → page_sample now j ≡ page_sample was j

module _ (n : ℕ) (rim : RimVoids) (patch : Patch) (i : ℕ) (was : List ℕ) where
  module _ (at : ℕ) (now : List ℕ) (so : IsFilledTo n rim patch i at was now) where
    one_more : (next : List ℕ) → (IsPage now → IsPage next) → page_sample next at ≡ cond (is_due n rim patch (2048 * i + at) (page_sample was at)) patch.height (page_sample was at)
        → ((j : ℕ) → j ≢ at → page_sample next j ≡ page_sample now j) → IsFilledTo n rim patch i (at + 1) was next
    one_more next page here beside = record {
      page = λ is. page (so.page is);
      done = λ j below. by j below (nat_eq j at) refl;
      left = λ j from. beside j (λ e. omega (arith, e, from)) ∙ so.left j (omega (arith, from));
    }
      where
        by : (j : ℕ) → j < at + 1 → (b : Bool) → nat_eq j at ≡ b → page_sample next j ≡ cond (is_due n rim patch (2048 * i + j) (page_sample was j)) patch.height (page_sample was j)
        by j below true is =
            subst (λ (k : ℕ). page_sample next k ≡ cond (is_due n rim patch (2048 * i + k) (page_sample was k)) patch.height (page_sample was k)) (sym (eqb-true j at is)) here
        by j below false other =
            let apart = eqb-false j at other in
            beside j apart ∙ so.done j (omega (arith, below, apart))

    own_sample : page_sample now at ≡ page_sample was at
    own_sample = so.left at (omega arith)

    pub filled_more : length now ≡ 4096 → at < 2048 → IsSample patch.height → is_due n rim patch (2048 * i + at) (page_sample now at) ≡ true → IsFilledTo n rim patch i (at + 1) was (with_bytes at patch.height now)
    filled_more whole below sample due =
        one_more (with_bytes at patch.height now) (page_with_bytes at patch.height now)
        (sample_put now at patch.height whole below sample
        ∙ sym (ap (λ b. cond b patch.height (page_sample was at)) (ap (is_due n rim patch (2048 * i + at)) (sym own_sample) ∙ due)))
        (sample_beside now at patch.height)

    pub filled_same : is_due n rim patch (2048 * i + at) (page_sample now at) ≡ false → IsFilledTo n rim patch i (at + 1) was now
    filled_same due =
        one_more now (λ is. is) (own_sample ∙ sym (ap (λ b. cond b patch.height (page_sample was at)) (ap (is_due n rim patch (2048 * i + at)) (sym own_sample) ∙ due))) (λ j apart. refl)

  pub page_filled : (now : List ℕ) (m : Mosaic) → IsMosaic m → m.side ≡ n → AreRimVoids m patch rim → IsPageOf n (filled m patch) m rim.corner i was → IsFilledTo n rim patch i 2048 was now
      → IsEdited n (filled m patch) rim.corner i was now
  page_filled now m valid side known of so = record {
    page = so.page;
    samples = λ j below inside. so.done j below ∙ due_fills n m patch rim valid side known of.tile of.there of.corner (2048 * i + j) inside (page_sample was j) (of.samples j below inside);
  }
