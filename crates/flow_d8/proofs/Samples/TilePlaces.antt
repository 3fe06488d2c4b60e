-- Samples of several tiles: the first sample of a point, and steps between samples.
use Rattle.flow_d8.proofs.Prelude.{AreLaid, Corner, Dir, Holds, IsBack, IsIndexOf, IsTrue, List, Point, ℕ, [], ap, arith, back_of, cases_Bool, drop, false, fits_point, get_or, index_is, index_of, length, refl, step, subst, suc, sym, zero, ⊎_elim, ◌*◌, ◌+◌, ◌<◌, ◌∙◌, ◌∷◌, ◌≡◌, ◌≤◌}
use Rattle.std.proofs.Math.Seq.{drop-cons}
use Rattle.std.proofs.lemmas.List.{length-drop}
use Rattle.flow_d8.specs.Filled.{is_holder, is_held, number_of}
use Rattle.water.proofs.Fitting.{held_fits}
use Rattle.flow_d8.proofs.Samples.Numbers.{number-here, number-later, number-none, number_past, holds_holder, holder_holds, seat_of, point_at_number}
use Rattle.water.proofs.StepBack.{step_back}
use Rattle.flow_d8.specs.Tiles.{Tiles, AreTiles, count_of, no_corner, place_of, by_of, IsFirst}

module _ (n : ℕ) (side : 3 ≤ n) (corners : List Corner) (p : Point) (i : ℕ) (passed : number_of n corners p ≡ i * (n * n) + number_of n (drop i corners) p) where
  pub passed_on : i < length corners → (Holds n (get_or corners i no_corner) p → ⊥) → number_of n corners p ≡ (i + 1) * (n * n) + number_of n (drop (i + 1) corners) p
  passed_on small off =
      let c = get_or corners i no_corner in
      let rest = drop (suc i) corners in
      let cons : number_of n (drop i corners) p ≡ number_of n (c ∷ rest) p = ap (λ l. number_of n l p) (drop-cons corners i no_corner small) in
      let not : is_holder n c p ≡ false = ⊎_elim (λ on. absurd (off (holder_holds n c p side on))) (λ no. no) (cases_Bool (is_holder n c p)) in
      let later : number_of n (c ∷ rest) p ≡ n * n + number_of n rest p = number-later n c rest p not in
      let same : number_of n rest p ≡ number_of n (drop (i + 1) corners) p = ap (λ k. number_of n (drop k corners) p) (one_more i) in
      omega (arith, passed, cons, later, same, rows i (n * n))
    where
      one_more : (k : ℕ) → suc k ≡ k + 1
      one_more k = omega arith

      rows : (k a : ℕ) → (k + 1) * a ≡ k * a + a
      rows k a = omega arith

  pub found_at : i < length corners → (e : ℕ) → IsIndexOf n (get_or corners i no_corner) p e → number_of n corners p ≡ i * (n * n) + e
  found_at small e at =
      let c = get_or corners i no_corner in
      let rest = drop (suc i) corners in
      let cons : number_of n (drop i corners) p ≡ number_of n (c ∷ rest) p = ap (λ l. number_of n l p) (drop-cons corners i no_corner small) in
      let holds : Holds n c p = record { corner = at.corner; sample = (at.sample.0, at.sample.1, at.sample.2.0) } in
      let here : number_of n (c ∷ rest) p ≡ index_of n c p = number-here n c rest p (holds_holder n c p side holds) in
      let index : index_of n c p ≡ e = index_is n c p e at in
      omega (arith, passed, cons, here, index)

  pub none_at : length corners ≤ i → i ≤ length corners → number_of n corners p ≡ length corners * (n * n)
  none_at all within =
      let last : i ≡ length corners = omega arith in
      let empty : drop i corners ≡ [] = nothing (drop i corners) (omega (arith, length-drop i corners)) in
      passed ∙ ap (λ l. i * (n * n) + number_of n l p) empty ∙ ap (λ k. i * (n * n) + k) (number-none n p) ∙ ap (λ k. k * (n * n) + 0) last ∙ omega arith
    where
      nothing : (l : List Corner) → length l ≡ 0 → l ≡ []
      nothing [] h = refl
      nothing (x ∷ rest) h = absurd (omega arith)

module _ (t : Tiles) (valid : AreTiles t) where
  abbrev number : Point → ℕ
  number p = number_of t.side t.corners p

  held_if : (p : Point) → number p < count_of t → IsTrue (is_held t.side t.corners p)
  held_if p small = ⊎_elim (λ on. on) (λ off. absurd (omega (arith, number_past t.side t.corners p off))) (cases_Bool (is_held t.side t.corners p))

  pub unfit_past : (p : Point) → (IsTrue (fits_point p) → ⊥) → count_of t ≡ number p
  unfit_past p unfit = ⊎_elim
      (λ on. let seat = seat_of t.side t.corners p on in absurd (unfit (held_fits t.side seat.corner p valid.side_low valid.side_high seat.held)))
      (λ off. sym (number_past t.side t.corners p off))
      (cases_Bool (is_held t.side t.corners p))

  pub place_number : (p : Point) → number p < count_of t → place_of t (number p) ≡ p
  unfolding place_of
  place_number p small = point_at_number t.side t.corners p (number p) no_corner valid.side_low (held_if p small) refl

  pub by_is : (k : ℕ) (d : Dir) → by_of t k d ≡ number (step d (place_of t k))
  unfolding by_of
  by_is k d = refl

  pub laid : AreLaid (by_of t) (count_of t) (place_of t)
  laid k d small within =
      let to = step d (place_of t k) in
      ap (place_of t) (by_is k d) ∙ place_number to (subst (λ n. n < count_of t) (by_is k d) within)

  pub first_number : (p : Point) → number p < count_of t → IsFirst t (number p)
  first_number p small = ap number (place_number p small)

  pub back : (p : Point) → number p < count_of t → IsBack (by_of t) (count_of t) (number p)
  back p small d within =
      let r = number p in
      let from : place_of t r ≡ p = place_number p small in
      let there : place_of t (by_of t r d) ≡ step d p = laid r d small within ∙ ap (step d) from in
      by_is (by_of t r d) (back_of d) ∙ ap (λ q. number (step (back_of d) q)) there ∙ ap number (step_back d p)

pub square_some : (n : ℕ) → 3 ≤ n → 0 < n * n
square_some zero low = absurd (omega arith)
square_some (suc m) low = omega arith
