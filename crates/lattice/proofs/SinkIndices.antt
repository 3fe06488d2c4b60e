-- The sinks in a tile, by their indices.
use Rattle.lattice.proofs.Prelude.{Bool, Corner, IsMosaic, IsTrue, List, Mosaic, Point, ℕ, ℤ, [], add-one, ap, append_assoc, ap₂, arith, cond, cond-false, cond-true, drop, drop-cons, eq-eqb, eqb-true, false, false_from_ne_true, false≢true, filter, get_or, holds, index_of, is_corner, length, list_any, map, nat_eq, point_of, refl, same_point, sinks_in, sym, true, ◌*◌, ◌++◌, ◌+◌, ◌<◌, ◌||◌, ◌∙◌, ◌∷◌, ◌≡◌, ◌≤◌}
use Rattle.lattice.specs.Block.{AreHeightsOf, IsBlockOf}
use Rattle.lattice.proofs.BoolTests.{same_tests}
use Rattle.lattice.proofs.SamePoints.{same_point_says, same_point_from}
use Rattle.lattice.proofs.Samples.{holds_is, point_of_held, point_of_index, index_of_point_is}

module _ (n : ℕ) (c : Corner) (e : ℕ) (side : 3 ≤ n) (corner : IsTrue (is_corner c)) (small : e < n * n) where
  here : IsTrue (holds n c (point_of n c e))
  here = (holds_is n c (point_of n c e) side corner).1 (point_of_held n c e (omega arith) corner small)

  same_index : (s : Point) → holds n c s ≡ true → nat_eq (index_of n c s) e ≡ same_point s (point_of n c e)
  same_index s held = same_tests (nat_eq (index_of n c s) e) (same_point s (point_of n c e))
      (λ same. same_point_from s (point_of n c e)
      (sym (point_of_index n c s ((holds_is n c s side corner).0 held)) ∙ ap (point_of n c) (eqb-true (index_of n c s) e same)))
      (λ same. eq-eqb (index_of n c s) e
      (ap (index_of n c) (same_point_says s (point_of n c e) same) ∙ index_of_point_is n c e (omega arith) corner small))

  elsewhere : (s : Point) → holds n c s ≡ false → same_point s (point_of n c e) ≡ false
  elsewhere s out = false_from_ne_true (same_point s (point_of n c e)) (λ same.
      false≢true (sym out ∙ ap (holds n c) (same_point_says s (point_of n c e) same) ∙ here))

  pub sinks_by_index : (sinks : List Point) → list_any (λ i. nat_eq i e) (sinks_in n c sinks) ≡ list_any (λ s. same_point s (point_of n c e)) sinks
  sinks_by_index [] = refl
  sinks_by_index (s ∷ rest) = by (holds n c s) refl (sinks_by_index rest)
    where
      kept : List Point
      kept = filter (holds n c) rest

      later : Bool
      later = list_any (λ s. same_point s (point_of n c e)) rest

      by : (b : Bool) → holds n c s ≡ b → list_any (λ i. nat_eq i e) (map (index_of n c) kept) ≡ later
          → list_any (λ i. nat_eq i e) (map (index_of n c) (cond b (s ∷ kept) kept)) ≡ (same_point s (point_of n c e) || later)
      by true held as_later = ap₂ ◌||◌ (same_index s held) as_later
      by false out as_later = as_later ∙ ap (λ b. b || later) (sym (elsewhere s out))

pub block_from : (m : Mosaic) (c : Corner) (heights : List ℤ) → IsMosaic m → IsTrue (is_corner c) → AreHeightsOf m c heights →
    IsBlockOf m c (record { side = m.side; heights = heights; sinks = sinks_in m.side c m.sinks })
block_from m c heights valid corner are = record {
  side = refl;
  heights = are;
  sinks = λ e small. sinks_by_index m.side c e valid.side_low corner small m.sinks;
}

-- ---- one pass of the loop that gathers the indices
module _ (n : ℕ) (c : Corner) (sinks : List Point) (i : ℕ) (d : Point) (found whole : List ℕ) (within : i < length sinks)
    (so_far : found ++ sinks_in n c (drop i sinks) ≡ whole) where
  turn : drop i sinks ≡ get_or sinks i d ∷ drop (i + 1) sinks
  turn = rw (add-one, drop-cons sinks i d) refl

  pub index_found : (index : ℕ) → holds n c (get_or sinks i d) ≡ true → index_of n c (get_or sinks i d) ≡ index → (found ++ index ∷ []) ++ sinks_in n c (drop (i + 1) sinks) ≡ whole
  index_found index held is =
      let here = get_or sinks i d in
      let rest = filter (holds n c) (drop (i + 1) sinks) in
      let more : sinks_in n c (drop i sinks) ≡ index_of n c here ∷ map (index_of n c) rest =
      ap (sinks_in n c) turn ∙ ap (map (index_of n c)) (cond-true (holds n c here) (here ∷ rest) rest held) in
      append_assoc found (index ∷ []) (sinks_in n c (drop (i + 1) sinks))
      ∙ ap (λ k. found ++ k ∷ sinks_in n c (drop (i + 1) sinks)) (sym is)
      ∙ ap (λ (l : List ℕ). found ++ l) (sym more)
      ∙ so_far

  pub none_found : holds n c (get_or sinks i d) ≡ false → found ++ sinks_in n c (drop (i + 1) sinks) ≡ whole
  none_found out =
      let here = get_or sinks i d in
      let rest = filter (holds n c) (drop (i + 1) sinks) in
      let more : sinks_in n c (drop i sinks) ≡ sinks_in n c (drop (i + 1) sinks) =
      ap (sinks_in n c) turn ∙ ap (map (index_of n c)) (cond-false (holds n c here) (here ∷ rest) rest out) in
      ap (λ (l : List ℕ). found ++ l) (sym more) ∙ so_far
