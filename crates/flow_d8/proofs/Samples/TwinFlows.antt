-- The samples of one point in several tiles.
use Rattle.std.proofs.Common.{rules}
use Rattle.flow_d8.proofs.Prelude.{Beside, Corner, Flat, FlatTo, Flow, Holds, IsIndexOf, IsOfFlat, IsTold, IsTrue, List, MatchOption, None, Option, Point, Some, Tells, Unknown, ℕ, ap, ap₂, arith, cases_eq, div-mul-add, get_or, get_or-set_other, get_or-set_same, index_of, inl, inr, is_corner, length, length-set, mod-mul-add, mul-le-mul_right, point_of, refl, set, slice_index_or, subst, suc, sym, ◌%◌, ◌*◌, ◌+◌, ◌/◌, ◌<◌, ◌∙◌, ◌≡◌, ◌≤◌, ◌⊎◌}
use Rattle.lattice.proofs.Samples.{index_is, index_below, point_of_held, index_of_point_is, point_at_index}
use Rattle.flow_d8.proofs.Samples.Inside.{tile_and_index}
use Rattle.flow_d8.specs.Tiles.{Tiles, AreTiles, no_corner, place_of, IsInTile, IsSampleOf}
use Rattle.flow_d8.proofs.Samples.TilePlaces.{square_some}

pub told_is_flat : (f : Flow) → IsTold f → IsOfFlat f
told_is_flat (Beside d) is = tt
told_is_flat (FlatTo d) is = tt
told_is_flat _ is = absurd is

pub decide_flat : (f : Flow) → IsOfFlat f ⊎ (IsOfFlat f → ⊥)
decide_flat (Beside d) = inl tt
decide_flat Flat = inl tt
decide_flat (FlatTo d) = inl tt
decide_flat _ = inr (λ is. is)

module _ (t : Tiles) (valid : AreTiles t) (tile : ℕ) (small : tile < length t.corners) (p : Point) where
  abbrev n : ℕ
  n = t.side

  abbrev area : ℕ
  area = n * n

  abbrev c : Corner
  c = get_or t.corners tile no_corner

  abbrev Said : Option ℕ → Type 0
  Said result = MatchOption result ((e : ℕ) → IsInTile t tile e → IsSampleOf t p e → ⊥) (λ k. IsSampleOf t p k × ((e : ℕ) → IsInTile t tile e → IsSampleOf t p e → e ≡ k))

  place_is : (k : ℕ) → place_of t k ≡ point_of n (get_or t.corners (k / area) no_corner) (k % area)
  unfolding place_of
  place_is k = refl

  -- a sample of the tile, by its index
  in_tile : (e : ℕ) → IsInTile t tile e → IsSampleOf t p e → point_of n c (e % area) ≡ p
  in_tile e is sample = ap (λ k. point_of n (get_or t.corners k no_corner) (e % area)) (sym is) ∙ sym (place_is e) ∙ sample.here

  index_small : (e : ℕ) → e % area < area
  index_small e = let some = square_some n valid.side_low in omega arith

  some_n : 0 < n
  some_n = omega (arith, valid.side_low)

  pub sample_told : (result : Option ℕ) → IsTrue (is_corner c) → MatchOption result (Holds n c p → ⊥) (λ k. (e : ℕ) × (IsIndexOf n c p e × (k ≡ tile * area + e))) → Said result
  sample_told None corner none = λ e is sample. none (subst (Holds n c) (in_tile e is sample) (point_of_held n c (e % area) some_n corner (index_small e)))
  sample_told (Some k) corner found =
      let index = found.0 in
      let at = found.1.0 in
      let below : index < area = index_below n c p index at in
      let tile_is : k / area ≡ tile = ap (λ v. v / area) found.1.1 ∙ div-mul-add tile area index below in
      let index_at : k % area ≡ index = ap (λ v. v % area) found.1.1 ∙ mod-mul-add tile area index below in
      let whole : suc tile * area ≤ length t.corners * area = mul-le-mul_right area (omega arith) in (
        record {
          small = omega (arith, whole, found.1.1, below, one_more tile area);
          here = place_is k ∙ ap₂ (λ i e. point_of n (get_or t.corners i no_corner) e) tile_is index_at ∙ point_at_index n c p index at;
        },
        λ e is sample.
            let same : e % area ≡ index = sym (index_of_point_is n c (e % area) some_n corner (index_small e)) ∙ ap (index_of n c) (in_tile e is sample) ∙ index_is n c p index at in
            sym (tile_and_index area e) ∙ ap₂ (λ i j. i * area + j) is same ∙ sym found.1.1,
      )
    where
      one_more : (k a : ℕ) → suc k * a ≡ a + k * a
      one_more k a = omega arith

-- setting the flow of one sample inside a flat
pub told_one : (flows : List Flow) (e : ℕ) (flow : Flow) → e < length flows → IsTold flow → IsOfFlat (slice_index_or flows e Unknown) → Tells flows (set flows e flow)
told_one flows e flow small told flat = record {
  whole = length-set flows e flow;
  kept = λ k not. other k (λ same. not (subst (λ m. IsOfFlat (slice_index_or flows m Unknown)) (sym same) flat));
  flat = λ k is. elim (cases_eq k e) [ inl same ↦ subst IsOfFlat (sym (here k same)) (told_is_flat flow told) | inr apart ↦ subst IsOfFlat (sym (other k apart)) is ];
  told = λ k is. elim (cases_eq k e) [ inl same ↦ subst IsTold (sym (here k same)) told | inr apart ↦ subst IsTold (sym (other k apart)) is ];
}
  where
    here : (k : ℕ) → k ≡ e → slice_index_or (set flows e flow) k Unknown ≡ flow
    here k same = ap (λ m. slice_index_or (set flows e flow) m Unknown) same ∙ get_or-set_same flows e flow Unknown small

    other : (k : ℕ) → (k ≡ e → ⊥) → slice_index_or (set flows e flow) k Unknown ≡ slice_index_or flows k Unknown
    other k apart = get_or-set_other flows e k flow Unknown apart

pub tells_same : (a : List Flow) → Tells a a
tells_same a = record { whole = refl; kept = λ e not. refl; flat = λ e is. is; told = λ e is. is }

pub tells_on : (a b c : List Flow) → Tells a b → Tells b c → Tells a c
tells_on a b c first then = search rules
