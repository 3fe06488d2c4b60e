-- The known counts of a tile's samples as counts are added.
use Rattle.std.proofs.Common.{◌≡◌, ◌⊎◌, ◌*◌, ℕ, ℤ, length, set, get_or, Contains, inl, inr, refl, sym, ap, ◌∙◌, subst, subst₂, arith, get_or-set_other, get_or-set_same}
use Rattle.watershed.proofs.Prelude.{get_or_default, AreCounted, AreStillCounted, IsCounted, Point, Terrain, cases_eq}
use Rattle.std.specs.Vec.{with_item}
use Rattle.watershed.specs.declared.tile_counts.TileCounts.{TileCounts}
use Rattle.lattice.specs.Lattice.{IsIndexOf, point_of}
use Rattle.lattice.proofs.Samples.{index_below, index_unique, point_at_index}

-- the count stored for a sample is the one that a reading returns
pub count_found : (k : TileCounts) (p : Point) (e i count : ℕ) → IsIndexOf k.side k.corner p e → IsIndexOf k.side k.corner p i → count ≡ get_or k.counts.items i count → count ≡ get_or k.counts.items e 0
count_found k p e i count at here is =
    let below = index_below k.side k.corner p i here in
    is ∙ sym (get_or_default k.counts.items i 0 count (omega (arith, below, k.whole))) ∙ ap (λ j. get_or k.counts.items j 0) (index_unique k.side k.corner p i e here at)

pub count_set : (k : TileCounts) (p : Point) (e i count : ℕ) → IsIndexOf k.side k.corner p e → IsIndexOf k.side k.corner p i → get_or (set k.counts.items i count) e 0 ≡ count
count_set k p e i count at here =
    let below = index_below k.side k.corner p i here in
    ap (λ j. get_or (set k.counts.items i count) j 0) (index_unique k.side k.corner p e i at here) ∙ get_or-set_same k.counts.items i count 0 (omega (arith, k.whole, below))

module _ (t : Terrain Point) (level : Point → ℤ) where
  -- a ground point's count isn't 0, since the point itself is counted
  pub counted_some : (p : Point) (k : ℕ) → IsCounted t level p k → k ≡ 0 → ⊥
  counted_some p k counted none =
      let itself : Contains counted.count.points p = (counted.count.all p).1 (record { on_ground = counted.on_ground; flows = (0, refl) }) in
      omega (arith, itself.1, counted.count.count)

  pub known_at : (k : TileCounts) (p : Point) (e count : ℕ) → IsIndexOf k.side k.corner p e → count ≡ get_or k.counts.items e count → AreCounted t level k → (count ≡ 0) ⊎ IsCounted t level p count
  known_at k p e count at is known =
      let below = index_below k.side k.corner p e at in
      subst₂ (λ q i. (i ≡ 0) ⊎ IsCounted t level q i) (point_at_index k.side k.corner p e at) (get_or_default k.counts.items e 0 count (omega (arith, below, k.whole)) ∙ sym is) (known e below)

  pub known_still : (k : TileCounts) → AreCounted t level k → AreStillCounted t level k k
  known_still k known = record { right = known; still = λ e none. none }

  pub still_on : (first then last : TileCounts) → AreStillCounted t level first then → AreStillCounted t level then last → AreStillCounted t level first last
  still_on first then last one other = record { right = other.right; still = λ e none. one.still e (other.still e none) }

  -- setting one more count keeps all counts right
  pub known_more : (k : TileCounts) (p : Point) (e count : ℕ) (whole : length (set k.counts.items e count) ≡ k.side * k.side) → IsIndexOf k.side k.corner p e → AreCounted t level k → IsCounted t level p count
      → AreStillCounted t level k (record k { counts = with_item k.counts e count; whole = whole })
  known_more k p e count whole at known counted =
      let same : get_or (set k.counts.items e count) e 0 ≡ count = get_or-set_same k.counts.items e count 0 (let below = index_below k.side k.corner p e at in omega (arith, k.whole, below)) in
      record {
        right = λ f below. elim (cases_eq f e) [
          | inl this ↦ inr (subst₂ (IsCounted t level) (sym (point_at_index k.side k.corner p e at) ∙ ap (point_of k.side k.corner) (sym this)) (sym (ap (λ i. get_or (set k.counts.items e count) i 0) this ∙ same)) counted)
          | inr other ↦ subst (λ i. (i ≡ 0) ⊎ IsCounted t level (point_of k.side k.corner f) i) (sym (get_or-set_other k.counts.items e f count 0 other)) (known f below)
        ];
        still = λ f none. elim (cases_eq f e) [
          | inl this ↦ absurd (counted_some p count counted (sym (ap (λ i. get_or (set k.counts.items e count) i 0) this ∙ same) ∙ none))
          | inr other ↦ sym (get_or-set_other k.counts.items e f count 0 other) ∙ none
        ];
      }
