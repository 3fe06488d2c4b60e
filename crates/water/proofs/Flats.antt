-- Flat distances with a border, for any terrain with any levels. A part knows, for each point of the ring around its own
-- points, its flat distance in the whole. Then the part has the right flat distances at its own points.
use Rattle.std.proofs.Common.{Bool, IsFalse, IsTrue, List, ℕ, zero, suc, ℤ, ap, arith, inl, inr, refl, subst, sym, ◌∙◌, ◌≡◌, ◌≤◌, ◌<ℤ◌, ◌⊎◌}
use Rattle.std.proofs.lemmas.Bool.{cases_Bool}
use Rattle.lattice.specs.declared.point.Point.{Point}
use Rattle.lattice.specs.Terrain.{Terrain, IsLawful}
use Rattle.water.specs.Drainage.{CrossesFlat, HasLower, IsFlatDistance}
use Rattle.water.specs.Parts.{IsBordered, CrossesWithin}

module _ (b t : Terrain Point) (at : Point → Point) (ring : Point → Bool) (border : IsBordered b t at ring) (law_b : IsLawful b)
    (level : Point → ℤ) (distance : Point → ℕ) (told : (x : Point) → IsTrue (b.is_ground x) → IsTrue (ring x) → IsFlatDistance t level (at x) (distance x)) where
  -- the levels of the part's points
  abbrev own : Point → ℤ
  own x = level (at x)

  abbrev CrossesIn : Point → ℕ → Type 0
  CrossesIn x k = CrossesWithin b ring own distance x k

  abbrev IsEnd : Terrain Point → (Point → ℤ) → Point → Type 0
  IsEnd u levels x = HasLower u levels x ⊎ IsTrue (u.is_outlet x)

  -- a point off the ring drains out of its flat in the part exactly if it does in the whole
  end_on : (x : Point) → IsTrue (b.is_ground x) → IsFalse (ring x) → IsEnd b own x → IsEnd t level (at x)
  end_on x solid off (inl lower) = inl (at lower.0, record { beside = border.onto x lower.0 lower.1.beside; below = lower.1.below })
  end_on x solid off (inr out) = inr (sym (border.outlets x solid off) ∙ out)

  end_in : (x : Point) → IsTrue (b.is_ground x) → IsFalse (ring x) → IsEnd t level (at x) → IsEnd b own x
  end_in x solid off (inl lower) =
      let y = border.inner x lower.0 solid off lower.1.beside in
      inl (y.0, record { beside = y.1.0; below = subst (λ q. level q <ℤ level (at x)) (sym y.1.1) lower.1.below })
  end_in x solid off (inr out) = inr (border.outlets x solid off ∙ out)

  on_ring : (x : Point) (k : ℕ) → IsTrue (ring x) → distance x ≡ k → CrossesIn x k
  on_ring x zero on is = inl (on, is)
  on_ring x (suc k) on is = inl (on, is)

  -- a path across a flat of the whole gives one in the part that is no longer
  pub cross_in : (x : Point) (k : ℕ) → IsTrue (b.is_ground x) → CrossesFlat t level (at x) k → (j : ℕ) × (CrossesIn x j × (j ≤ k))
  cross_in x zero solid crosses = elim (cases_Bool (ring x)) [
    | inl on ↦ (distance x, (on_ring x (distance x) on refl, (told x solid on).least 0 crosses))
    | inr off ↦ (0, (inr (off, end_in x solid off crosses), omega arith))
  ]
  cross_in x (suc k) solid crosses = elim (cases_Bool (ring x)) [
    | inl on ↦ (distance x, (on_ring x (distance x) on refl, (told x solid on).least (suc k) crosses))
    | inr off ↦
        let y = border.inner x crosses.0 solid off crosses.1.0 in
        let same : own y.0 ≡ own x = ap level y.1.1 ∙ crosses.1.1 in
        let further = cross_in y.0 k (law_b.to_ground x y.0 y.1.0) (subst (λ q. CrossesFlat t level q k) (sym y.1.1) crosses.1.2) in
        let less : further.0 ≤ k = further.1.1 in
        (suc further.0, (inr (off, (y.0, (y.1.0, same, further.1.0))), omega arith))
  ]

  -- a path across a flat in the part gives one in the whole
  pub cross_on : (x : Point) (k : ℕ) → IsTrue (b.is_ground x) → CrossesIn x k → CrossesFlat t level (at x) k
  cross_on x zero solid (inl on) = subst (CrossesFlat t level (at x)) on.1 (told x solid on.0).crosses
  cross_on x zero solid (inr off) = end_on x solid off.0 off.1
  cross_on x (suc k) solid (inl on) = subst (CrossesFlat t level (at x)) on.1 (told x solid on.0).crosses
  cross_on x (suc k) solid (inr off) = let y = off.1 in
      (at y.0, (border.onto x y.0 y.1.0, y.1.1, cross_on y.0 k (law_b.to_ground x y.0 y.1.0) y.1.2))

  -- the least distance in the part is the flat distance in the whole
  pub distance_by_border : (x : Point) (k : ℕ) → IsTrue (b.is_ground x) → CrossesIn x k → ((j : ℕ) → CrossesIn x j → k ≤ j) → IsFlatDistance t level (at x) k
  distance_by_border x k solid crosses least = record {
    crosses = cross_on x k solid crosses;
    least = λ j whole. let within = cross_in x j solid whole in let low = least within.0 within.1.0 in let less : within.0 ≤ j = within.1.1 in omega arith;
  }
