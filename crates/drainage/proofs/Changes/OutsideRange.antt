-- When one height changes, levels outside the range between the two heights stay, and so do the flows of points with such
-- levels.
use Rattle.drainage.proofs.Prelude.{AreFilledLevels, At, Beside, DifferAt, Flat, FlatTo, Flow, IsFlow, IsTrue, LiesApart, Mosaic, NoGround, Outlet, Point, To, Unknown, ℤ, arith, cases_Bool, clamps, false, height_of, inl, inr, int_lt, int_max, int_min, ints, is_adjacent, is_ground, level_is_unique, step, subst, sym, terrain, terrain_is_lawful, true≢false, ◌<ℤ◌, ◌∙◌, ◌≡◌, ◌≤ℤ◌, ◌⊎◌}
use Rattle.flow_d8.proofs.Mosaics.Ordered.{AreInOrder, flow_too}
use Rattle.levels.proofs.Changes.SparedLevels.{ground_still, adjacent_still, outlet_still, filled_still}

-- ---- levels in the range and outside it

-- the level lies between the two heights, ends included
record IsWithin (was is level : ℤ) : Type 0 where
  pub low : int_min was is ≤ℤ level
  pub high : level ≤ℤ int_max was is

apart_or_within : (was is v : ℤ) → LiesApart was is v ⊎ IsWithin was is v
apart_or_within was is v = elim (cases_Bool (int_lt v (int_min was is))) [
  | inl low ↦ inl (inl (omega (arith, ints, clamps), omega (arith, ints, clamps)))
  | inr not_low ↦ elim (cases_Bool (int_lt (int_max was is) v)) [
    | inl high ↦ inl (inr (omega (arith, ints, clamps), omega (arith, ints, clamps)))
    | inr not_high ↦ inr (record { low = omega (arith, ints, clamps); high = omega (arith, ints, clamps) })
  ]
]

-- two levels in the range lie on the same side of a level outside it
same_side : (was is v y z : ℤ) → LiesApart was is v → IsWithin was is y → IsWithin was is z → y <ℤ v → z <ℤ v
same_side was is v y z (inl apart) from to below = let a = apart.0 in let b = apart.1 in let c = from.low in absurd (omega (arith, ints, clamps))
same_side was is v y z (inr apart) from to below = let a = apart.0 in let b = apart.1 in let c = to.high in omega (arith, ints, clamps)

turned : (was is v : ℤ) → LiesApart was is v → LiesApart is was v
turned was is v (inl below) = inl (below.1, below.0)
turned was is v (inr above) = inr (above.1, above.0)

differ_back : (m new : Mosaic) (p : Point) → DifferAt m new p → DifferAt new m p
differ_back m new p differ = record {
  around = record {
    same_side = sym differ.around.same_side;
    same_corners = sym differ.around.same_corners;
    heights = λ q out. sym (differ.around.heights q out);
    sinks = λ q out. sym (differ.around.sinks q out);
  };
  all_sinks = λ q. sym (differ.all_sinks q);
}

-- ---- the mosaic before the change and after it

module _ (m new : Mosaic) (p : Point) (differ : DifferAt m new p) (was is : ℤ) (before : height_of m p ≡ At was) (after : height_of new p ≡ At is)
    (level level' : Point → ℤ) (levels : AreFilledLevels (terrain m) level) (new_levels : AreFilledLevels (terrain new) level') where
  pub ground : (q : Point) → is_ground new q ≡ is_ground m q
  ground = ground_still m new p differ was is before after

  beside : (q r : Point) → is_adjacent new q r ≡ is_adjacent m q r
  beside = adjacent_still m new p differ.around ground

  there : (q r : Point) → IsTrue (is_adjacent m q r) → IsTrue (is_ground m r)
  there q r on = (terrain_is_lawful m).to_ground q r on

  -- an old level outside the range is the new level too
  pub stays : (q : Point) → IsTrue (is_ground m q) → LiesApart was is (level q) → level' q ≡ level q
  stays q on apart = level_is_unique (terrain new) q (level' q) (level q) (new_levels q (ground q ∙ on)) (filled_still m new p differ was is before after (level q) apart q (levels q on))

  -- a new level outside the range was the old level too
  stayed : (q : Point) → IsTrue (is_ground m q) → LiesApart was is (level' q) → level q ≡ level' q
  stayed q on apart = level_is_unique (terrain m) q (level q) (level' q) (levels q on)
      (filled_still new m p (differ_back m new p differ) is was after before (level' q) (turned was is (level' q) apart) q (new_levels q (ground q ∙ on)))

  -- a level below one outside the range is still below it afterwards
  below_still : (v : ℤ) (q : Point) → IsTrue (is_ground m q) → LiesApart was is v → level q <ℤ v → level' q <ℤ v
  below_still v q on apart below = elim (apart_or_within was is (level q)) [
    | inl out ↦ subst (λ w. w <ℤ v) (sym (stays q on out)) below
    | inr from ↦ elim (apart_or_within was is (level' q)) [
      | inl out ↦ subst (λ w. w <ℤ v) (stayed q on out) below
      | inr to ↦ same_side was is v (level q) (level' q) apart from to below
    ]
  ]

  below_before : (v : ℤ) (q : Point) → IsTrue (is_ground m q) → LiesApart was is v → level' q <ℤ v → level q <ℤ v
  below_before v q on apart below = elim (apart_or_within was is (level' q)) [
    | inl out ↦ subst (λ w. w <ℤ v) (sym (stayed q on out)) below
    | inr from ↦ elim (apart_or_within was is (level q)) [
      | inl out ↦ subst (λ w. w <ℤ v) (stays q on out) below
      | inr to ↦ same_side was is v (level' q) (level q) apart from to below
    ]
  ]

  -- a ground point whose level lies outside the range
  record IsOutside (q : Point) : Type 0 where
    pub on : IsTrue (is_ground m q)
    pub apart : LiesApart was is (level q)

  in_order : AreInOrder IsOutside (terrain m) (terrain new) level level'
  in_order = record {
    outlet = λ q out. sym (outlet_still m new p differ ground q);
    lower = λ q r out low. record {
      beside = beside q r ∙ low.beside;
      below = subst (λ v. level' r <ℤ v) (sym (stays q out.on out.apart)) (below_still (level q) r (there q r low.beside) out.apart low.below);
    };
    higher = λ q r out low.
        let near : IsTrue (is_adjacent m q r) = sym (beside q r) ∙ low.beside in
        record { beside = near; below = below_before (level q) r (there q r near) out.apart (subst (λ v. level' r <ℤ v) (stays q out.on out.apart) low.below) };
    across = λ q r out over.
        let apart : LiesApart was is (level r) = subst (LiesApart was is) (sym over.same_level) out.apart in (
          record { beside = beside q r ∙ over.beside; same_level = stays r (there q r over.beside) apart ∙ over.same_level ∙ sym (stays q out.on out.apart) },
          record { on = there q r over.beside; apart = apart },
        );
    back = λ q r out over.
        let near : IsTrue (is_adjacent m q r) = sym (beside q r) ∙ over.beside in
        let same : level' r ≡ level q = over.same_level ∙ stays q out.on out.apart in
        let here : level r ≡ level' r = stayed r (there q r near) (subst (LiesApart was is) (sym same) out.apart) in
        (record { beside = near; same_level = here ∙ same }, record { on = there q r near; apart = subst (LiesApart was is) (sym (here ∙ same)) out.apart });
  }

  -- a point's flow stays right if its level and the levels around it lie outside the range
  pub flow_stays : (q : Point) → (IsTrue (is_ground m q) → LiesApart was is (level q)) → ((r : Point) → IsTrue (is_adjacent m q r) → LiesApart was is (level r)) → (f : Flow) → IsFlow (terrain m) level q f → IsFlow (terrain new) level' q f
  flow_stays q here around f so = elim (cases_Bool (is_ground m q)) [
    | inl on ↦ flow_too IsOutside (terrain m) (terrain new) level level' in_order q (record { on = on; apart = here on }) (stays q on (here on))
        (λ r low. stays r (there q r low.beside) (around r low.beside)) (ground q) f so
    | inr off ↦ elsewhere f so off
  ]
    where
      elsewhere : (f : Flow) → IsFlow (terrain m) level q f → is_ground m q ≡ false → IsFlow (terrain new) level' q f
      elsewhere Unknown so off = tt
      elsewhere NoGround so off = ground q ∙ off
      elsewhere Outlet so off = absurd (true≢false (sym ((terrain_is_lawful m).outlet_ground q so.1) ∙ off))
      elsewhere (To d) so off = absurd (true≢false (sym ((terrain_is_lawful m).from_ground q (step d q) so.lower.beside) ∙ off))
      elsewhere (Beside d) so off = absurd (true≢false (sym so.0.ground ∙ off))
      elsewhere Flat so off = absurd (true≢false (sym so.0.ground ∙ off))
      elsewhere (FlatTo d) so off = absurd (true≢false (sym so.0.ground ∙ off))
