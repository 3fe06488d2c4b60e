-- A part with a border, for any terrain. Its own points have the heights of the whole terrain. Around them is a ring at whose
-- points water leaves, at their filled level in the whole. Then the part's filled levels are those of the whole.
use Rattle.std.proofs.Common.{Bool, IsFalse, IsTrue, List, ℤ, [], ap, ap₂, arith, inl, inr, map, refl, subst, sym, ◌∙◌, ◌∷◌, ◌≡◌, ◌≤ℤ◌, ◌⊎◌}
use Rattle.std.proofs.lemmas.Bool.{cases_Bool}
use Rattle.std.proofs.lemmas.Int.{ints, clamps}
use Rattle.std.specs.Int.{int_max}
use Rattle.lattice.specs.Terrain.{Terrain, IsFilledLevel, IsLawful, IsPath, LeadsOut, crest, end_of}
use Rattle.water.specs.Parts.{IsBordered}
use Rattle.lattice.proofs.Levels.{le-max_left, le-max_right, max-le, ≤ℤ_antisym, ≤ℤ_same, ≤ℤ_trans, height-le_crest, height-le_level}

module _ {P : Type 0} (t : Terrain P) where
  -- the height of the last point is at most the crest
  pub end-le_crest : (x : P) (rest : List P) → t.height (end_of t x rest) ≤ℤ crest t x rest
  end-le_crest x [] = ≤ℤ_same (t.height x)
  end-le_crest x (y ∷ rest) = ≤ℤ_trans (t.height (end_of t y rest)) (crest t y rest) (crest t x (y ∷ rest)) (end-le_crest y rest) (le-max_right (t.height x) (crest t y rest))

  -- a path to a point, continued by a path from there to an outlet, has the greater crest of the two
  pub go_on : (x : P) (rest way : List P) → IsPath t x rest → LeadsOut t (end_of t x rest) way →
      (w : List P) × (LeadsOut t x w × (crest t x w ≤ℤ int_max (crest t x rest) (crest t (end_of t x rest) way)))
  go_on x [] way path out = (way, (out, le-max_right (t.height x) (crest t x way)))
  go_on x (y ∷ rest) way path out =
      let on = go_on y rest way path.1 out in
      let bound : crest t y on.0 ≤ℤ int_max (crest t y rest) (crest t (end_of t y rest) way) = on.1.1 in (
        y ∷ on.0,
        (
          record { path = (path.0, on.1.0.path); outlet = on.1.0.outlet },
          max-le (t.height x) (crest t y on.0) (int_max (int_max (t.height x) (crest t y rest)) (crest t (end_of t y rest) way))
              (omega (arith, ints, clamps)) (omega (arith, ints, clamps)),
        ),
      )

module _ {B P : Type 0} (b : Terrain B) (t : Terrain P) (at : B → P) (ring : B → Bool) (border : IsBordered b t at ring) (law_b : IsLawful b) where
  -- a height in the whole is at most the height in the part
  height_onto : (x : B) → IsTrue (b.is_ground x) → t.height (at x) ≤ℤ b.height x
  height_onto x solid = elim (cases_Bool (ring x)) [
    | inl on ↦ height-le_level t (at x) (b.height x) (border.ring_levels x solid on)
    | inr off ↦ subst (λ v. t.height (at x) ≤ℤ v) (sym (border.heights x solid off)) (≤ℤ_same (t.height (at x)))
  ]

  path_onto : (x : B) (r : List B) → IsPath b x r → IsPath t (at x) (map at r)
  path_onto x [] path = border.solid x path
  path_onto x (y ∷ r) path = (border.onto x y path.0, path_onto y r path.1)

  crest_onto : (x : B) (r : List B) → IsPath b x r → crest t (at x) (map at r) ≤ℤ crest b x r
  crest_onto x [] path = height_onto x path
  crest_onto x (y ∷ r) path =
      let first = height_onto x (law_b.from_ground x y path.0) in
      let rest = crest_onto y r path.1 in
      max-le (t.height (at x)) (crest t (at y) (map at r)) (int_max (b.height x) (crest b y r)) (omega (arith, ints, clamps)) (omega (arith, ints, clamps))

  end_onto : (x : B) (r : List B) → end_of t (at x) (map at r) ≡ at (end_of b x r)
  end_onto x [] = refl
  end_onto x (y ∷ r) = end_onto y r

  -- at a ring point water leaves at once
  on_ring : (x : B) (p : P) (rest : List P) → IsTrue (b.is_ground x) → at x ≡ p → LeadsOut t p rest → IsTrue (ring x) →
      (r : List B) × (LeadsOut b x r × (crest b x r ≤ℤ crest t p rest))
  on_ring x p rest solid is out on = (
    [],
    (
      record { path = solid; outlet = border.ring_outlets x solid on },
      subst (λ q. b.height x ≤ℤ crest t q rest) is ((border.ring_levels x solid on).least rest (subst (λ q. LeadsOut t q rest) (sym is) out)),
    ),
  )

  -- a path from a point of the part to an outlet of the whole starts with one to an outlet of the part, no higher
  pub way_in : (x : B) (p : P) (rest : List P) → IsTrue (b.is_ground x) → at x ≡ p → LeadsOut t p rest →
      (r : List B) × (LeadsOut b x r × (crest b x r ≤ℤ crest t p rest))
  way_in x p [] solid is out = elim (cases_Bool (ring x)) [
    | inl on ↦ on_ring x p [] solid is out on
    | inr off ↦ (
      [],
      (
        record { path = solid; outlet = border.outlets x solid off ∙ subst (λ q. IsTrue (t.is_outlet q)) (sym is) out.outlet },
        subst (λ v. b.height x ≤ℤ v) (border.heights x solid off ∙ ap t.height is) (≤ℤ_same (b.height x)),
      ),
    )
  ]
  way_in x p (q ∷ rest) solid is out = elim (cases_Bool (ring x)) [
    | inl on ↦ on_ring x p (q ∷ rest) solid is out on
    | inr off ↦
        let next = border.inner x q solid off (subst (λ v. IsTrue (t.is_adjacent v q)) (sym is) out.path.0) in
        let on = way_in next.0 q rest (law_b.to_ground x next.0 next.1.0) next.1.1 (record { path = out.path.1; outlet = out.outlet }) in
        let same : b.height x ≡ t.height p = border.heights x solid off ∙ ap t.height is in
        let bound : crest b next.0 on.0 ≤ℤ crest t q rest = on.1.1 in (
          next.0 ∷ on.0,
          (
            record { path = (next.1.0, on.1.0.path); outlet = on.1.0.outlet },
            subst (λ v. int_max v (crest b next.0 on.0) ≤ℤ int_max (t.height p) (crest t q rest)) (sym same) (omega (arith, ints, clamps)),
          ),
        )
  ]

  -- each path to an outlet of the part continues to an outlet of the whole, no higher
  pub way_on : (x : B) (r : List B) → LeadsOut b x r → (w : List P) × (LeadsOut t (at x) w × (crest t (at x) w ≤ℤ crest b x r))
  way_on x r out = elim (cases_Bool (ring (end_of b x r))) [
    | inl on ↦
        let fill = border.ring_levels (end_of b x r) last on in
        let further = go_on t (at x) (map at r) fill.reached.0 (path_onto x r out.path) (subst (λ p. LeadsOut t p fill.reached.0) (sym (end_onto x r)) fill.reached.1.0) in
        let low : b.height (end_of b x r) ≤ℤ crest b x r = end-le_crest b x r in
        let level : crest t (end_of t (at x) (map at r)) fill.reached.0 ≡ b.height (end_of b x r) = ap (λ p. crest t p fill.reached.0) (end_onto x r) ∙ fill.reached.1.1 in
        let first = crest_onto x r out.path in
        let whole = further.1.1 in
        (further.0, (further.1.0, omega (arith, ints, clamps)))
    | inr off ↦ (
      map at r,
      (
        record {
          path = path_onto x r out.path;
          outlet = subst (λ p. IsTrue (t.is_outlet p)) (sym (end_onto x r)) (sym (border.outlets (end_of b x r) last off) ∙ out.outlet);
        },
        crest_onto x r out.path,
      ),
    )
  ]
    where
      last : IsTrue (b.is_ground (end_of b x r))
      last = law_b.outlet_ground (end_of b x r) out.outlet

  -- a filled level in the part is a filled level in the whole
  pub level_by_border : (x : B) (l : ℤ) → IsTrue (b.is_ground x) → IsFilledLevel b x l → IsFilledLevel t (at x) l
  level_by_border x l solid level =
      let out = way_on x level.reached.0 level.reached.1.0 in
      let low : crest t (at x) out.0 ≤ℤ l = subst (λ v. crest t (at x) out.0 ≤ℤ v) level.reached.1.1 out.1.1 in
      record {
        reached = (out.0, (out.1.0, ≤ℤ_antisym (crest t (at x) out.0) l low (least_of out.0 out.1.0)));
        least = least_of;
      }
    where
      least_of : (way : List P) → LeadsOut t (at x) way → l ≤ℤ crest t (at x) way
      least_of way out =
          let r = way_in x (at x) way solid refl out in
          ≤ℤ_trans l (crest b x r.0) (crest t (at x) way) (level.least r.0 r.1.0) r.1.1

  -- a filled level in the whole is a filled level in the part
  pub level_of_whole : (x : B) (l : ℤ) → IsTrue (b.is_ground x) → IsFilledLevel t (at x) l → IsFilledLevel b x l
  level_of_whole x l solid level =
      let r = way_in x (at x) level.reached.0 solid refl level.reached.1.0 in
      let low : crest b x r.0 ≤ℤ l = subst (λ v. crest b x r.0 ≤ℤ v) level.reached.1.1 r.1.1 in
      record {
        reached = (r.0, (r.1.0, ≤ℤ_antisym (crest b x r.0) l low (least_of r.0 r.1.0)));
        least = least_of;
      }
    where
      least_of : (r : List B) → LeadsOut b x r → l ≤ℤ crest b x r
      least_of r out =
          let w = way_on x r out in
          ≤ℤ_trans l (crest t (at x) w.0) (crest b x r) (level.least w.0 w.1.0) w.1.1
