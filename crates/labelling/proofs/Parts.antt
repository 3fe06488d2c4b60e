-- Parts of a terrain, for any terrain: the filled level of a point, from its level inside a part.
use Rattle.std.proofs.Common.{Bool, IsFalse, IsTrue, List, ℤ, [], ap, ap₂, arith, inl, inr, map, refl, subst, sym, ◌∙◌, ◌∷◌, ◌≡◌, ◌≤ℤ◌}
use Rattle.lattice.specs.Terrain.{IsFilledLevel, IsPath, LeadsOut, crest, end_of}
use Rattle.std.proofs.lemmas.Bool.{cases_Bool}
use Rattle.std.proofs.lemmas.Int.{clamps, ints}
use Rattle.std.specs.Int.{int_max}
use Rattle.lattice.proofs.Levels.{le-max_left, max-le, ≤ℤ_antisym, ≤ℤ_same, ≤ℤ_trans}
use Rattle.lattice.specs.Terrain.{Terrain, IsLawful}
use Rattle.lattice.proofs.Levels.{le-max_right, height-le_crest, level_of_outlet}

-- b is a part of t by the mapping `at`. Ground has the same heights, and points adjacent in b are adjacent in t. Neighbours
-- in t of a point off the rim come from b. Ground on the rim is an outlet of b, and so is each outlet of t
pub record IsPart {B P : Type 0} (b : Terrain B) (t : Terrain P) (at : B → P) (rim : B → Bool) : Type 0 where
  pub solid : (x : B) → IsTrue (b.is_ground x) → IsTrue (t.is_ground (at x))
  pub heights : (x : B) → IsTrue (b.is_ground x) → b.height x ≡ t.height (at x)
  pub onto : (x y : B) → IsTrue (b.is_adjacent x y) → IsTrue (t.is_adjacent (at x) (at y))
  pub inner : (x : B) (q : P) → IsTrue (b.is_ground x) → IsFalse (rim x) → IsTrue (t.is_adjacent (at x) q) → (y : B) × (IsTrue (b.is_adjacent x y) × (at y ≡ q))
  pub rims : (x : B) → IsTrue (b.is_ground x) → IsTrue (rim x) → IsTrue (b.is_outlet x)
  pub outlets : (x : B) → IsTrue (b.is_ground x) → IsTrue (t.is_outlet (at x)) → IsTrue (b.is_outlet x)

module _ {P : Type 0} (t : Terrain P) where
  -- the height of the last point is at most the crest
  pub end-le_crest : (x : P) (rest : List P) → t.height (end_of t x rest) ≤ℤ crest t x rest
  end-le_crest x [] = ≤ℤ_same (t.height x)
  end-le_crest x (y ∷ rest) = ≤ℤ_trans (t.height (end_of t y rest)) (crest t y rest) (crest t x (y ∷ rest)) (end-le_crest y rest) (le-max_right (t.height x) (crest t y rest))

  -- a path to a point, continued by a path from there to an outlet, has the greater crest of the two
  pub go_on : (x : P) (rest way : List P) → IsPath t x rest → LeadsOut t (end_of t x rest) way →
      (w : List P) × (LeadsOut t x w × (crest t x w ≤ℤ int_max (crest t x rest) (crest t (end_of t x rest) way)))
  go_on x [] way path out = (way, (out, le-max_right (t.height x) (crest t x way)))
  go_on x (y ∷ rest) way path out =
      let on = go_on y rest way path.1 out in
      let bound : crest t y on.0 ≤ℤ int_max (crest t y rest) (crest t (end_of t y rest) way) = on.1.1 in (
        y ∷ on.0,
        (
          record { path = (path.0, on.1.0.path); outlet = on.1.0.outlet },
          max-le (t.height x) (crest t y on.0) (int_max (int_max (t.height x) (crest t y rest)) (crest t (end_of t y rest) way))
              (omega (arith, ints, clamps)) (omega (arith, ints, clamps)),
        ),
      )

  -- a path from x to an outlet gives one from the end of any path from x, back along that path
  pub go_back : (law : IsLawful t) (x : P) (rest way : List P) → IsPath t x rest → LeadsOut t x way →
      (w : List P) × (LeadsOut t (end_of t x rest) w × (crest t (end_of t x rest) w ≤ℤ int_max (crest t x rest) (crest t x way)))
  go_back law x [] way path out = (way, (out, le-max_right (t.height x) (crest t x way)))
  go_back law x (y ∷ rest) way path out =
      let back = go_back law y rest (x ∷ way) path.1 (record { path = (law.both_ways x y path.0, out.path); outlet = out.outlet }) in
      let bound : crest t (end_of t y rest) back.0 ≤ℤ int_max (crest t y rest) (int_max (t.height y) (crest t x way)) = back.1.1 in
      let head : t.height y ≤ℤ crest t y rest = height-le_crest t y rest in
      (back.0, (back.1.0, omega (arith, ints, clamps)))

module _ {B P : Type 0} (b : Terrain B) (t : Terrain P) (at : B → P) (rim : B → Bool) (part : IsPart b t at rim) (law_b : IsLawful b) where
  -- a path in t from a point of b to an outlet starts with a path in b to an outlet
  pub way_in_part : (x : B) (p : P) (rest : List P) → IsTrue (b.is_ground x) → at x ≡ p → LeadsOut t p rest →
      (r : List B) × (LeadsOut b x r × (crest b x r ≤ℤ crest t p rest))
  way_in_part x p [] solid is out = (
    [],
    (
      record { path = solid; outlet = part.outlets x solid (subst (λ q. IsTrue (t.is_outlet q)) (sym is) out.outlet) },
      subst (λ v. b.height x ≤ℤ v) (part.heights x solid ∙ ap t.height is) (≤ℤ_same (b.height x)),
    ),
  )
  way_in_part x p (q ∷ rest) solid is out = elim (cases_Bool (rim x)) [
    | inl on_rim ↦ (
      [],
      (
        record { path = solid; outlet = part.rims x solid on_rim },
        subst (λ v. v ≤ℤ crest t p (q ∷ rest)) (sym (part.heights x solid ∙ ap t.height is)) (height-le_crest t p (q ∷ rest)),
      ),
    )
    | inr inside ↦
        let next = part.inner x q solid inside (subst (λ v. IsTrue (t.is_adjacent v q)) (sym is) out.path.0) in
        let on = way_in_part next.0 q rest (law_b.to_ground x next.0 next.1.0) next.1.1 (record { path = out.path.1; outlet = out.outlet }) in
        let same : b.height x ≡ t.height p = part.heights x solid ∙ ap t.height is in
        let bound : crest b next.0 on.0 ≤ℤ crest t q rest = on.1.1 in (
          next.0 ∷ on.0,
          (
            record { path = (next.1.0, on.1.0.path); outlet = on.1.0.outlet },
            subst (λ v. int_max v (crest b next.0 on.0) ≤ℤ int_max (t.height p) (crest t q rest)) (sym same) (omega (arith, ints, clamps)),
          ),
        )
  ]

  -- a path in b is a path in t with the same crest and end
  pub path_onto : (x : B) (r : List B) → IsPath b x r → IsPath t (at x) (map at r)
  path_onto x [] path = part.solid x path
  path_onto x (y ∷ r) path = (part.onto x y path.0, path_onto y r path.1)

  pub crest_onto : (x : B) (r : List B) → IsPath b x r → crest t (at x) (map at r) ≡ crest b x r
  crest_onto x [] path = sym (part.heights x path)
  crest_onto x (y ∷ r) path = ap₂ int_max (sym (part.heights x (law_b.from_ground x y path.0))) (crest_onto y r path.1)

  pub end_onto : (x : B) (r : List B) → end_of t (at x) (map at r) ≡ at (end_of b x r)
  end_onto x [] = refl
  end_onto x (y ∷ r) = end_onto y r

  -- a point of a part reaches another at its in-part level. Its filled level is the greater of that level and the other
  -- point's filled level
  pub level_of_part : (law : IsLawful t) (x : B) (l f : ℤ) (r : List B) → IsTrue (b.is_ground x) → IsFilledLevel b x l →
      IsPath b x r → crest b x r ≡ l → IsFilledLevel t (at (end_of b x r)) f → IsFilledLevel t (at x) (int_max l f)
  level_of_part law x l f r solid level path is fill =
      let on = go_on t (at x) (map at r) fill.reached.0 (path_onto x r path) (subst (λ p. LeadsOut t p fill.reached.0) (sym (end_onto x r)) fill.reached.1.0) in
      let below : crest t (at x) on.0 ≤ℤ int_max l f =
      subst (λ v. crest t (at x) on.0 ≤ℤ int_max v f) (crest_onto x r path ∙ is)
      (subst (λ v. crest t (at x) on.0 ≤ℤ int_max (crest t (at x) (map at r)) v) (ap (λ p. crest t p fill.reached.0) (end_onto x r) ∙ fill.reached.1.1) on.1.1) in
      record {
        reached = (on.0, (on.1.0, ≤ℤ_antisym (crest t (at x) on.0) (int_max l f) below (least_of on.0 on.1.0)));
        least = least_of;
      }
    where
      least_of : (way : List P) → LeadsOut t (at x) way → int_max l f ≤ℤ crest t (at x) way
      least_of way out =
          let inside = way_in_part x (at x) way solid refl out in
          let at_least : l ≤ℤ crest t (at x) way = ≤ℤ_trans l (crest b x inside.0) (crest t (at x) way) (level.least inside.0 inside.1.0) inside.1.1 in
          let back = go_back t law (at x) (map at r) way (path_onto x r path) out in
          let from_end : f ≤ℤ int_max l (crest t (at x) way) =
          ≤ℤ_trans f (crest t (at (end_of b x r)) back.0) (int_max l (crest t (at x) way))
          (fill.least back.0 (subst (λ p. LeadsOut t p back.0) (end_onto x r) back.1.0))
          (subst (λ p. crest t p back.0 ≤ℤ int_max l (crest t (at x) way)) (end_onto x r)
          (subst (λ v. crest t (end_of t (at x) (map at r)) back.0 ≤ℤ int_max v (crest t (at x) way)) (crest_onto x r path ∙ is) back.1.1)) in
          max-le l f (crest t (at x) way) at_least (omega (arith, ints, clamps))

  -- a point that reaches an outlet of t at its in-part level has that level as its filled level
  pub level_at_outlet : (law : IsLawful t) (x : B) (l : ℤ) (r : List B) → IsTrue (b.is_ground x) → IsFilledLevel b x l →
      IsPath b x r → crest b x r ≡ l → IsTrue (t.is_outlet (at (end_of b x r))) → IsFilledLevel t (at x) l
  level_at_outlet law x l r solid level path is out =
      let last = at (end_of b x r) in
      let low : t.height last ≤ℤ l = subst (λ p. t.height p ≤ℤ l) (end_onto x r) (subst (λ v. t.height (end_of t (at x) (map at r)) ≤ℤ v) (crest_onto x r path ∙ is) (end-le_crest t (at x) (map at r))) in
      subst (λ v. IsFilledLevel t (at x) v) (≤ℤ_antisym (int_max l (t.height last)) l (max-le l (t.height last) l (≤ℤ_same l) low) (le-max_left l (t.height last)))
      (level_of_part law x l (t.height last) r solid level path is (level_of_outlet t law last out))
