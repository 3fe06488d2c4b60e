-- A point of a finite terrain that has a path to an outlet has a filled level. For each level it is decidable whether a
-- path with no greater crest leads out: points are marked until no more are added.
use Rattle.std.proofs.Common.{rules}
use Rattle.lattice.proofs.Prelude.{Bool, IsFilledLevel, IsLawful, IsTrue, LeadsOut, List, Terrain, ℕ, ℤ, [], ap, arith, cond, crest, false, inl, inr, int_le, ints, length, list_any, nat_abs, not, pos, refl, suc, sym, true, true≢false, zero, ⊎_elim, ◌&&◌, ◌+◌, ◌-ℤ◌, ◌<ℤ◌, ◌<◌, ◌||◌, ◌∙◌, ◌∷◌, ◌≡◌, ◌≤ℤ◌, ◌≤◌, ◌⊎◌}
use Rattle.std.proofs.lemmas.Bool.{cases_Bool, and_parts, and_from, or_cases, or_left, or_right, not-true}
use Rattle.lattice.proofs.IntTests.{le_true, le_from, le_or_above}
use Rattle.lattice.proofs.Levels.{le-max_left, le-max_right, max-le, ≤ℤ_trans, height-le_crest}

-- the number of marked points
tally : {P : Type 0} → (P → Bool) → List P → ℕ
tally f [] = 0
tally f (x ∷ rest) = cond (f x) (suc (tally f rest)) (tally f rest)

tally-le : {P : Type 0} (f : P → Bool) (xs : List P) → tally f xs ≤ length xs
unfolding tally
tally-le f [] = omega arith
tally-le f (x ∷ rest) = elim (f x) as (λ b. cond b (suc (tally f rest)) (tally f rest) ≤ suc (length rest)) [
  | true ↦ omega (arith, tally-le f rest)
  | false ↦ omega (arith, tally-le f rest)
]

found : {P : Type 0} (f : P → Bool) (xs : List P) → IsTrue (list_any f xs) → (x : P) × IsTrue (f x)
found f [] h = absurd (true≢false (sym h))
found f (x ∷ rest) h = ⊎_elim (λ here. (x, here)) (λ later. found f rest later) (or_cases (f x) (list_any f rest) h)

-- If f marks all that g marks, it marks as many or more; and more if it marks a point that g doesn't.
module _ {P : Type 0} (g f : P → Bool) (keeps : (x : P) → IsTrue (g x) → IsTrue (f x)) where
  at_one : (b c : Bool) (k l : ℕ) → (b ≡ true → c ≡ true) → k ≤ l → cond b (suc k) k ≤ cond c (suc l) l
  at_one true true k l kept le = omega arith
  at_one true false k l kept le = absurd (true≢false (sym (kept refl)))
  at_one false true k l kept le = omega arith
  at_one false false k l kept le = le

  at_new : (b c : Bool) (k l : ℕ) → b ≡ false → c ≡ true → k ≤ l → cond b (suc k) k < cond c (suc l) l
  at_new true c k l off on le = absurd (true≢false off)
  at_new false true k l off on le = omega arith
  at_new false false k l off on le = absurd (true≢false (sym on))

  at_more : (b c : Bool) (k l : ℕ) → (b ≡ true → c ≡ true) → k < l → cond b (suc k) k < cond c (suc l) l
  at_more true true k l kept le = omega arith
  at_more true false k l kept le = absurd (true≢false (sym (kept refl)))
  at_more false true k l kept le = omega arith
  at_more false false k l kept le = le

  no_fewer : (xs : List P) → tally g xs ≤ tally f xs
  unfolding tally
  no_fewer [] = omega arith
  no_fewer (x ∷ rest) = at_one (g x) (f x) (tally g rest) (tally f rest) (keeps x) (no_fewer rest)

  more : (xs : List P) → IsTrue (list_any (λ x. f x && not (g x)) xs) → tally g xs < tally f xs
  unfolding tally
  more [] h = absurd (true≢false (sym h))
  more (x ∷ rest) h = ⊎_elim
      (λ here. let parts = and_parts (f x) (not (g x)) here in at_new (g x) (f x) (tally g rest) (tally f rest) (not-true (g x) parts.1) parts.0 (no_fewer rest))
      (λ later. at_more (g x) (f x) (tally g rest) (tally f rest) (keeps x) (more rest later))
      (or_cases (f x && not (g x)) (list_any (λ x. f x && not (g x)) rest) h)

module _ {P : Type 0} (t : Terrain P) (law : IsLawful t) (points : List P)
    (all : (f : P → Bool) (x : P) → IsTrue (t.is_ground x) → IsTrue (f x) → IsTrue (list_any f points)) where
  module _ (low : ℤ) where
    -- a path out with no greater crest
    pub record WayBelow (x : P) : Type 0 where
      pub rest : List P
      pub out : LeadsOut t x rest
      pub below : crest t x rest ≤ℤ low

    lower_outlet : P → Bool
    lower_outlet x = t.is_outlet x && int_le (t.height x) low

    expanded : (P → Bool) → P → Bool
    expanded marked x = marked x || (t.is_ground x && int_le (t.height x) low && list_any (λ y. t.is_adjacent x y && marked y) points)

    record IsSound (marked : P → Bool) : Type 0 where
      sound : (x : P) → IsTrue (marked x) → WayBelow x
      outlets : (x : P) → IsTrue (lower_outlet x) → IsTrue (marked x)

    start_is_sound : IsSound lower_outlet
    unfolding lower_outlet
    start_is_sound = search rules

    expanded_is_sound : (marked : P → Bool) → IsSound marked → IsSound (expanded marked)
    unfolding expanded
    expanded_is_sound marked is = record {
      sound = λ x h. ⊎_elim (is.sound x) (λ new.
          let parts = and_parts (t.is_ground x && int_le (t.height x) low) (list_any (λ y. t.is_adjacent x y && marked y) points) new in
          let here = and_parts (t.is_ground x) (int_le (t.height x) low) parts.0 in
          let next = found (λ y. t.is_adjacent x y && marked y) points parts.1 in
          let beside = and_parts (t.is_adjacent x next.0) (marked next.0) next.1 in
          let way = is.sound next.0 beside.1 in
          record {
            rest = next.0 ∷ way.rest;
            out = record { path = (beside.0, way.out.path); outlet = way.out.outlet };
            below = max-le (t.height x) (crest t next.0 way.rest) low (le_true (t.height x) low here.1) way.below;
          })
          (or_cases (marked x) _ h);
      outlets = λ x h. or_left (marked x) _ (is.outlets x h);
    }

    record IsSettled (marked : P → Bool) : Type 0 where
      sound : IsSound marked
      closed : IsTrue (list_any (λ x. expanded marked x && not (marked x)) points) → ⊥

    kept : (marked : P → Bool) (x : P) → IsTrue (marked x) → IsTrue (expanded marked x)
    unfolding expanded
    kept marked x h = or_left (marked x) _ h

    settle : (fuel : ℕ) (marked : P → Bool) → IsSound marked → length points < tally marked points + fuel → (m : P → Bool) × IsSettled m
    settle zero marked is room = absurd (omega (arith, tally-le marked points))
    settle (suc fuel) marked is room = elim (cases_Bool (list_any (λ x. expanded marked x && not (marked x)) points)) [
      | inl grows ↦ settle fuel (expanded marked) (expanded_is_sound marked is) (omega (arith, more marked (expanded marked) (kept marked) points grows))
      | inr stays ↦ (marked, record { sound = is; closed = λ grows. true≢false (sym grows ∙ stays) })
    ]

    module _ (marked : P → Bool) (is : IsSettled marked) where
      -- Each point with a path out of no greater crest is marked.
      reached : (x : P) (rest : List P) → LeadsOut t x rest → crest t x rest ≤ℤ low → IsTrue (marked x)
      unfolding expanded lower_outlet
      reached x [] out below = is.sound.outlets x (and_from (t.is_outlet x) (int_le (t.height x) low) out.outlet (le_from (t.height x) low below))
      reached x (y ∷ rest) out below =
          let on : IsTrue (marked y) = reached y rest (record { path = out.path.1; outlet = out.outlet }) (≤ℤ_trans _ _ _ (le-max_right (t.height x) (crest t y rest)) below) in
          let solid : IsTrue (t.is_ground x) = law.from_ground x y out.path.0 in
          let low_enough : IsTrue (int_le (t.height x) low) = le_from (t.height x) low (≤ℤ_trans _ _ _ (le-max_left (t.height x) (crest t y rest)) below) in
          let some : IsTrue (list_any (λ y. t.is_adjacent x y && marked y) points) = all (λ y. t.is_adjacent x y && marked y) y (law.to_ground x y out.path.0) (and_from (t.is_adjacent x y) (marked y) out.path.0 on) in
          let new : IsTrue (expanded marked x) = or_right (marked x) _ (and_from (t.is_ground x && int_le (t.height x) low) _ (and_from (t.is_ground x) (int_le (t.height x) low) solid low_enough) some) in
          elim (cases_Bool (marked x)) [
            | inl is_on ↦ is_on
            | inr off ↦ absurd (is.closed (all (λ x. expanded marked x && not (marked x)) x solid (and_from (expanded marked x) (not (marked x)) new (ap not off))))
          ]

    -- A path with no greater crest leads out, or each path out has a greater crest.
    decide : (x : P) → WayBelow x ⊎ ((rest : List P) → LeadsOut t x rest → low <ℤ crest t x rest)
    decide x =
        let m = settle (suc (length points)) lower_outlet start_is_sound (omega arith) in
        elim (cases_Bool (m.0 x)) [
          | inl on ↦ inl (m.1.sound.sound x on)
          | inr off ↦ inr (λ rest out. elim (le_or_above (crest t x rest) low) [
            | inl below ↦ absurd (true≢false (sym (reached m.0 m.1 x rest out below) ∙ off))
            | inr above ↦ above
          ])
        ]

  lower : (fuel : ℕ) (x : P) (rest : List P) → LeadsOut t x rest → (crest t x rest -ℤ t.height x) <ℤ pos fuel → (l : ℤ) × IsFilledLevel t x l
  lower zero x rest out room = let at_least = height-le_crest t x rest in absurd (omega (arith, ints))
  lower (suc fuel) x rest out room = elim (decide (crest t x rest -ℤ pos 1) x) [
    | inl way ↦ let below = way.below in lower fuel x way.rest way.out (omega (arith, ints))
    | inr above ↦ (crest t x rest, record { reached = (rest, (out, refl)); least = λ other way. let higher = above other way in omega (arith, ints) })
  ]

  pub level_exists : (x : P) (rest : List P) → LeadsOut t x rest → (l : ℤ) × IsFilledLevel t x l
  level_exists x rest out = lower (suc (nat_abs (crest t x rest -ℤ t.height x))) x rest out (omega (arith, ints))
