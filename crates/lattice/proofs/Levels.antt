-- Filled levels of any terrain: a point has at most one, an outlet's is its height, and each step of a flood finds one
-- (after the correctness argument of Barnes, Lehman and Mulla 2014).
use Rattle.lattice.proofs.Prelude.{Bool, IsFilledLevel, IsLawful, IsTrue, LeadsOut, List, Terrain, ℤ, [], ap, arith, cases_Bool, cond, crest, inl, inr, int_lt, int_max, refl, subst, ◌∷◌, ◌≡◌, ◌≤ℤ◌, ◌⊎◌}
use Rattle.std.proofs.lemmas.Int.{ints, clamps}

pub le-max_left : (a b : ℤ) → a ≤ℤ int_max a b
le-max_left a b = omega (arith, ints, clamps)

pub le-max_right : (a b : ℤ) → b ≤ℤ int_max a b
le-max_right a b = omega (arith, ints, clamps)

pub max-le : (a b c : ℤ) → a ≤ℤ c → b ≤ℤ c → int_max a b ≤ℤ c
max-le a b c ac bc = omega (arith, ints, clamps)

pub max_one_of : (a b : ℤ) → (int_max a b ≡ a) ⊎ (int_max a b ≡ b)
max_one_of a b = elim (cases_Bool (int_lt b a)) [ inl h ↦ inl (ap (λ v. cond v a b) h) | inr h ↦ inr (ap (λ v. cond v a b) h) ]

pub max-swap : (a b : ℤ) → int_max a b ≡ int_max b a
max-swap a b = omega (arith, ints, clamps)

pub ≤ℤ_trans : (a b c : ℤ) → a ≤ℤ b → b ≤ℤ c → a ≤ℤ c
≤ℤ_trans a b c ab bc = omega (arith, ints)

pub ≤ℤ_same : (a : ℤ) → a ≤ℤ a
≤ℤ_same a = omega (arith, ints)

pub ≤ℤ_antisym : (a b : ℤ) → a ≤ℤ b → b ≤ℤ a → a ≡ b
≤ℤ_antisym a b ab ba = omega (arith, ints)

module _ {P : Type 0} (t : Terrain P) where
  -- a point has at most one filled level
  pub level_is_unique : (x : P) (k l : ℤ) → IsFilledLevel t x k → IsFilledLevel t x l → k ≡ l
  level_is_unique x k l hk hl = ≤ℤ_antisym k l
      (subst (λ v. k ≤ℤ v) hl.reached.1.1 (hk.least hl.reached.0 hl.reached.1.0))
      (subst (λ v. l ≤ℤ v) hk.reached.1.1 (hl.least hk.reached.0 hk.reached.1.0))

  -- the height of the first point is at most the crest
  pub height-le_crest : (x : P) (rest : List P) → t.height x ≤ℤ crest t x rest
  height-le_crest x [] = ≤ℤ_same (t.height x)
  height-le_crest x (y ∷ rest) = le-max_left (t.height x) (crest t y rest)

  -- a filled level is at least the height
  pub height-le_level : (x : P) (l : ℤ) → IsFilledLevel t x l → t.height x ≤ℤ l
  height-le_level x l h = subst (λ v. t.height x ≤ℤ v) h.reached.1.1 (height-le_crest x h.reached.0)

  -- an outlet's filled level is its height
  pub level_of_outlet : (law : IsLawful t) (x : P) → IsTrue (t.is_outlet x) → IsFilledLevel t x (t.height x)
  level_of_outlet law x out = record {
    reached = ([], (record { path = law.outlet_ground x out; outlet = out }, refl));
    least = λ rest way. height-le_crest x rest;
  }

  -- If no point is in the frontier, every point that leads out is marked.
  pub all_marked : (law : IsLawful t) (marked : P → Bool)
      (outlets : (x : P) → IsTrue (t.is_outlet x) → IsTrue (marked x))
      (closed : (x y : P) → IsTrue (marked x) → IsTrue (t.is_adjacent x y) → IsTrue (marked y))
      (x : P) (rest : List P) → LeadsOut t x rest → IsTrue (marked x)
  all_marked law marked outlets closed x [] way = outlets x way.outlet
  all_marked law marked outlets closed x (y ∷ rest) way =
      closed y x (all_marked law marked outlets closed y rest (record { path = way.path.1; outlet = way.outlet })) (law.both_ways x y way.path.0)
