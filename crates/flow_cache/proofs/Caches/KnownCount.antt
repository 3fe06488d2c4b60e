-- The number of samples with a known flow doesn't fall as more flows become known.
use Rattle.std.proofs.Common.{◌≡◌, ◌⊎◌, ℕ, zero, suc, ◌+◌, ◌*◌, ◌<◌, ◌≤◌, cond, List, [], ◌∷◌, ◌++◌, length, get_or, inl, inr, refl, ap, ◌∙◌, subst, arith}
use Rattle.std.proofs.lemmas.List.Sums.{count_by-le-length, sum_by-append, sum_by-cons}
use Rattle.flow_cache.proofs.Prelude.{Beside, Flat, FlatTo, Flow, FlowGrid, NoGround, Outlet, To, Unknown, most_samples}
use Rattle.flow_d8.proofs.Sayings.Draining.{known_at}
use Rattle.flow_d8.specs.Flows.{IsOfFlat}
use Rattle.flow_d8.specs.Rounds.{Tells}
use Rattle.flow_d8.specs.FlowGrids.{AreKnown}
use Rattle.flow_cache.specs.FlowCaches.{is_known, known_count}

abbrev one : Flow → ℕ
one f = cond (is_known f) 1 0

count_cons : (f : Flow) (rest : List Flow) → known_count (f ∷ rest) ≡ one f + known_count rest
count_cons f rest = sum_by-cons one f rest

one_is : (f : Flow) → ((f ≡ Unknown) × (one f ≡ 0)) ⊎ ((f ≡ Unknown → ⊥) × (one f ≡ 1))
one_is Unknown = inl (refl, refl)
one_is NoGround = inr ((λ e. cc), refl)
one_is Outlet = inr ((λ e. cc), refl)
one_is Flat = inr ((λ e. cc), refl)
one_is (To d) = inr ((λ e. cc), refl)
one_is (Beside d) = inr ((λ e. cc), refl)
one_is (FlatTo d) = inr ((λ e. cc), refl)

-- each flow that is known in xs is known in ys
abbrev Keeps : List Flow → List Flow → Type 0
Keeps xs ys = (k : ℕ) → (get_or xs k Unknown ≡ Unknown → ⊥) → get_or ys k Unknown ≡ Unknown → ⊥

one_keeps : (f g : Flow) → ((f ≡ Unknown → ⊥) → g ≡ Unknown → ⊥) → one f ≤ one g
one_keeps f g keeps = elim (one_is f) [
  | inl nothing ↦ let zero_is = nothing.1 in omega (arith, zero_is)
  | inr some ↦ elim (one_is g) [
    | inl none ↦ absurd (keeps some.0 none.0)
    | inr other ↦ omega (arith, some.1, other.1)
  ]
]

pub count_keeps : (xs ys : List Flow) → length ys ≡ length xs → Keeps xs ys → known_count xs ≤ known_count ys
count_keeps [] ys whole keeps = omega arith
count_keeps (x ∷ xs) [] whole keeps = absurd (omega (arith, whole))
count_keeps (x ∷ xs) (y ∷ ys) whole keeps =
    let first = one_keeps x y (keeps 0) in
    let rest = count_keeps xs ys (omega (arith, whole)) (λ k. keeps (suc k)) in
    omega (arith, first, rest, count_cons x xs, count_cons y ys)

-- the number rises when a further flow becomes known
pub count_grows : (xs ys : List Flow) → length ys ≡ length xs → Keeps xs ys → (k : ℕ) → get_or xs k Unknown ≡ Unknown → (get_or ys k Unknown ≡ Unknown → ⊥) → known_count xs < known_count ys
count_grows [] [] whole keeps k nothing some = absurd (some refl)
count_grows [] (y ∷ ys) whole keeps k nothing some = absurd (omega (arith, whole))
count_grows (x ∷ xs) [] whole keeps k nothing some = absurd (omega (arith, whole))
count_grows (x ∷ xs) (y ∷ ys) whole keeps zero nothing some =
    let rest = count_keeps xs ys (omega (arith, whole)) (λ k. keeps (suc k)) in
    elim (one_is x) [
      | inl none ↦ elim (one_is y) [
        | inl other ↦ absurd (some other.0)
        | inr one_y ↦ omega (arith, rest, none.1, one_y.1, count_cons x xs, count_cons y ys)
      ]
      | inr one_x ↦ absurd (one_x.0 nothing)
    ]
count_grows (x ∷ xs) (y ∷ ys) whole keeps (suc k) nothing some =
    let first = one_keeps x y (keeps 0) in
    let rest = count_grows xs ys (omega (arith, whole)) (λ j. keeps (suc j)) k nothing some in
    omega (arith, first, rest, count_cons x xs, count_cons y ys)

count_append : (xs ys : List Flow) → known_count (xs ++ ys) ≡ known_count xs + known_count ys
count_append xs ys = sum_by-append one xs ys

count_some : (ys : List Flow) → 0 < length ys → AreKnown ys → 0 < known_count ys
count_some [] some known = absurd (omega (arith, some))
count_some (y ∷ ys) some known = elim (one_is y) [
  | inl none ↦ absurd (known 0 (omega arith) none.0)
  | inr one_y ↦ omega (arith, one_y.1, count_cons y ys)
]

-- the number rises when a tile is added whose flows are all known
pub count_push : (xs ys all : List Flow) → all ≡ xs ++ ys → 0 < length ys → AreKnown ys → known_count xs < known_count all
count_push xs ys all is some known =
    let more = count_some ys some known in
    let same : known_count all ≡ known_count xs + known_count ys = ap known_count is ∙ count_append xs ys in
    omega (arith, more, same)

-- there are no more than samples that have numbers
pub count_bound : (grid : FlowGrid) → known_count grid.flows.items ≤ most_samples
count_bound grid = let samples = count_by-le-length is_known grid.flows.items in omega (arith, samples, grid.few)

-- resolving a flat keeps known flows known
pub count_resolved : (old new : List Flow) → Tells old new → known_count old ≤ known_count new
count_resolved old new tells = count_keeps old new tells.whole (λ k. known_at old new k tells)

pub unknown_still : (old new : List Flow) (k : ℕ) → Tells old new → get_or old k Unknown ≡ Unknown → get_or new k Unknown ≡ Unknown
unknown_still old new k tells nothing = tells.kept k (λ flat. subst IsOfFlat nothing flat) ∙ nothing
