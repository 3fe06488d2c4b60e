-- A set has at most one list of maximal runs.
use Rattle.std.proofs.Common.{rules}
use Rattle.std.specs.List.{AllAdjacentBelow}
use Rattle.water.specs.Runs.{AreRuns, IsAfter, IsInRun}
use Rattle.std.proofs.Common.{List, [], ap₂, arith, inl, inr, length, pos, refl, subst, suc, sym, zero, ⊎_elim, ◌+ℤ◌, ◌+◌, ◌<ℤ◌, ◌∙◌, ◌∷◌, ◌≡◌, ◌≤ℤ◌, ◌⊎◌}
use Rattle.lattice.specs.declared.point.Point.{Point}
use Rattle.water.specs.declared.run.Run.{Run}
use Rattle.std.proofs.lemmas.Bool.{cases_Bool}
use Rattle.std.proofs.lemmas.Int.{ints}
use Rattle.lattice.proofs.IntTests.{lt_false, lt_true}
use Rattle.lattice.proofs.Levels.{≤ℤ_antisym, ≤ℤ_same}
use Rattle.std.specs.Prelude.{All, Any, int_lt, slice_index_or}

-- one of the runs has the point
abbrev pub InSome : List Run → Point → Type 0
InSome [] p = ⊥
InSome (r ∷ rest) p = IsInRun r p ⊎ InSome rest p

pub from_any : (rs : List Run) (p : Point) → Any (λ r. IsInRun r p) rs → InSome rs p
from_any [] p any = absurd (omega (arith, any.2))
from_any (r ∷ rest) p (zero, r', lt, same, holds) = inl (subst (λ s. IsInRun s p) (sym same) holds)
from_any (r ∷ rest) p (suc k, r', lt, same, holds) = inr (from_any rest p (k, r', omega arith, same, holds))

pub to_any : (rs : List Run) (p : Point) → InSome rs p → Any (λ r. IsInRun r p) rs
to_any [] p h = absurd h
to_any (r ∷ rest) p (inl here) = (0, r, omega arith, refl, here)
to_any (r ∷ rest) p (inr later) = let any = to_any rest p later in (suc any.0, any.1, omega (arith, any.2), any.3, any.4)

-- each run has a point, and each comes after the one before it
pub record Sorted (rs : List Run) : Type 0 where
  pub full : All (λ r. r.first ≤ℤ r.last) rs
  pub in_order : AllAdjacentBelow IsAfter rs (length rs)

pub tail_sorted : (r : Run) (rest : List Run) → Sorted (r ∷ rest) → Sorted rest
tail_sorted r rest is = record {
  full = λ k d lt. is.full (suc k) d (omega arith);
  in_order = λ k d lt. let up : suc k + 1 ≡ suc (k + 1) = omega arith in
      subst (λ j. IsAfter (slice_index_or (r ∷ rest) (suc k) d) (slice_index_or (r ∷ rest) j d)) up (is.in_order (suc k) d (omega arith));
}

-- p lies south of r, or in its row with a gap to the east
Beyond : Run → Point → Type 0
Beyond r p = (p.y <ℤ r.y) ⊎ ((p.y ≡ r.y) × ((r.last +ℤ pos 1) <ℤ p.x))

after_beyond : (r s : Run) (p : Point) → IsAfter r s → IsInRun s p → Beyond r p
unfolding Beyond
after_beyond r s p (inl south) inside = inl (let row = inside.0 in omega (arith, ints))
after_beyond r s p (inr east) inside = inr (inside.0 ∙ sym east.0, (let gap = east.1 in let low = inside.1.0 in omega (arith, ints)))

beyond_later : (r s : Run) (p : Point) → s.first ≤ℤ s.last → IsAfter r s → Beyond s p → Beyond r p
unfolding Beyond
beyond_later r s p full (inl south) (inl far) = inl (omega (arith, ints))
beyond_later r s p full (inl south) (inr far) = inl (let row = far.0 in omega (arith, ints))
beyond_later r s p full (inr east) (inl far) = inl (let row = east.0 in omega (arith, ints))
beyond_later r s p full (inr east) (inr far) = inr (far.0 ∙ sym east.0, (let gap = east.1 in let gap' = far.1 in omega (arith, ints)))

all_beyond : (r : Run) (rest : List Run) (p : Point) → Sorted (r ∷ rest) → InSome rest p → Beyond r p
all_beyond r [] p is h = absurd h
all_beyond r (s ∷ rest) p is (inl here) = after_beyond r s p (is.in_order 0 s (omega arith)) here
all_beyond r (s ∷ rest) p is (inr later) = beyond_later r s p (is.full 1 s (omega arith)) (is.in_order 0 s (omega arith)) (all_beyond s rest p (tail_sorted r (s ∷ rest) is) later)

not_beyond : (r : Run) (p : Point) → IsInRun r p → Beyond r p → ⊥
unfolding Beyond
not_beyond r p within (inl south) = let row = within.0 in absurd (omega (arith, ints))
not_beyond r p within (inr east) = let last = within.1.1 in let gap = east.1 in absurd (omega (arith, ints))

-- no point lies in two runs
pub apart_from_later : (r : Run) (rest : List Run) → Sorted (r ∷ rest) → (p : Point) → IsInRun r p → InSome rest p → ⊥
apart_from_later r rest is p here later = not_beyond r p here (all_beyond r rest p is later)

start_of : Run → Point
start_of r = record { y = r.y; x = r.first }

-- r begins no later than s
record BeginsBy (r s : Run) : Type 0 where
  north : s.y ≤ℤ r.y
  west : s.y ≡ r.y → r.first ≤ℤ s.first

starts : (s : Run) → s.first ≤ℤ s.last → IsInRun s (start_of s)
unfolding start_of
starts s full = (refl, (≤ℤ_same s.first, full))

from_run : (r s : Run) → IsInRun r (start_of s) → BeginsBy r s
unfolding start_of
from_run r s inside = record { north = (let row = inside.0 in omega (arith, ints)); west = λ same. inside.1.0 }

from_beyond : (r s : Run) → r.first ≤ℤ r.last → Beyond r (start_of s) → BeginsBy r s
unfolding Beyond start_of
from_beyond r s full (inl south) = record { north = omega (arith, ints); west = λ same. absurd (omega (arith, ints)) }
from_beyond r s full (inr east) = record { north = (let row = east.0 in omega (arith, ints)); west = λ same. let gap = east.1 in omega (arith, ints) }

begins : (r s : Run) (rest rest' : List Run) → Sorted (r ∷ rest) → Sorted (s ∷ rest') → ((p : Point) → InSome (s ∷ rest') p → InSome (r ∷ rest) p) → BeginsBy r s
begins r s rest rest' is is' covers = ⊎_elim
    (λ in_r. from_run r s in_r)
    (λ later. from_beyond r s (is.full 0 r (omega arith)) (all_beyond r rest (start_of s) is later))
    (covers (start_of s) (inl (starts s (is'.full 0 s (omega arith)))))

-- the point just east of a run
past : Run → Point
past s = record { y = s.y; x = s.last +ℤ pos 1 }

not_past : (s : Run) (rest : List Run) → Sorted (s ∷ rest) → InSome (s ∷ rest) (past s) → ⊥
unfolding past Beyond
not_past s rest is (inl inside) = let east = inside.1.1 in absurd (omega (arith, ints))
not_past s rest is (inr later) = ⊎_elim (λ south. absurd (omega (arith, ints))) (λ east. let gap = east.1 in absurd (omega (arith, ints))) (all_beyond s rest (past s) is later)

reaches : (r s : Run) → s.y ≡ r.y → r.first ≡ s.first → s.first ≤ℤ s.last → s.last <ℤ r.last → IsInRun r (past s)
unfolding past
reaches r s row west full far = (row, (omega (arith, ints), omega (arith, ints)))

-- the run r ends no later than s
ends : (r s : Run) (rest rest' : List Run) → Sorted (s ∷ rest') → ((p : Point) → InSome (r ∷ rest) p → InSome (s ∷ rest') p) → s.y ≡ r.y → r.first ≡ s.first → r.last ≤ℤ s.last
ends r s rest rest' is' covers row west = elim (cases_Bool (int_lt s.last r.last)) [
  | inl far ↦ absurd (not_past s rest' is' (covers (past s) (inl (reaches r s row west (is'.full 0 s (omega arith)) (lt_true s.last r.last far)))))
  | inr near ↦ lt_false s.last r.last near
]

same_run : (r s : Run) → r.y ≡ s.y → r.first ≡ s.first → r.last ≡ s.last → r ≡ s
same_run r s hy hf hl = λ i. record { y = hy i; first = hf i; last = hl i }

tails : (r s : Run) (rest rest' : List Run) → r ≡ s → Sorted (r ∷ rest) → ((p : Point) → InSome (r ∷ rest) p → InSome (s ∷ rest') p) → (p : Point) → InSome rest p → InSome rest' p
tails r s rest rest' same is covers p later = search (rules, not_beyond, all_beyond)

one_sorted : (rs ss : List Run) → Sorted rs → Sorted ss → ((p : Point) → InSome rs p → InSome ss p) → ((p : Point) → InSome ss p → InSome rs p) → rs ≡ ss
one_sorted [] [] is is' to from = refl
one_sorted [] (s ∷ rest') is is' to from = absurd (from (start_of s) (inl (starts s (is'.full 0 s (omega arith)))))
one_sorted (r ∷ rest) [] is is' to from = absurd (to (start_of r) (inl (starts r (is.full 0 r (omega arith)))))
one_sorted (r ∷ rest) (s ∷ rest') is is' to from =
    let a = begins r s rest rest' is is' from in
    let b = begins s r rest' rest is' is to in
    let row : r.y ≡ s.y = ≤ℤ_antisym r.y s.y b.north a.north in
    let west : r.first ≡ s.first = ≤ℤ_antisym r.first s.first (a.west (sym row)) (b.west row) in
    let east : r.last ≡ s.last = ≤ℤ_antisym r.last s.last (ends r s rest rest' is' to (sym row) west) (ends s r rest' rest is from row (sym west)) in
    let same : r ≡ s = same_run r s row west east in
    ap₂ (λ u v. u ∷ v) same
    (one_sorted rest rest' (tail_sorted r rest is) (tail_sorted s rest' is') (tails r s rest rest' same is to) (tails s r rest' rest (sym same) is' from))

pub one_list_of_runs : (inside : Point → Type 0) (rs ss : List Run) → AreRuns inside rs → AreRuns inside ss → rs ≡ ss
one_list_of_runs inside rs ss hr hs = one_sorted rs ss
    (record { full = hr.full; in_order = hr.in_order }) (record { full = hs.full; in_order = hs.in_order })
    (λ p h. from_any ss p ((hs.covers p).1 ((hr.covers p).0 (to_any rs p h))))
    (λ p h. from_any rs p ((hr.covers p).1 ((hs.covers p).0 (to_any ss p h))))
