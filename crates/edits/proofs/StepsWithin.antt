-- Which steps along a tile lead to values between a first and a last one, ends included.
use Rattle.std.proofs.Common.{◌≡◌, ℕ, ◌+◌, ◌-◌, ◌≤◌, ◌<◌, ℤ, pos, ◌+ℤ◌, ◌-ℤ◌, ◌*ℤ◌, ◌≤ℤ◌, ◌<ℤ◌, inl, inr, subst, arith}
use Rattle.std.proofs.lemmas.Bool.{cases_lt}
use Rattle.lattice.proofs.IntTests.{le_from, le_true}
use Rattle.edits.proofs.Prelude.{ints}
use Rattle.edits.specs.TileRows.{AreStepsWithin}
use Rattle.edits.specs.declared.steps.Steps.{Steps}

-- This many of the steps from 0 to m are below a number of steps.
pub record CountsBelow (m : ℕ) (steps : ℤ) (count : ℕ) : Type 0 where
  pub most : count ≤ m + 1
  pub below : (k : ℕ) → k < count → pos k <ℤ steps
  pub from : (k : ℕ) → k ≤ m → count ≤ k → steps ≤ℤ pos k

first_before : (s first : ℤ) (k : ℕ) → (first -ℤ s) ≤ℤ pos k → first ≤ℤ (s +ℤ pos k)
first_before s first k h = omega (arith, ints)

last_after : (s last : ℤ) (k : ℕ) → pos k <ℤ ((last -ℤ s) +ℤ pos 1) → (s +ℤ pos k) ≤ℤ last
last_after s last k h = omega (arith, ints)

not_first : (s first : ℤ) (k : ℕ) → pos k <ℤ (first -ℤ s) → first ≤ℤ (s +ℤ pos k) → ⊥
not_first s first k h from = omega (arith, ints)

not_last : (s last : ℤ) (k : ℕ) → ((last -ℤ s) +ℤ pos 1) ≤ℤ pos k → (s +ℤ pos k) ≤ℤ last → ⊥
not_last s last k h to = omega (arith, ints)

pub steps_are : (m : ℕ) (corner first last : ℤ) (before end : ℕ) → CountsBelow m (first -ℤ corner *ℤ pos m) before → CountsBelow m ((last -ℤ corner *ℤ pos m) +ℤ pos 1) end
    → AreStepsWithin m corner first last (record { first = before; count = end - before })
steps_are m corner first last before end low high =
    let s = corner *ℤ pos m in
    record {
      few = omega (arith, low.most, high.most);
      within = λ k from below.
          let under : k < end = omega (arith, from, below) in
          (le_from first (s +ℤ pos k) (first_before s first k (low.from k (omega (arith, under, high.most)) from)), le_from (s +ℤ pos k) last (last_after s last k (high.below k under)));
      all = λ k small from to.
          let above : before ≤ k = elim (cases_lt k before) [
            | inl less ↦ absurd (not_first s first k (low.below k less) (le_true first (s +ℤ pos k) from))
            | inr more ↦ more
          ] in
          let under : k < end = elim (cases_lt k end) [
            | inl less ↦ less
            | inr more ↦ absurd (not_last s last k (high.from k small more) (le_true (s +ℤ pos k) last to))
          ] in
          (above, omega (arith, above, under));
    }

-- the same for equal values
pub steps_at : (n k : ℕ) (c c2 f f2 l l2 : ℤ) (s : Steps) → n ≡ k → c2 ≡ c → f2 ≡ f → l2 ≡ l → AreStepsWithin (n - 1) c2 f2 l2 s → AreStepsWithin (k - 1) c f l s
steps_at n k c c2 f f2 l l2 s side at from to are =
    subst (λ (j : ℕ). AreStepsWithin (j - 1) c f l s) side
    (subst (λ (z : ℤ). AreStepsWithin (n - 1) z f l s) at
    (subst (λ (z : ℤ). AreStepsWithin (n - 1) c2 z l s) from
    (subst (λ (z : ℤ). AreStepsWithin (n - 1) c2 f2 z s) to are)))
