-- A search for a void sample, one sample after another.
use Rattle.edits.proofs.Prelude.{Ghosts, Mosaic, Ok, OnlyReads, arith, cases_eq, inl, inr, reads_nothing, reads_on, subst, sym, ℕ, ◌+◌, ◌<◌}

-- The property is true for each of the first k numbers, by the samples that were read.
pub record EachSoFar {S : Type 0} (g : Ghosts S) (P : Mosaic → ℕ → Type 0) (k : ℕ) (old now : S) : Type 0 where
  pub reads : OnlyReads {T = Unit {0}} g old now (Ok tt)
  pub each : g.is_honest now → (i : ℕ) → i < k → P (g.mosaic old) i

module _ {S : Type 0} (g : Ghosts S) (P : Mosaic → ℕ → Type 0) where
  pub each_start : ((s : S) → g.keeps s s) → (s : S) → EachSoFar g P 0 s s
  each_start keeps_itself s = record { reads = reads_nothing g keeps_itself s tt; each = λ _ i below. absurd (omega (arith, below)) }

  pub each_on : ((a b c : S) → g.keeps a b → g.keeps b c → g.keeps a c) → (k : ℕ) (old mid now : S) → EachSoFar g P k old mid → OnlyReads {T = Unit {0}} g mid now (Ok tt)
      → (g.is_honest now → P (g.mosaic mid) k) → EachSoFar g P (k + 1) old now
  each_on keeps_on k old mid now so read next = record {
    reads = reads_on g keeps_on old mid now tt (Ok tt) so.reads read;
    each = λ honest i below. elim (cases_eq i k) [
      | inl this ↦ subst (λ (j : ℕ). P (g.mosaic old) j) (sym this) (subst (λ (m : Mosaic). P m k) (so.reads.mosaic (read.honest honest)) (next honest))
      | inr before ↦ so.each (read.honest honest) i (omega (arith, below, before))
    ];
  }
