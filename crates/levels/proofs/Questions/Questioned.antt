-- A query that was refused after tiles were loaded.
use Rattle.levels.proofs.Prelude.{Damaged, Err, Ghosts, IsGrown, IsRefused, IsRight, Known, NoMemory, Ok, OnlyReads, Refusal, asked, inl, inr, refl, subst, sym, ◌≡◌, ◌⊎◌}

module _ {S : Type 0} (g : Ghosts S) (a b : S) (known known' : Known) where
  -- after loading tiles the call was refused for lack of memory, or for data that no mosaic can have
  pub own_refused : (r : Refusal) (Q : Type 0) → IsGrown g a b known known' → OnlyReads {T = Unit {0}} g a b (Ok tt) → (r ≡ NoMemory) ⊎ ((r ≡ Damaged) × Q)
      → (g.is_honest b → IsRight (g.mosaic a) known → Q → ⊥) → IsRefused g a b known known' r
  own_refused r Q grown reads (inl memory) never = subst (IsRefused g a b known known') (sym memory)
      (record { grown = grown; cause = refl; asked = λ _. asked g a b tt (Err NoMemory) reads tt (λ _ _ e. absurd (cc)) })
  own_refused r Q grown reads (inr (damaged, q)) never = subst (IsRefused g a b known known') (sym damaged)
      (record { grown = grown; cause = refl; asked = λ right. asked g a b tt (Err Damaged) reads tt (λ honest _ _. never honest (right honest) q) })
