-- What a query changes in the cache of water.
use Rattle.store.proofs.Prelude.{Device, DrainageCache, Err, Ghosts, HasOnlyRead, IfErr, IfOk, IsHeldOf, IsHolding, IsInState, Mosaic, None, Ok, OnErr, OnOk, Refusal, Result, State, Tree, disk_of, failing, false, has_failed, mosaic_of, subst, sym, ◌≡◌}
use Rattle.stored_mosaic.proofs.Reading.Querying.{failing_at, mosaic_at, still_at, true_where}

module _ {D : Type 0} (g : Ghosts D) (tree : Tree D g) (works : has_failed tree ≡ false) (s : State) (at : IsInState g tree s) where
  -- The cache is right for the tree's mosaic.
  pub right_at : (held : DrainageCache) → IsHeldOf s.contents.mosaic held → IsHeldOf (mosaic_of g tree) held
  right_at held = subst (λ (m : Mosaic). IsHeldOf m held) (sym (mosaic_at g tree works s at))

module _ {D : Type 0} (g : Ghosts D) (old new : Tree D g) (works : has_failed old ≡ false) (keeps : HasOnlyRead g old new) where
  module _ (honest : g.honest (disk_of new)) (s : State) (at : IsInState g old s) where
    -- the answer of a call that is refused only with Device and leaves the cache unchanged
    pub answered : {T : Type 0} (held : DrainageCache) → IsHeldOf s.contents.mosaic held → (Answers : State → Result T Refusal → State → Type 0) (result : Result T Refusal)
        → OnOk result (has_failed new ≡ false) → OnErr result (¬ (has_failed new ≡ false)) → IfErr result (λ r. r ≡ Device)
        → Answers s (Err Device) (failing s None) → IfOk result (λ x. Answers s (Ok x) s)
        → (t : State) × (IsHolding g new held t × Answers s result t)
    answered held right Answers (Ok x) still fails device refused ok = (s, (record { in_state = still_at g old new works keeps honest s at still; right = right }, ok))
    answered held right Answers (Err r) still fails device refused ok = (
      failing s None,
      (
        record { in_state = failing_at g old new works keeps honest s at (true_where (has_failed new) fails); right = right },
        subst (λ (why : Refusal). Answers s (Err why) (failing s None)) (sym device) refused,
      ),
    )
