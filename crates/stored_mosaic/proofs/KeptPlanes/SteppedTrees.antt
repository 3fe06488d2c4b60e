-- A step of a store, from the step of its tree.
use Rattle.stored_mosaic.proofs.Prelude.{Bool, Contains, Corner, Device, Ending, EndsAt, Err, Failed, Ghosts, Holds, IsInState, List, Mosaic, NoMemory, None, Ok, Option, Refusal, Result, Some, State, Stays, Tree, Worn, ℕ, ap, arith, disk_of, failing, false, has_failed, known_by, last_number, refl, root_of, settled_at, sinks_of, staged_in, step_ending, step_in_doubt, stepped, subst, sym, true, ⊎_elim, ◌+◌, ◌<◌, ◌∙◌, ◌≡◌}
use Rattle.derived.specs.Steps.{StaysClean, MayStep, Steps, HasStepped}
use Rattle.stored_mosaic.proofs.Calls.Ended as ended
use Rattle.stored_mosaic.proofs.Reading.InMemory.{is_working}
use Rattle.stored_mosaic.proofs.KeptPlanes.SteppedTiles.{stored_mosaic, stored_right, stepped_holds}

-- the step from each state that meets the premise
module _ {D : Type 0} (g : Ghosts D) (seen : (disk : D) → g.honest disk → g.may disk (g.seen disk)) (P : Mosaic → Type 0) (Was : State → Type 0) (old new : Tree D g) (leads : (s : State) → Was s → IsInState g old s × P s.contents.mosaic) where
  abbrev ending : Ending (Option Corner)
  ending = step_ending (root_of old).capacity

  abbrev Ends : Result (Option Corner) Refusal → Type 0
  Ends result = EndsAt g (step_ending (root_of old).capacity) result old new Was (λ t. IsInState g new t)

  at : (s : State) → Was s → IsInState g old s
  at s was = (leads s was).0

  module _ (works : has_failed old ≡ false) where
    stays_at : (s : State) → Was s → Stays s s
    stays_at s was = record { working = is_working g old works s (at s was); same = refl }

    -- the case of no step
    module _ (result : Result (Unit {0}) Refusal) (stays : StaysClean g old new result) where
      clean : g.honest (disk_of new) → (s : State) → (was : Was s) → (staged_in g new ≡ ((at s was).sound works).stored.tiles) × (sinks_of new ≡ ((at s was).sound works).stored.sinks)
      clean honest s was =
          let sound = (at s was).sound works in
          let now = settled_at g new sound.stored stays.clean.unstaged stays.declared (stays.uncommitted.at honest sound.stored sound.tree stays.works) (seen (disk_of new) honest) in
          (now.tiles, now.sinks)

    stale_known : (c : Corner) → MayStep (root_of old) c → (s : State) → Was s → Contains s.contents.stale c
    stale_known c may s was = subst (λ (cs : List Corner). Contains cs c) (at s was).stale may.stale

    number_at : (c : Corner) → MayStep (root_of old) c → (s : State) → Was s → s.contents.number < last_number
    number_at c may s was = let number = (at s was).number in omega (arith, may.room, number)

    -- What is stored after the step are the contents after the step.
    holds : (c : Corner) (result : Result (Unit {0}) Refusal) → (steps : Steps g P old new c result) → g.honest (disk_of new) → (s : State) → (was : Was s)
        → Holds (root_of old).side (root_of old).capacity (steps.makes ((at s was).sound works).stored) (stepped c s.contents)
    holds c result steps honest s was =
        let sound = (at s was).sound works in
        let n : ℕ = (root_of old).side in
        let k : ℕ = (root_of old).capacity in
        stepped_holds n k sound.stored s.contents sound.holds c (steps.makes sound.stored)
        (steps.stepped honest sound.stored (subst P (sym (stored_mosaic n k sound.stored s.contents sound.holds)) (leads s was).1) sound.tree (stored_right n k sound.stored s.contents sound.holds))

    fails_at : (c : Corner) → MayStep (root_of old) c → (s : State) → Was s → ending.Happens s (Err Device) (failing s (step_in_doubt s.contents (Some c)))
    fails_at c may s was = (Some c, (stale_known c may s was, record { working = is_working g old works s (at s was); fails = refl }))

    by_result : (result : Result (Option Corner) Refusal) → HasStepped g P old new result → Ends result
    by_result (Ok None) (stays, none) =
        ended.quiet g ending old new works Was at (Ok tt) stays.uncommitted stays.works (clean (Ok tt) stays) (Ok None) (ended.no_fault None) tt (ap known_by stays.uncommitted.root) stays.writes
        (λ honest s was. (stays_at s was, sym (at s was).stale ∙ none))
    by_result (Ok (Some c)) (may, steps) =
        ended.commits_it g ending old new works Was at (λ s. stepped c s.contents) steps.makes (holds c (Ok tt) steps) (Some c) steps.commits
        (ended.known_as (root_of old) (root_of new) (root_of old).count ((root_of old).number + 1) steps.same_version steps.same_count steps.commits.number) refl (seen (disk_of new))
        (λ honest s was. (stale_known c may s was, ended.commits_made g ending old new works Was at (λ t. stepped c t.contents) s was (number_at c may s was)))
    by_result (Err Device) (c, may, why) =
        ⊎_elim
        (λ done. ended.fails_before g ending old new works Was at (Err Device) done (λ s. step_in_doubt s.contents (Some c)) refl (fails_at c may) refl)
        (λ steps.
        ended.fails_in_commit g ending old new works Was at (λ s. stepped c s.contents) steps.makes (holds c (Err Device) steps) (λ s. step_in_doubt s.contents (Some c))
        (λ honest s was. ended.is_doubted s.contents (stepped c s.contents) (number_at c may s was)) refl (fails_at c may) steps.commits)
        why
    by_result (Err NoMemory) stays =
        ended.quiet g ending old new works Was at (Err NoMemory) stays.uncommitted stays.works (clean (Err NoMemory) stays) (Err NoMemory) (ended.other_refusal NoMemory (λ e. cc)) (refl, λ e. cc) tt stays.writes
        (λ honest s was. stays_at s was)
    by_result (Err Worn) (stays, worn, some) =
        ended.quiet g ending old new works Was at (Ok tt) stays.uncommitted stays.works (clean (Ok tt) stays) (Err Worn) (ended.other_refusal Worn (λ e. cc)) (refl, λ e. cc) tt stays.writes
        (λ honest s was. (record { stays = stays_at s was; worn = sym (at s was).number ∙ worn }, λ none. some ((at s was).stale ∙ none)))
    by_result (Err r) is = absurd is

  -- the case of a tree that had failed, and of one that hadn't
  pub stepped_by : (result : Result (Option Corner) Refusal) → (has_failed old ≡ true → (result ≡ Err Failed) × (new ≡ old)) → (has_failed old ≡ false → HasStepped g P old new result) → Ends result
  stepped_by result failed steps = by (has_failed old) refl
    where
      by : (b : Bool) → has_failed old ≡ b → Ends result
      by true fails =
          let same = failed fails in
          subst (λ (t : Tree _ g). EndsAt g ending result old t Was (λ s. IsInState g t s)) (sym same.1)
          (subst (λ (answer : Result (Option Corner) Refusal). EndsAt g ending answer old old Was (λ s. IsInState g old s)) (sym same.0)
          (ended.had_failed g ending old Was at fails refl (λ s had. record { failed = had; same = refl })))
      by false works = by_result works result (steps works)
