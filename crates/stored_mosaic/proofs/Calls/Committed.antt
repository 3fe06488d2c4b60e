-- How a command ends, shown from the trees before and after its steps. It commits nothing, or it commits what was staged.
use Rattle.std.proofs.Common.{rules}
use Rattle.stored_mosaic.proofs.Prelude.{AppliesNot, Command, Commits, CommitsNothing, Contents, Device, Err, Failed, Ghosts, Holds, IsApplied, IsInState, IsStaged, IsTrue, Mosaic, NoMemory, Ok, Refusal, Result, RootValue, State, Stored, Tree, Worn, ℕ, ap, arith, command_ending, commits_after, disk_of, effect, ends_any, false, has_failed, in_doubt, is_own, last_number, made_by, may_end, next_commit, or_right, refl, root_of, sinks_of, staged_in, subst, sym, true, unless_refused, ⊎_elim, ◌+◌, ◌<◌, ◌^◌, ◌∙◌, ◌≡◌, ◌≢◌, ◌⊎◌}
use Rattle.engine.specs.Told.{may_refuse_command}
use Rattle.stored_mosaic.proofs.Calls.Ended as ended
use Rattle.stored_mosaic.proofs.Reading.InMemory.{is_working}
use Rattle.engine.proofs.Applying.{fails, doubt_is, no_memory}

-- A refusal that may end any command may end this one.
pub ends_command : (command : Command) (r : Refusal) → IsTrue (ends_any r) → IsTrue (may_refuse_command command r)
ends_command command Worn ends = refl
ends_command command r ends = or_right (is_own command r) (ends_any r) ends

pub may_end_it : (command : Command) (r : Refusal) → IsTrue (may_end command r) → IsTrue (may_refuse_command command r)
may_end_it command Worn may = refl
may_end_it command r may = may

module _ {D : Type 0} (g : Ghosts D) (old new : Tree D g) (command : Command) (works : has_failed old ≡ false) where
  module _ {T : Type 0} (result : Result T Refusal) (done : CommitsNothing g old new result) where
    -- the case of a disk that failed before the commit
    pub fails_before : result ≡ Err Device → IsApplied g command (Err Device) old new
    fails_before is =
        ended.fails_before g (command_ending (root_of old).capacity command) old new works (λ s. IsInState g old s) (λ s at. at) result done (λ s. in_doubt (root_of old).capacity s.contents command) (ends_command command Device refl)
        (λ s at. fails (root_of old).capacity s command (is_working g old works s at)) is

    -- the case of a disk that didn't fail
    pub quiet : (still : has_failed new ≡ false) → (g.honest (disk_of new) → (s : State) → (at : IsInState g old s) → (staged_in g new ≡ (at.sound works).stored.tiles) × (sinks_of new ≡ (at.sound works).stored.sinks))
        → (r : Refusal) → r ≢ Device → r ≢ Failed → IsTrue (may_refuse_command command r) → g.writes (disk_of new) ≡ g.writes (disk_of old)
        → (g.honest (disk_of new) → (s : State) → IsInState g old s → AppliesNot (root_of old).capacity s command r s) → IsApplied g command (Err r) old new
    quiet still clean r other not_failed cause unwritten refused =
        ended.quiet g (command_ending (root_of old).capacity command) old new works (λ s. IsInState g old s) (λ s at. at) result done still clean (Err r) (ended.other_refusal r other) (cause, not_failed) tt unwritten refused

-- the case of staged changes that are dropped

pub gives_up : {D : Type 0} (g : Ghosts D) (old new : Tree D g) (command : Command) (works : has_failed old ≡ false) (r : Refusal) → CommitsNothing {T = Unit {0}} g old new (Err r)
    → (r ≡ Device) ⊎ ((r ≡ NoMemory) × (has_failed new ≡ false) × (g.writes (disk_of new) ≡ g.writes (disk_of old)))
    → (g.honest (disk_of new) → (s : State) → (at : IsInState g old s) → has_failed new ≡ false
    → (staged_in g new ≡ (at.sound works).stored.tiles) × (sinks_of new ≡ (at.sound works).stored.sinks))
    → IsApplied g command (Err r) old new
gives_up g old new command works r done why clean =
    ⊎_elim
    (λ device.
    subst (λ (x : Refusal). IsApplied g command (Err x) old new) (sym device) (fails_before g old new command works (Err r) done (ap (λ (x : Refusal). Err x) device)))
    (λ no_room.
    quiet g old new command works (Err r) done no_room.1 (λ honest s at. clean honest s at no_room.1) r
    (λ device. let memory = no_room.0 in cc) (λ failed. let memory = no_room.0 in cc)
    (subst (λ (x : Refusal). IsTrue (may_refuse_command command x)) (sym no_room.0) (ends_command command NoMemory refl)) no_room.2
    (λ honest s at. subst (λ (x : Refusal). AppliesNot (root_of old).capacity s command x s) (sym no_room.0) (no_memory (root_of old).capacity s command (is_working g old works s at))))
    why

-- ---- the commit

module _ {D : Type 0} (g : Ghosts D) (old mid new : Tree D g) (command : Command) (staged : IsStaged g old mid command (Ok tt)) (count : ℕ) (counted : count ≡ (root_of mid).count + 1) (room : (root_of mid).number + 1 < 2 ^ 64) where
  -- how the commit changes what was stored
  abbrev Makes : Stored → Stored
  Makes stored = next_commit stored (sinks_of mid) (staged_in g mid) count

  counted_at : (s : State) → IsInState g old s → count ≡ s.contents.count + 1
  counted_at s at = counted ∙ ap (λ (k : ℕ). k + 1) (ap (λ (r : RootValue). r.count) staged.uncommitted.root ∙ at.count)

  number_at : (s : State) → IsInState g old s → s.contents.number < last_number
  number_at s at = let number : (root_of mid).number ≡ s.contents.number = ap (λ (r : RootValue). r.number) staged.uncommitted.root ∙ at.number in omega (arith, room, number)

  -- the mosaic that the command makes of the contents
  abbrev made_of : State → Mosaic
  made_of s = unless_refused s.contents.mosaic (effect (root_of old).capacity s.contents.mosaic command)

  abbrev made : State → Contents
  made s = made_by s.contents command (made_of s)

  module _ (honest : g.honest (disk_of mid)) (s : State) (at : IsInState g old s) where
    -- The mosaic is the effect of the command, as it was staged.
    makes : effect (root_of old).capacity s.contents.mosaic command ≡ Ok (made_of s)
    makes = let next = staged.next honest s at in next.makes ∙ ap (λ (m : Mosaic). let r : Result Mosaic Refusal = Ok m in r) (sym (ap (unless_refused s.contents.mosaic) next.makes))

    holds : Holds (root_of old).side (root_of old).capacity (next_commit (at.sound staged.working).stored (sinks_of mid) (staged_in g mid) count) (made s)
    holds =
        let next = staged.next honest s at in
        subst (λ (k : ℕ). Holds (root_of old).side (root_of old).capacity (next_commit (at.sound staged.working).stored (sinks_of mid) (staged_in g mid) k) (made s)) (sym (counted_at s at))
        (subst (λ (m : Mosaic). Holds (root_of old).side (root_of old).capacity (next_commit (at.sound staged.working).stored (sinks_of mid) (staged_in g mid) (s.contents.count + 1)) (made_by s.contents command m)) (sym (ap (unless_refused s.contents.mosaic) next.makes)) next.will)

  -- The commit was refused.
  pub fails_in_commit : Commits {T = Unit {0}} g Makes mid new (Err Device) → IsApplied g command (Err Device) old new
  fails_in_commit commits =
      let all = commits_after g Makes old mid new tt (Err Device) staged.uncommitted commits in
      ended.fails_in_commit g (command_ending (root_of old).capacity command) old new staged.working (λ s. IsInState g old s) (λ s at. at) made Makes (λ h s at. holds (commits.returns.honest h) s at)
      (λ s. in_doubt (root_of old).capacity s.contents command) (λ h s at. doubt_is (root_of old).capacity s.contents command (made_of s) (number_at s at) (makes (commits.returns.honest h) s at)) (ends_command command Device refl)
      (λ s at. fails (root_of old).capacity s command (is_working g old staged.working s at)) all

  -- The commit was made.
  pub commits_it : Commits {T = Unit {0}} g Makes mid new (Ok tt) → (root_of new).version ≡ (root_of mid).version → (root_of new).count ≡ count → (g.honest (disk_of new) → g.may (disk_of new) (g.seen (disk_of new))) → IsApplied g command (Ok count) old new
  commits_it commits version new_count seen =
      let all = commits_after g Makes old mid new tt (Ok tt) staged.uncommitted commits in
      ended.commits_it g (command_ending (root_of old).capacity command) old new staged.working (λ s. IsInState g old s) (λ s at. at) made Makes (λ h s at. holds (commits.returns.honest h) s at) count all (
        counted ∙ ap (λ (r : RootValue). r.count + 1) staged.uncommitted.root,
        ended.known_as (root_of old) (root_of new) count ((root_of old).number + 1) (version ∙ ap (λ (r : RootValue). r.version) staged.uncommitted.root) new_count all.number,
      )
      refl seen
      (λ h s at. record {
        working = is_working g old staged.working s at;
        effect_is = (
          made_of s,
          (makes (commits.returns.honest h) s at, (ended.commits_made g (command_ending (root_of old).capacity command) old new staged.working (λ s. IsInState g old s) (λ z is. is) made s at (number_at s at)).made_is),
        );
        counted = counted_at s at;
        room = number_at s at;
      })
