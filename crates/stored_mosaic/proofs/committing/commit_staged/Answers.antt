use Rattle.stored_mosaic.proofs.Prelude.{Commits, Err, IsApplied, IsStaged, Ok, OnOk, Refusal, Result, RootValue, Stored, ℕ, ap, disk_of, inl, inr, next_commit, on_ok, root_of, sinks_of, staged_in, subst, sym, ⊎_elim, ◌+◌, ◌<◌, ◌^◌, ◌∙◌}
use Rattle.stored_mosaic.proofs.Calls.Committed.{gives_up, fails_in_commit, commits_it}
use Rattle.cow_tree.proofs.Uncommitted.{given_up, refused_as}
use Rattle.stored_mosaic.proofs.committing.commit_staged.Goals as goal
use Rattle.stored_mosaic.proofs.committing.commit_staged.Goals.{After-commit}

pub returns-in-Err-clause-command : goal.returns-in-Err-clause-command
returns-in-Err-clause-command g c old command staged =
    let d = g.D.Disk in
    let mid = c.args.tree.now in
    let new = c.abandon.new.self in
    let r : Refusal = c.in-Err.refusal in
    let refused : IsStaged d old mid command (Err r) = subst (λ (answer : Result (Unit {0}) Refusal). IsStaged d old mid command answer) c.in-Err.is staged in
    gives_up d old new command refused.working r
    (given_up d old mid new (Err r) refused.uncommitted c.abandon.ensures.no_call c.abandon.ensures.at)
    (⊎_elim (λ device. inl device) (λ no_room. inr (no_room.0, c.abandon.ensures.no_call.failed ∙ no_room.1, ap d.writes c.abandon.ensures.no_call.disk ∙ no_room.2)) refused.refused)
    (λ honest s at works.
    let sound = at.sound refused.working in
    let mid_honest = subst d.honest c.abandon.ensures.no_call.disk honest in
    let mid_at = refused.uncommitted.at mid_honest sound.stored sound.tree (sym c.abandon.ensures.no_call.failed ∙ works) in
    (c.abandon.ensures.committed mid_honest sound.stored mid_at, c.abandon.ensures.undeclared mid_honest sound.stored mid_at))

-- the commit of what was staged
module _ (g : _) (c : After-commit g) where
  abbrev Makes : Stored → Stored
  Makes s = next_commit s (sinks_of c.args.tree.now) (staged_in g.D.Disk c.args.tree.now) (c.count-count.result + 1)

  commits : Commits g.D.Disk Makes c.args.tree.now c.commit.new.self c.commit.result
  commits = let does = c.commit.ensures in record {
    returns = does.returns;
    side = does.side;
    capacity = does.capacity;
    number = does.number;
    last_known = does.last_known;
    clean = does.clean;
    declared = on_ok c.commit.result (λ declared. does.sinks ∙ sym declared) does.declared;
    at = does.at;
    run = does.any_moment;
  }

pub returns-in_err-commit-clause-command : goal.returns-in_err-commit-clause-command
returns-in_err-commit-clause-command g c old command staged =
    let d = g.D.Disk in
    let mid = c.args.tree.now in
    let new = c.commit.new.self in
    let after = (goal.at.returns-in_err-commit-clause-command g c).After-commit in
    let done : IsStaged d old mid command (Ok tt) = subst (λ (answer : Result (Unit {0}) Refusal). IsStaged d old mid command answer) c.in_default.is staged in
    let refused = ap (λ (r : Refusal). let answer : Result (Unit {0}) Refusal = Err r in answer) c.in_err-commit.ensures.refused in
    subst (λ (result : Result ℕ Refusal). IsApplied d command result old new)
    (sym (refused_as c.from_residual.result c.in_err-commit.field-0.0 c.from_residual.ensures.1 ∙ ap (λ (r : Refusal). Err r) c.in_err-commit.ensures.refused))
    (fails_in_commit d old mid new command done (c.count-count.result + 1)
    (ap (λ (k : ℕ). k + 1) (c.count-count.ensures.value ∙ ap (λ (r : RootValue). r.count) c.current.ensures))
    (subst (λ (answer : Result (Unit {0}) Refusal). OnOk answer ((root_of mid).number + 1 < 2 ^ 64)) c.in_default.is c.requires.number)
    (subst (λ (answer : Result (Unit {0}) Refusal). Commits d (Makes g after) mid new answer) (c.in_err-commit.was ∙ refused) (commits g after)))

pub returns-clause-command : goal.returns-clause-command
returns-clause-command g c old command staged =
    let d = g.D.Disk in
    let mid = c.args.tree.now in
    let new = c.commit.new.self in
    let after = (goal.at.returns-clause-command g c).After-commit in
    let done : IsStaged d old mid command (Ok tt) = subst (λ (answer : Result (Unit {0}) Refusal). IsStaged d old mid command answer) c.in_default.is staged in
    commits_it d old mid new command done (c.count-count.result + 1)
    (ap (λ (k : ℕ). k + 1) (c.count-count.ensures.value ∙ ap (λ (r : RootValue). r.count) c.current.ensures))
    (subst (λ (answer : Result (Unit {0}) Refusal). OnOk answer ((root_of mid).number + 1 < 2 ^ 64)) c.in_default.is c.requires.number)
    (subst (λ (answer : Result (Unit {0}) Refusal). Commits d (Makes g after) mid new answer) c.in_ok-commit.was (commits g after))
    c.commit.ensures.version c.in_ok-commit.ensures.count (g.met.D.Disk.seen_may (disk_of new))
