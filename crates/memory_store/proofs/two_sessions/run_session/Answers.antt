use Rattle.std.proofs.Common.{[], Err, refl, sym, ap, ◌∙◌}
use Rattle.std.proofs.lemmas.List.{append-nil}
use Rattle.store.specs.Sessions.{Unopened, Ended}
use Rattle.store.specs.Stores.{disk_of}
use Rattle.memory_store.proofs.two_sessions.run_session.Goals as goal

pub returns-in_ok-run_in_session-in-Ok-clause-session : goal.returns-in_ok-run_in_session-in-Ok-clause-session
returns-in_ok-run_in_session-in-Ok-clause-session c =
    let (answers, are, (calls, made, ends, asks)) = c.in_ok-run_in_session-in-Ok.ensures.ran in
    (answers, are, (Ended c.args.disk c.in-Ok.opened calls, (c.in-Ok.ensures, made), refl, ap disk_of ends ∙ sym c.into_disk.ensures, asks))

pub returns-in_default-clause-session : goal.returns-in_default-clause-session
returns-in_default-clause-session c = (
  [],
  sym (append-nil c.args.out.now.items),
  (
    Unopened c.args.disk (Err c.in-Err.not_opened),
    c.in-Err.ensures,
    refl,
    refl,
    (c.in_default.not-NoMemory, refl),
  ),
)
