use Rattle.store.proofs.Prelude.{MakesCallsOf, Store, on_ok, subst}
use Rattle.store.proofs.Calls.Runs.{calls_of_run}
use Rattle.store.proofs.sessions.run_in_session.Goals as goal

pub returns-clause-ran : goal.returns-clause-ran
returns-clause-ran g c =
    let old = c.args.store.now in
    on_ok c.run.result
    (λ (replies, are, (stores, (is, run))). (
      replies,
      are,
      subst (λ (last : Store _ g.D.Disk). MakesCallsOf g.D.Disk old last c.args.events.now replies) is (calls_of_run g.D.Disk old c.args.events.now replies stores run.answered),
    ))
    c.run.ensures.ran
