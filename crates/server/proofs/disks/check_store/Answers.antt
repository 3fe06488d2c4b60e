use Rattle.std.proofs.Common.{Err, [], ◌∷◌, inl, inr, refl, sym}
use Rattle.engine.specs.Engines.{items_in}
use Rattle.store.specs.Sessions.{CountedSeams, Unopened, Ended}
use Rattle.server.proofs.disks.check_store.Goals as goal

pub returns-in-Err : goal.returns-in-Err
returns-in-Err g c = (Unopened c.args.disk (Err c.in-Err.refused) ∷ [], inl (c.in-Err.refused, refl, c.in-Err.ensures, refl, c.refuse.ensures))

pub returns : goal.returns
returns g c =
    let store = c.in-Ok.store in
    let calls = record { call = CountedSeams c.seams-seams.result; store = c.seams-seams.new.self } ∷ [] in
    let report = c.report-reported.ensures in (
      Ended c.args.disk store calls ∷ [],
      inr (
        store,
        calls,
        refl,
        c.in-Ok.ensures,
        ((c.seams-seams.ensures.reads, c.seams-seams.ensures.outcome), tt),
        sym c.into_disk.ensures,
        (items_in c.report-reported.result, c.seams-seams.result, refl, record { refused = report.refused; memory = report.memory; lines = report.lines; report = report.report }, c.end_report.ensures),
      ),
    )
