use Rattle.std.proofs.Common.{Err, [], ◌∷◌, inl, inr, refl, sym, ◌∙◌, ap}
use Rattle.store.specs.Sessions.{Unopened, Ended}
use Rattle.store.specs.Stores.{disk_of}
use Rattle.server.proofs.Replies.{served}
use Rattle.server.proofs.disks.serve_store.Goals as goal

pub returns-in-Err : goal.returns-in-Err
returns-in-Err g c = (Unopened c.args.disk (Err c.in-Err.refused) ∷ [], inl (c.in-Err.refused, refl, c.in-Err.ensures, refl, (refl, c.refuse.ensures)))

pub returns : goal.returns
returns g c =
    let store = c.in-Ok.store in
    let (stores, (last, serves)) = c.serve_lines-served.ensures.calls in
    let by = served g.D.Disk store _ (λ old i text new told. told.replied) c.args.language stores (g.R.Read.remaining c.args.reader.now) (g.R.Read.remaining c.serve_lines-served.new.reader) (g.O.Output.stream c.args.writer.now).contents
    (g.O.Output.stream c.serve_lines-served.new.writer).contents c.serve_lines-served.result serves.answers in (
      Ended c.args.disk store by.calls ∷ [],
      inr (
        store,
        by.calls,
        refl,
        c.in-Ok.ensures,
        by.made,
        ap disk_of (by.ends ∙ last) ∙ sym c.into_disk.ensures,
        (c.serve_lines-served.result, g.O.Output.stream c.serve_lines-served.new.writer, by.told, c.serve_lines-served.ensures.end, c.end_session.ensures c.serve_lines-served.ensures.output.caused),
      ),
    )
