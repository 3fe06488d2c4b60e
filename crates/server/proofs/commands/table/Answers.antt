use Rattle.std.proofs.Common.{rules, ◌≡◌, ◌≤◌, ℕ, inr, ap, sym, subst}
use Rattle.lattice.specs.Limits.{largest_side, most_tiles}
use Rattle.engine.specs.Events.{Happens}
use Rattle.engine.specs.State.{fresh, working}
use Rattle.serving.specs.Answers.{Replied}
use Rattle.serving.specs.Promises.{side_in}
use Rattle.serving.specs.Served.{Outcome}
use Rattle.server.proofs.commands.table.Goals as goal

pub returns : goal.returns
returns g c =
    let side_is : c.in-Some.side ≡ c.args.side = search rules in
    let served = c.serve_lines-served in
    let run = served.ensures.calls.1.1.states tt (working (fresh c.in-Some.side)) (sym (ap working c.new-engine.ensures.empty)) in
    let outcome = subst (λ (k : ℕ). Outcome c.args.language (Replied (Happens k) side_in) (g.R.Read.remaining c.args.reader.now) (g.R.Read.remaining served.new.reader) (g.O.Output.stream c.args.writer.now).contents (g.O.Output.stream served.new.writer).contents (working (fresh c.in-Some.side)) run.0 served.result)
    c.new-engine.ensures.capacity run.1.outcome in
    let low : 3 ≤ c.args.side = search rules in
    let high : c.args.side ≤ largest_side = search rules in
    let some : 1 ≤ c.args.capacity = search rules in
    let few : c.args.capacity ≤ most_tiles = search rules in
    inr (inr (
      record { side_low = low; side_high = high; capacity_low = some; capacity_high = few },
      (
        run.0,
        g.O.Output.stream served.new.writer,
        served.result,
        subst (λ (n : ℕ). Outcome c.args.language (Replied (Happens c.args.capacity) side_in) (g.R.Read.remaining c.args.reader.now) (g.R.Read.remaining served.new.reader) (g.O.Output.stream c.args.writer.now).contents (g.O.Output.stream served.new.writer).contents (working (fresh n)) run.0 served.result) side_is outcome,
        served.ensures.end,
        c.end_session.ensures served.ensures.output.caused,
      ),
    ))
