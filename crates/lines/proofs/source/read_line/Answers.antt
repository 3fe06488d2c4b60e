use Rattle.std.proofs.Common.{rules, arith, ◌≡◌, ◌≢◌, ◌++◌, take, ◌+◌, length, [], ap, ◌∙◌}
use Rattle.std.proofs.lemmas.List.{drop_all}
use Rattle.std.proofs.lemmas.List.Elements.{All-append}
use Rattle.lines.proofs.AheadLemmas.{Consumes-rest, Consumes-feed, rest_of}
use Rattle.lines.proofs.source.read_line.Goals as goal

pub returns-in-Some-clause-ok : goal.returns-in-Some-clause-ok
returns-in-Some-clause-ok g c =
    let ahead = c.make_ready.new.self.bytes in
    let before = c.loop-ahead.invariant in
    let same : c.bytes-bytes.result.now ≡ ahead = search rules in
    let found = rw same at c.in-Some.ensures in (
      before.0 ++ take c.in-Some.end ahead,
      All-append (λ b. b ≢ 10) before.0 (take c.in-Some.end ahead) before.1 found.2,
      rw (← same) (c.extend.ensures before.0 before.2),
      Consumes-feed _ _ ahead _ _ _ _ before.0 c.in-Some.end before.4 c.make_ready.ensures.taken c.take.ensures.bytes found.0 found.1,
    )

pub returns-in-Some-clause-rest : goal.returns-in-Some-clause-rest
returns-in-Some-clause-rest g c whole =
    let ahead = c.make_ready.new.self in
    let same : c.bytes-bytes.result.now ≡ ahead.bytes = search rules in
    let found = rw same at c.in-Some.ensures in
    rest_of ahead c.take.new.self (c.in-Some.end + 1) (omega arith) (omega (arith, found.0)) c.make_ready.ensures.given (omega (arith, ap length same, c.bytes-bytes.ensures.chunk)) c.take.ensures.bytes c.take.ensures.given

pub loop-ahead-preserved : goal.loop-ahead-preserved
loop-ahead-preserved g c =
    let ahead = c.make_ready.new.self.bytes in
    let before = c.loop-ahead.invariant in
    let same : c.bytes-bytes.result.now ≡ ahead = search rules in
    let spent : c.take-in-None.new.self.bytes ≡ [] =
    c.take-in-None.ensures.bytes ∙ drop_all _ ahead (omega (arith, ap length same)) in (
      before.0 ++ ahead,
      All-append (λ b. b ≢ 10) before.0 ahead before.1 (rw same at c.in-None.ensures),
      rw (← same) (c.extend-in-None.ensures before.0 before.2),
      omega (arith, c.take-in-None.ensures.spent, c.in_ok-make_ready.ensures.kept, before.3),
      Consumes-rest _ _ ahead _ _ _ _ before.0 before.4 c.make_ready.ensures.taken spent,
    )
