use Rattle.std.proofs.Common.{rules, arith, ap, ◌≡◌, ◌≤◌, ◌<◌, ◌++◌, length, length-append, length-take-le, take}
use Rattle.lines.proofs.AheadLemmas.{Consumes-next, rest_of}
use Rattle.lines.proofs.source.skip_payload.Goals as goal

pub loop-missing-preserved : goal.loop-missing-preserved
loop-missing-preserved g c =
    let ahead = c.make_ready.new.self.bytes in
    let count = c.min-count.result in
    let before = c.loop-missing.invariant in
    let same : c.bytes-bytes.result.now ≡ ahead = search rules in
    let fits : count ≤ length ahead = omega (arith, c.min-count.ensures, ap length same) in
    let some_taken : 0 < count = search rules in (
      before.0 ++ take count ahead,
      simp length-append (rw (length-take-le count ahead fits) (omega (arith, c.min-count.ensures, before.1))),
      omega (arith, c.take.ensures.spent, c.in_ok-make_ready.ensures.kept, before.2),
      (λ _. rest_of c.make_ready.new.self c.take.new.self count some_taken fits c.make_ready.ensures.given (omega (arith, ap length same, c.bytes-bytes.ensures.chunk)) c.take.ensures.bytes c.take.ensures.given),
      Consumes-next _ _ ahead _ _ _ _ before.0 count before.4 c.make_ready.ensures.taken c.take.ensures.bytes,
    )
