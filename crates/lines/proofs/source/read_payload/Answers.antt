use Rattle.std.proofs.Common.{rules, arith, ap, ◌≡◌, ◌++◌, ◌≤◌, ◌<◌, ◌+◌, take, length, vec_len, IsOk, Result, Ok, Err, is_ok, if◌then◌else◌, length-take-le}
use Rattle.lines.proofs.AheadLemmas.{Consumes-next, rest_of}
use Rattle.lines.proofs.source.read_payload.Goals as goal

-- an `if` on whether the result is Ok, in the case Ok
grown_items : {A E B : Type 0} (r : Result A E) (new more same : B) → new ≡ (if is_ok r then more else same) → IsOk r → new ≡ more
grown_items (Ok x) new more same e ok = e
grown_items (Err x) new more same e ok = absurd (cc)

pub loop-ahead-preserved : goal.loop-ahead-preserved
loop-ahead-preserved g c =
    let ahead = c.make_ready.new.self.bytes in
    let count = c.min-count.result in
    let before = c.loop-ahead.invariant in
    let same : c.bytes-bytes.result.now ≡ ahead = search rules in
    let fits : count ≤ length ahead = omega (arith, c.min-count.ensures, ap length same) in
    let some_taken : 0 < count = search rules in
    let some : length (take count c.bytes-bytes.result.now) ≡ count = rw same (length-take-le count ahead fits) in
    let ok : IsOk c.extend_from_slice.result =
    c.extend_from_slice.ensures.succeeds (omega (arith, some, c.min-count.ensures, before.room, c.len-in-loop-ahead.ensures)) in
    let grown : c.extend_from_slice.new.self.items ≡ c.loop-ahead.payload.items ++ take count ahead =
    rw (← same) (grown_items _ _ _ _ c.extend_from_slice.ensures.items ok) in
    let longer : vec_len c.extend_from_slice.new.self ≡ vec_len c.loop-ahead.payload + length (take count c.bytes-bytes.result.now) =
    grown_items _ _ _ _ c.extend_from_slice.ensures.len ok in
    record {
      within = omega (arith, longer, some, c.min-count.ensures, before.within, c.len-in-loop-ahead.ensures);
      room = omega (arith, c.extend_from_slice.ensures.capacity, before.room);
      rest = λ _. rest_of c.make_ready.new.self c.take.new.self count some_taken fits c.make_ready.ensures.given (omega (arith, ap length same, c.bytes-bytes.ensures.chunk)) c.take.ensures.bytes c.take.ensures.given;
      spent = omega (arith, c.take.ensures.spent, c.in_ok-make_ready.ensures.kept, before.spent);
      taken = rw grown (Consumes-next _ _ ahead _ _ _ _ c.loop-ahead.payload.items count before.taken c.make_ready.ensures.taken c.take.ensures.bytes);
    }
