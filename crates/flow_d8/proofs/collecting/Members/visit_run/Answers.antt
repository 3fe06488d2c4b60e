use Rattle.flow_d8.proofs.Prelude.{Dir, IfNone, IsIn, IsMember, IsOfFlat, SampleRun, Unknown, ℕ, arith, cases_eq, inl, inr, ltb-true, rules, slice_index_or, subst, sym, ◌+◌, ◌-◌, ◌<◌, ◌≡◌}
use Rattle.flow_d8.specs.Members.{IsSettledBeside}
use Rattle.flow_d8.specs.Tiles.{count_of}
use Rattle.flow_d8.proofs.Waves.Runs.{grows_on, settled_on, next_settled, flat_small, run_at, run_row, run_member}
use Rattle.flow_d8.proofs.collecting.Members.visit_run.Goals as goal

pub visit_around-requires-clause-member : goal.visit_around-requires-clause-member
visit_around-requires-clause-member c = c.loop-k.invariant.grows.kept c.loop-k.k
    (run_member c.args.known.now c.args.self.now c.requires.found c.args.i c.requires.run _ c.index-run.ensures c.loop-k.k (record { from = c.loop-k.auto.k; to = omega (arith, c.loop-k-test.true) }))

pub visit_around-requires-clause-deep : goal.visit_around-requires-clause-deep
visit_around-requires-clause-deep c = search (rules, run_row c.args.known.now c.args.self.now c.requires.found c.args.i c.requires.run c.index-run.result.now c.index-run.ensures)

pub visit_around-requires-clause-next : goal.visit_around-requires-clause-next
visit_around-requires-clause-next c is_next d low high =
    let known = c.args.known.now in
    let flows = known.flows.now in
    let r = c.index-run.result.now in
    let was = c.loop-k.invariant in
    let k = c.loop-k.k - 1 in
    let past : r.first < c.loop-k.k = ltb-true r.first c.loop-k.k is_next in
    let one : k + 1 ≡ c.loop-k.k = omega (arith, past) in
    let member : (j : ℕ) → IsIn r j → IsMember c.args.self.now.marks j = run_member known c.args.self.now c.requires.found c.args.i c.requires.run r c.index-run.ensures in
    let flat : (j : ℕ) → IsIn r j → IsOfFlat (slice_index_or flows j Unknown) = λ j in_it. c.requires.found.flat j (member j in_it) in
    let small : (j : ℕ) → IsIn r j → j < count_of known.tiles.now = λ j in_it. subst (λ n. j < n) known.whole (flat_small flows j (flat j in_it)) in
    let in_k : IsIn r k = record { from = omega (arith, past); to = omega (arith, c.loop-k-test.true) } in
    let in_next : IsIn r (k + 1) = record { from = omega (arith, past); to = omega (arith, past, c.loop-k-test.true) } in
    subst (λ n. IsSettledBeside known c.loop-k.self n d) one
    (next_settled known.tiles.now known.valid flows r (run_row known c.args.self.now c.requires.found c.args.i c.requires.run r c.index-run.ensures) small flat c.loop-k.self.marks k in_k in_next
    (was.grows.kept k (member k in_k)) (λ e. was.settled k e (omega (arith, past)) (omega (arith, one))) d low high)

pub returns-in-Some-clause-grows : goal.returns-in-Some-clause-grows
returns-in-Some-clause-grows c = grows_on c.args.known.now c.args.self.now c.loop-k.self c.loop-k.invariant.grows c.visit_around.new.self c.in_ok-met.ensures.grows

pub loop-k-preserved : goal.loop-k-preserved
loop-k-preserved c =
    let was = c.loop-k.invariant in
    let known = c.args.known.now in
    let new = c.visit_around.new.self in
    let grows = c.in_ok-met.ensures.grows in
    let settled : (d : Dir) → IsSettledBeside known new c.loop-k.k d = subst (λ o. IfNone o ((d : Dir) → IsSettledBeside known new c.loop-k.k d)) c.in_default.is c.in_ok-met.ensures.settled in
    record {
      grows = grows_on known c.args.self.now c.loop-k.self was.grows new grows;
      settled = λ j d from less. elim (cases_eq j c.loop-k.k) [
        | inl same ↦ subst (λ n. IsSettledBeside known new n d) (sym same) (settled d)
        | inr other ↦ settled_on known c.loop-k.self new grows j d (was.settled j d from (omega arith))
      ];
    }

pub returns-clause-settled : goal.returns-clause-settled
returns-clause-settled c k d in_it =
    let at = run_at c.args.known.now c.args.self.now c.requires.found c.args.i c.requires.run c.index-run.result.now c.index-run.ensures in
    let in_run : IsIn c.index-run.result.now k = subst (λ (q : SampleRun). IsIn q k) (sym at) in_it in
    c.loop-k.invariant.settled k d in_run.from (omega (arith, in_run.to, c.loop-k-test.false))
