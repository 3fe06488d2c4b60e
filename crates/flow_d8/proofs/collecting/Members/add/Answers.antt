use Rattle.flow_d8.proofs.Prelude.{IsIn, ℕ, arith, count_of, refl, subst, ◌<◌}
use Rattle.flow_d8.proofs.Waves.Runs.{row_first, row_joined, flat_small, grows}
use Rattle.flow_d8.proofs.collecting.Members.add.Goals as goal

pub returns-clause-grows : goal.returns-clause-grows
returns-clause-grows c =
    let known = c.args.known.now in
    let t = known.tiles.now in
    let flows = known.flows.now in
    let r = c.free_row-run.result in
    let has = c.free_row-run.ensures in
    let small : (k : ℕ) → IsIn r k → k < count_of t = λ k in_it. subst (λ n. k < n) known.whole (flat_small flows k (has.flat k in_it)) in
    grows known c.args.self.now _ r has.row c.mark_run.ensures c.in_ok-push.ensures.items has.free has.flat
    (row_first t known.valid flows r has.row small has.flat c.args.to has.at c.requires.first) c.requires.found refl
    (row_joined t known.valid flows r has.row small has.flat c.args.self.now.seed c.args.to has.at c.requires.joined)

pub mark_run-requires-clause-last : goal.mark_run-requires-clause-last
mark_run-requires-clause-last c = omega (arith, c.requires.found.whole, flat_small c.args.known.now.flows.now c.free_row-run.result.last (c.free_row-run.ensures.flat c.free_row-run.result.last (record { from = c.free_row-run.ensures.row.some; to = omega arith })))
