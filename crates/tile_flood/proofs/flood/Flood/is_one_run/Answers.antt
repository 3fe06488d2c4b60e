use Rattle.tile_flood.proofs.Prelude.{IsInWindow, IsRun, arith, in_round, subst, sym, ◌%◌, ◌+◌, ◌<◌, ◌≡◌}
use Rattle.tile_flood.proofs.OneRun.{AreNear, run_passed, run_on, run_whole}
use Rattle.tile_flood.proofs.flood.Flood.is_one_run.Goals as goal
use Rattle.tile_flood.proofs.flood.Flood.is_one_run.Goals.{then-is_around+else-not-are_near, else-is_around}

pub loop-k-preserved : goal.loop-k-preserved
loop-k-preserved c =
    let n = c.args.n in
    let e = c.args.e in
    let levels = c.args.self.now.levels.items in
    let labels = c.args.self.now.labels.items in
    let k = c.loop-k.k in
    let d = c.place_in_round-d in
    let place = in_round ((c.args.start + k) % 8) in
    let inside = d.ensures.inside in
    let small : place < 9 = subst (λ x. x < 9) d.ensures.place inside in
    elim c.if-is_around.branch [
      | then-is_around+else-not-are_near w ↦
          let found = c.is_around.ensures.around w.if-is_around.true in
          let rows = w.are_near.ensures.rows w.if-not-are_near.false in
          let columns = w.are_near.ensures.columns w.if-not-are_near.false in
          rw (w.last-is, d.ensures.place)
          (run_on n levels labels e c.args.start k c.loop-k.last c.loop-k.invariant found.0 small (subst (λ x. IsInWindow n e x found.0) d.ensures.place found.1.0) found.1.1
          (subst (AreNear c.loop-k.last) d.ensures.place (record { north = rows.0; south = rows.1; west = columns.0; east = columns.1 })))
      | else-is_around w ↦ rw w.last-is
          (run_passed n levels labels e c.args.start k c.loop-k.last c.loop-k.invariant
          (λ z spot around. c.is_around.ensures.none w.if-is_around.false z (subst (λ x. IsInWindow n e x z) (sym d.ensures.place) spot) around))
    ]

pub returns : goal.returns
returns c done =
    let s = c.args.self.now in
    let at_end : c.loop-k.k ≡ 8 = omega arith in
    run_whole c.args.n s.levels.items s.labels.items c.args.e c.args.start c.requires.start c.loop-k.last
    (subst (λ k. IsRun c.args.n s.levels.items s.labels.items c.args.e c.args.start k c.loop-k.last) at_end c.loop-k.invariant)
