use Rattle.std.proofs.Common.{◌≡◌, ◌<◌, ◌+◌, ◌*◌, ◌||◌, false, true, arith, inl, inr, subst, get_or}
use Rattle.tile_flood.proofs.Prelude.{cases_Bool}
use Rattle.tile_flood.proofs.Standing.{stand_above}
use Rattle.tile_flood.proofs.restoring.mark_above.Goals as goal

pub loop-k-preserved : goal.loop-k-preserved
loop-k-preserved c heights sinks are =
    let n = c.args.planes.now.block.n in
    let stands = c.loop-k.stands in
    let e = c.args.e + c.loop-k.k in
    let f = c.args.f + c.loop-k.k in
    let here = c.requires.inside.0 in
    let there = c.requires.inside.1 in
    let over = c.is_over.result in
    let small : e < n * n = omega arith in
    stand_above n heights sinks c.args.planes.now.levels.now c.args.planes.now.labels.now stands e (get_or stands e false || over) (c.loop-k.invariant heights sinks are) small
    (λ on. elim (cases_Bool (get_or stands e false)) [
      | inl was ↦ inl was
      | inr not ↦
          let is = c.is_over.ensures (subst (λ b. (b || over) ≡ true) not on) in
          inr (f, (record { inside = omega arith; beside = c.requires.beside c.loop-k.k c.loop-k-test.true; label = is.1 }, is.0))
    ])
