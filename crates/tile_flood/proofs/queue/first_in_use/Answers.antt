use Rattle.tile_flood.proofs.Prelude.{arith, length, nat_tests, ◌≡◌}
use Rattle.tile_flood.proofs.Buckets.{next_empty, none_left}
use Rattle.tile_flood.proofs.queue.first_in_use.Goals as goal

pub loop-number-preserved : goal.loop-number-preserved
loop-number-preserved c =
    let none : length c.index-buckets-number.result.items ≡ 0 = grind (arith, nat_tests) in
    next_empty (λ v. v.items) c.args.buckets.now c.args.from c.loop-number.number c.index-buckets-number.result (omega arith) c.index-buckets-number.is
    (none_left c.index-buckets-number.result.items none) c.loop-number.invariant
