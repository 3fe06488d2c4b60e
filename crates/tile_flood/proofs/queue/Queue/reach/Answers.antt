use Rattle.std.proofs.Common.{arith, rules, SFits, w16}
use Rattle.std.proofs.lemmas.Int.{ints, to_z-of_z}
use Rattle.tile_flood.proofs.Buckets.{has_bucket_at}
use Rattle.tile_flood.proofs.queue.Queue.reach.Goals as goal

pub returns-then-is_in_range-clause-bucket : goal.returns-then-is_in_range-clause-bucket
returns-then-is_in_range-clause-bucket c =
    let fits_level : SFits w16 c.args.level = search rules in
    let fits_least : SFits w16 c.self.inside.least = search rules in
    let level_is = to_z-of_z w16 c.args.level fits_level in
    let least_is = to_z-of_z w16 c.self.inside.least fits_least in
    let both = c.is_in_range.ensures c.if-is_in_range.true in
    has_bucket_at (λ v. v.items) c.self.inside.least c.args.level c.self.inside.buckets.items c.args.self.now c.self.view_is (omega (arith, ints)) (omega (arith, ints))
