use Rattle.tile_flood.proofs.Prelude.{IsJoined, SFits, of_z, rules, subst, to_z, to_z-of_z, w16}
use Rattle.tile_flood.proofs.Buckets.{joined_extended}
use Rattle.tile_flood.proofs.queue.Queue.push.Goals as goal

pub returns-clause-joined : goal.returns-clause-joined
returns-clause-joined c =
    let fits : SFits w16 c.args.level = search rules in
    subst (λ l. IsJoined c.args.self.now c.put.new.self l c.args.point) (to_z-of_z fits)
    (joined_extended c.args.self.now c.reach.new.self c.put.new.self (to_z w16 (of_z w16 c.args.level)) c.args.point c.in_ok-reach.ensures.extended c.in_ok-put.ensures.joined)
