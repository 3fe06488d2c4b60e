use Rattle.std.proofs.Common.{◌+ℤ◌, pos, ◌∙◌, ap, rules, SFits, w16, to_z, of_z, to_z-of_z}
use Rattle.tile_flood.proofs.Buckets.{somebody}
use Rattle.tile_flood.proofs.queue.Queue.lowest_level.Goals as goal

pub returns-clause-found : goal.returns-clause-found
returns-clause-found c =
    let fits : SFits w16 c.level_of.result = search rules in
    let fits_least : SFits w16 c.self.inside.least = search rules in
    somebody (λ b. b.items) c.self.inside.least c.deref.result.now c.self.inside.buckets.items c.in-Some.lowest c.args.self.now (to_z w16 (of_z w16 c.level_of.result)) c.self.view_is c.deref.ensures.value
    (to_z-of_z fits ∙ c.level_of.ensures ∙ ap (λ l. l +ℤ pos c.in-Some.lowest) (to_z-of_z fits_least)) c.in-Some.ensures.in_use
