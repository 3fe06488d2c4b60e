use Rattle.tile_flood.proofs.Prelude.{SFits, ap, of_z, pos, rules, subst, to_z, to_z-of_z, w16, ◌+ℤ◌, ◌<ℤ◌, ◌∙◌, ◌≡◌}
use Rattle.lattice.proofs.IntTests.{lt_true}
use Rattle.tile_flood.proofs.Buckets.{above_level}
use Rattle.tile_flood.proofs.queue.Queue.is_above.Goals as goal

pub returns-in-Some : goal.returns-in-Some
returns-in-Some c less =
    let q = c.self.inside in
    let k = c.in-Some.lowest in
    let fits : SFits w16 c.level_of.result = search rules in
    let fits_least : SFits w16 q.least = search rules in
    let fits_level : SFits w16 c.args.level = search rules in
    let at : to_z w16 (of_z w16 c.level_of.result) ≡ q.least +ℤ pos k = to_z-of_z fits ∙ c.level_of.ensures ∙ ap (λ l. l +ℤ pos k) (to_z-of_z fits_least) in
    above_level (λ b. b.items) q.least c.deref.result.now q.buckets.items q.lowest k c.args.self.now c.args.level c.self.view_is c.deref.ensures.value c.self.invariant.1 c.in-Some.ensures.first
    (subst (λ l. c.args.level <ℤ l) at (subst (λ l. l <ℤ to_z w16 (of_z w16 c.level_of.result)) (to_z-of_z fits_level) (lt_true (to_z w16 (of_z w16 c.args.level)) (to_z w16 (of_z w16 c.level_of.result)) less)))
