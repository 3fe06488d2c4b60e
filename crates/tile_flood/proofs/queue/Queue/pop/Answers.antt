use Rattle.std.proofs.Common.{arith, rules, ◌+ℤ◌, pos, ◌∙◌, ap, length, SFits, w16, to_z, of_z, to_z-of_z}
use Rattle.tile_flood.proofs.Buckets.{still_sound, empty_between, empty_below, popped}
use Rattle.tile_flood.proofs.queue.Queue.pop.Goals as goal

pub invariant_of-self-2 : goal.invariant_of-self-2
invariant_of-self-2 c =
    let next = empty_between (λ b. b.items) c.deref.result.now c.self.inside.buckets.items c.self.inside.lowest c.in_ok-lowest.lowest c.deref.ensures.value c.in_ok-lowest.ensures.first in
    still_sound (λ b. b.items) c.self.inside.least c.self.inside.buckets.items c.in_ok-lowest.lowest c.in_ok-lowest.lowest c.in_ok-lowest.lowest c.pop.new.self c.self.invariant.0
    (empty_below (λ b. b.items) c.self.inside.buckets.items c.self.inside.lowest c.in_ok-lowest.lowest c.self.invariant.1 next) (omega arith) (omega arith)

pub returns : goal.returns
returns c =
    let next = empty_between (λ b. b.items) c.deref.result.now c.self.inside.buckets.items c.self.inside.lowest c.in_ok-lowest.lowest c.deref.ensures.value c.in_ok-lowest.ensures.first in
    let same = ap length c.deref.ensures.value in
    let inside = c.in_ok-lowest.ensures.in_range in
    let fits : SFits w16 c.level_of.result = search rules in
    let fits_least : SFits w16 c.self.inside.least = search rules in
    let both = popped (λ b. b.items) c.self.inside.least c.self.inside.buckets.items c.in_ok-lowest.lowest c.in_ok-point.point c.index_mut.result.now c.pop.new.self c.args.self.now
    (to_z w16 (of_z w16 c.level_of.result)) (omega arith) c.self.view_is c.index_mut.ensures.value
    (to_z-of_z fits ∙ c.level_of.ensures ∙ ap (λ l. l +ℤ pos c.in_ok-lowest.lowest) (to_z-of_z fits_least))
    c.self.inside.lowest c.self.invariant.1 next c.in_ok-point.ensures.items in
    record { taken = both.0; count = both.1; same = search rules }
