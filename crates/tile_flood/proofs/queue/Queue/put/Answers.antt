use Rattle.std.proofs.Common.{◌≡◌, ◌+ℤ◌, pos, arith, rules, ap, sym, ◌∙◌, SFits, w16, to_z-of_z}
use Rattle.tile_flood.proofs.Buckets.{still_sound, pushed, inside_of}
use Rattle.tile_flood.proofs.queue.Queue.put.Goals as goal

pub invariant_of-self : goal.invariant_of-self
invariant_of-self c = let lower = c.min-self-inside.ensures in
    still_sound (λ b. b.items) c.self.inside.least c.self.inside.buckets.items c.number_of-number.result c.self.inside.lowest c.min-self-inside.result c.push.new.self c.self.invariant.0 c.self.invariant.1
    (omega arith) (omega arith)

pub invariant_of-self-2 : goal.invariant_of-self-2
invariant_of-self-2 c = let lower = c.min-self-inside.ensures in
    still_sound (λ b. b.items) c.self.inside.least c.self.inside.buckets.items c.number_of-number.result c.self.inside.lowest c.min-self-inside.result c.push.new.self c.self.invariant.0 c.self.invariant.1
    (omega arith) (omega arith)

pub returns : goal.returns
returns c =
    let fits : SFits w16 c.args.level = search rules in
    let fits_least : SFits w16 c.self.inside.least = search rules in
    let numbered : c.args.level ≡ c.self.inside.least +ℤ pos c.number_of-number.result =
    sym (to_z-of_z fits) ∙ c.number_of-number.ensures ∙ ap (λ l. l +ℤ pos c.number_of-number.result) (to_z-of_z fits_least) in
    let inside = inside_of (λ b. b.items) c.self.inside.least c.self.inside.buckets.items c.args.self.now c.args.level c.number_of-number.result c.self.view_is c.requires numbered in
    let both = pushed (λ b. b.items) c.self.inside.least c.self.inside.buckets.items c.number_of-number.result c.args.point c.index_mut.result.now c.push.new.self c.args.self.now c.args.level
    inside c.self.view_is c.index_mut.ensures.value numbered c.in_ok-push.ensures.items in
    record { joined = both.0; count = both.1 }
