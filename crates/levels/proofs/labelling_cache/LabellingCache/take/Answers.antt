use Rattle.levels.proofs.Prelude.{All, HasSide, HeldLabelling, IsEntered, List, ap, arith, cond, count_by, has_block, length, remove, subst, sym, ◌<◌}
use Rattle.std.proofs.lemmas.List.Sums.{sum_by-remove}
use Rattle.levels.proofs.Caches.Caching.{all_among, removed_among, entered_among}
use Rattle.levels.proofs.labelling_cache.LabellingCache.take.Goals as goal

pub invariant_of-self-clause-few_blocks : goal.invariant_of-self-clause-few_blocks
invariant_of-self-clause-few_blocks c =
    omega (arith, ap (count_by has_block) c.remove-held.ensures.items, sum_by-remove (λ (one : HeldLabelling). cond (has_block one) 1 0) c.args.self.now.held.items c.in_ok-at.at c.remove-held.result (subst (λ (l : List HeldLabelling). c.in_ok-at.at < length l) c.deref.ensures.value c.in_ok-at.ensures.some.0), c.args.self.now.few_blocks)

pub invariant_of-self-clause-sides : goal.invariant_of-self-clause-sides
invariant_of-self-clause-sides c =
    let was = c.args.self.now in
    let at = c.in_ok-at.at in
    subst (All (HasSide was.side)) (sym c.remove-held.ensures.items) (all_among (HasSide was.side) was.held.items (remove was.held.items at) (removed_among was.held.items at) was.sides)

pub returns-clause-left : goal.returns-clause-left
returns-clause-left c m d u entered =
    let held = c.args.self.now.held.items in
    let at = c.in_ok-at.at in
    subst (λ (left : List HeldLabelling). IsEntered m d left u) (sym c.remove-held.ensures.items) (entered_among m d u held (remove held at) (removed_among held at) entered)
