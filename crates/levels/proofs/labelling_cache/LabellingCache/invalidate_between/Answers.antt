use Rattle.levels.proofs.Prelude.{All, All-filter, HasSide, HeldLabelling, IsHeldAt, List, ap, arith, count_by, false, has_block, is_reached, length, not, subst, sym, ◌↔◌, ◌≡◌}
use Rattle.std.proofs.lemmas.List.Sums.{length-filter, count_by-le-length}
use Rattle.levels.proofs.Caches.Caching.{count_filtered, left_unreached}
use Rattle.levels.proofs.labelling_cache.LabellingCache.invalidate_between.Goals as goal

pub invariant_of-self-clause-few : goal.invariant_of-self-clause-few
invariant_of-self-clause-few c =
    let test = λ (one : HeldLabelling). not (is_reached c.args.side c.args.corners.now c.args.from c.args.to one.place) in
    omega (arith, ap length c.retain_unreached.ensures, length-filter test c.args.self.now.held.items, count_by-le-length test c.args.self.now.held.items, c.args.self.now.few)

pub invariant_of-self-clause-few_blocks : goal.invariant_of-self-clause-few_blocks
invariant_of-self-clause-few_blocks c =
    let test = λ (one : HeldLabelling). not (is_reached c.args.side c.args.corners.now c.args.from c.args.to one.place) in
    omega (arith, ap (count_by has_block) c.retain_unreached.ensures, count_filtered has_block test c.args.self.now.held.items, c.args.self.now.few_blocks)

pub invariant_of-self-clause-sides : goal.invariant_of-self-clause-sides
invariant_of-self-clause-sides c =
    let was = c.args.self.now in
    subst (All (HasSide was.side)) (sym c.retain_unreached.ensures)
    (All-filter (λ (one : HeldLabelling). not (is_reached c.args.side c.args.corners.now c.args.from c.args.to one.place)) (HasSide was.side) was.held.items was.sides)

pub returns-clause-left : goal.returns-clause-left
returns-clause-left c t l =
    let held = c.args.self.now.held.items in
    let gone = is_reached c.args.side c.args.corners.now c.args.from c.args.to in
    subst (λ (left : List HeldLabelling). IsHeldAt left t l ↔ (IsHeldAt held t l × (gone t ≡ false))) (sym c.retain_unreached.ensures) (left_unreached gone held t l)
