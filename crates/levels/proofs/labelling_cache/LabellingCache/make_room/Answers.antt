use Rattle.levels.proofs.Prelude.{All, All-contains_itself, All-take, Contains, HasSide, HeldLabelling, Kept, List, [], ap, arith, cond, count_by, has_block, slice_index_or, subst, sym, true, ◌-◌, ◌<◌, ◌≡◌}
use Rattle.std.proofs.lemmas.List.Sums.{sum_by-take-le}
use Rattle.levels.proofs.Caches.Caching.{all_among, entered_among}
use Rattle.levels.proofs.labelling_cache.LabellingCache.make_room.Goals as goal
use Rattle.levels.proofs.labelling_cache.LabellingCache.make_room.Goals.{After-give_up_block}

module _ (c : After-give_up_block) where
  among : All (Contains c.args.self.now.held.items) c.truncate.new.self.items
  among =
      let held = c.args.self.now.held.items in
      subst (All (Contains held)) (sym c.truncate.ensures.items) (All-take (Contains held) (c.most_labellings.result - 1) held (All-contains_itself held))

  fewer : count_by has_block c.give_up_block.new.held.items < count_by has_block c.args.self.now.held.items
  fewer =
      let nothing : HeldLabelling = record { place = 0; labelling = Kept (record { side = 0; levels = []; labels = [] }) } in
      let one = subst (λ (l : List HeldLabelling). has_block (slice_index_or l c.in-Some.at nothing) ≡ true) c.deref.ensures.value (c.in-Some.ensures.some.1 nothing) in
      omega (
        arith,
        c.give_up_block.ensures.blocks nothing one,
        ap (count_by has_block) c.truncate.ensures.items,
        sum_by-take-le (λ (h : HeldLabelling). cond (has_block h) 1 0) c.args.self.now.held.items (c.most_labellings.result - 1),
      )

pub invariant_of-self-clause-few_blocks : goal.invariant_of-self-clause-few_blocks
invariant_of-self-clause-few_blocks c = omega (arith, fewer c, c.args.self.now.few_blocks)

pub invariant_of-self-clause-sides : goal.invariant_of-self-clause-sides
invariant_of-self-clause-sides c =
    let was = c.args.self.now in
    c.give_up_block.ensures.sides was.side (all_among (HasSide was.side) was.held.items c.truncate.new.self.items (among c) was.sides)

pub returns-in-Some-clause-entered : goal.returns-in-Some-clause-entered
returns-in-Some-clause-entered c m d u entered =
    c.give_up_block.ensures.entered m d u (entered_among m d u c.args.self.now.held.items c.truncate.new.self.items (among (goal.at.returns-in-Some-clause-entered c).After-give_up_block) entered)

pub returns-in-Some-clause-block : goal.returns-in-Some-clause-block
returns-in-Some-clause-block c = omega (arith, fewer (goal.at.returns-in-Some-clause-block c).After-give_up_block, c.args.self.now.few_blocks)
