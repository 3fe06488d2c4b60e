use Rattle.page_map.proofs.Prelude.{Entry, List, PageMapValue, ap, arith, length, subst, sym, ◌∷◌, ◌≡◌}
use Rattle.page_map.proofs.Changed.{ChangedSoFar, all_changed, next_changed, next_unchanged, none_changed, room_for_corner}
use Rattle.page_map.proofs.page_map.PageMap.changed_corners.Goals as goal
use Rattle.page_map.proofs.page_map.PageMap.changed_corners.Goals.{After-is_changed}

module _ (c : After-is_changed) where
  abbrev here : Entry
  here = (c.in-Some.corner.now, c.in-Some.entry.now)

  so_far : ChangedSoFar c.args.self.now (here ∷ c.next.new.self) c.loop-corner.corners.items
  so_far = subst (λ (l : List Entry). ChangedSoFar c.args.self.now l c.loop-corner.corners.items) c.in-Some.ensures.steps c.loop-corner.invariant

pub loop-corner-init : goal.loop-corner-init
loop-corner-init c =
    let all : c.into_iter-corner-iterator.result ≡ c.self.inside.entries.entries = c.into_iter-corner-iterator.ensures.into_iter_gives.0 in
    subst (λ (l : List Entry). ChangedSoFar c.args.self.now l c.new-corners.result.items) (sym all)
    (rw c.new-corners.ensures (none_changed c.self.inside.format c.self.inside.entries.entries c.self.inside.free c.args.self.now c.self.view_is))

pub push-requires : goal.push-requires
push-requires c =
    let at = (goal.at.push-requires c).After-is_changed in
    let room = room_for_corner c.args.self.now (here at) c.next.new.self c.loop-corner.corners.items (so_far at) (c.is_changed.ensures.staged c.if-is_changed.true c.in-Some.corner.now) in
    let same = ap (λ (v : PageMapValue). length v.staged) c.self.view_is in
    (omega arith, omega (arith, room, same, c.self.invariant.staged_room, c.self.invariant.few))

pub loop-corner-preserved-then-is_changed : goal.loop-corner-preserved-then-is_changed
loop-corner-preserved-then-is_changed c =
    let at = (goal.at.loop-corner-preserved-then-is_changed c).After-is_changed in
    rw c.push.ensures.items (next_changed c.args.self.now (here at) c.next.new.self c.loop-corner.corners.items (so_far at) (c.is_changed.ensures.staged c.if-is_changed.true c.in-Some.corner.now))

pub loop-corner-preserved : goal.loop-corner-preserved
loop-corner-preserved c =
    let at = (goal.at.loop-corner-preserved c).After-is_changed in
    next_unchanged c.args.self.now (here at) c.next.new.self c.loop-corner.corners.items (so_far at) (c.is_changed.ensures.same c.if-is_changed.false c.in-Some.corner.now)

pub returns : goal.returns
returns c =
    all_changed c.args.self.now c.loop-corner.corners.items
    (subst (λ (l : List Entry). ChangedSoFar c.args.self.now l c.loop-corner.corners.items) c.in-None.ensures.steps.0 c.loop-corner.invariant)
