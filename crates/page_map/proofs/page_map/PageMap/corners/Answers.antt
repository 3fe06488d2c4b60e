use Rattle.page_map.proofs.Prelude.{Corner, Entry, List, PageMapValue, TileLocation, ap, arith, corners_of_locations, is_some, length, length-map, staged_tile, staged_tiles, subst, sym, ◌++◌, ◌∙◌, ◌∷◌, ◌≡◌, ◌≤◌}
use Rattle.page_map.proofs.Listing.{located_more, located_room, located_same, some_alike}
use Rattle.page_map.proofs.page_map.PageMap.corners.Goals as goal
use Rattle.page_map.proofs.page_map.PageMap.corners.Goals.{After-is_some, In-None}

module _ (c : After-is_some) where
  abbrev here : Entry
  here = (c.in-Some.corner.now, c.in-Some.entry.now)

  abbrev all : List Corner
  all = corners_of_locations c.args.self.now.staged

  so_far : c.loop-corner.corners.items ++ corners_of_locations (staged_tiles (here ∷ c.next.new.self)) ≡ all
  so_far = subst (λ (l : List Entry). c.loop-corner.corners.items ++ corners_of_locations (staged_tiles l) ≡ all) c.in-Some.ensures.steps c.loop-corner.invariant

  tested : is_some (staged_tile here) ≡ c.is_some.result
  tested = sym (some_alike c.location.result here c.location.ensures) ∙ sym c.is_some.ensures

few : (c : In-None) → length (corners_of_locations c.args.self.now.staged) ≤ c.args.self.now.format.capacity
few c =
    subst (λ (v : PageMapValue). length (corners_of_locations v.staged) ≤ v.format.capacity) c.self.view_is
    (omega (arith, c.self.invariant.staged_room, length-map (staged_tiles c.self.inside.entries.entries) (λ (t : TileLocation). t.corner)))

pub push-requires : goal.push-requires
push-requires c =
    let at = (goal.at.push-requires c).After-is_some in
    let room = located_room c.loop-corner.corners.items (all at) (here at) c.next.new.self (so_far at) (tested at ∙ c.if-is_some.true) in
    let count = length-map (staged_tiles c.self.inside.entries.entries) (λ (t : TileLocation). t.corner) in
    let same = ap (λ (v : PageMapValue). length (corners_of_locations v.staged)) c.self.view_is in
    (omega arith, omega (arith, room, count, same, c.self.invariant.staged_room, c.self.invariant.few))

pub loop-corner-preserved-then-is_some : goal.loop-corner-preserved-then-is_some
loop-corner-preserved-then-is_some c =
    let at = (goal.at.loop-corner-preserved-then-is_some c).After-is_some in
    rw c.push.ensures.items (located_more c.loop-corner.corners.items (all at) (here at) c.next.new.self (so_far at) (tested at ∙ c.if-is_some.true))

pub loop-corner-preserved : goal.loop-corner-preserved
loop-corner-preserved c =
    let at = (goal.at.loop-corner-preserved c).After-is_some in
    located_same c.loop-corner.corners.items (all at) (here at) c.next.new.self (so_far at) (tested at ∙ c.if-is_some.false)
