use Rattle.page_map.proofs.Prelude.{FreePages, IsAdded, IsKept, IsLocated, PageMapValue, ap, arith, length, option_copied_mut, page_map_of, staged_tiles, subst, sym, ◌<◌, ◌∙◌, ◌≡◌}
use Rattle.page_map.proofs.Room.{room_for_tile}
use Rattle.page_map.proofs.PageMapRules.{mapped}
use Rattle.page_map.proofs.EntryInserts.{with_fresh}
use Rattle.page_map.proofs.Loading.{kept_staged, is_staged}
use Rattle.page_map.proofs.page_map.PageMap.tile_for_writing.Goals as goal
use Rattle.page_map.proofs.page_map.PageMap.tile_for_writing.Goals.{After-place}

-- The corner has an entry.
module _ (c : After-place) where
  kept : IsKept c.self.inside.format c.place.new.entries.entries c.self.inside.free
  kept = (c.place.ensures.alike c.self.inside.format c.self.inside.free c.self.invariant).0

  same : page_map_of c.self.inside.format c.place.new.entries.entries c.self.inside.free ≡ c.args.self.now
  same = (c.place.ensures.alike c.self.inside.format c.self.inside.free c.self.invariant).1 ∙ c.self.view_is

  room : length (staged_tiles c.place.new.entries.entries) < c.self.inside.format.capacity
  room = subst (λ (v : PageMapValue). length v.staged < v.format.capacity) (sym same) c.requires.room

  absent : ¬ IsLocated c.args.c (staged_tiles c.place.new.entries.entries)
  absent located = c.requires.absent (subst (λ (v : PageMapValue). IsLocated c.args.c v.staged) same located)

pub invariant_of-self : goal.invariant_of-self
invariant_of-self c = kept (goal.at.invariant_of-self c).After-place

pub returns-in_err-place-clause-rules : goal.returns-in_err-place-clause-rules
returns-in_err-place-clause-rules c = mapped c.self.inside.format c.place.new.entries.entries c.self.inside.free (kept (goal.at.returns-in_err-place-clause-rules c).After-place)

pub fresh_plane-requires : goal.fresh_plane-requires
fresh_plane-requires c =
    let at = (goal.at.fresh_plane-requires c).After-place in
    omega (arith, room_for_tile c.self.inside.format c.place.new.entries.entries c.self.inside.free (kept at) (room at), c.index_pages.ensures, c.data_pages.ensures.value)

pub invariant_of-self-in_err-location : goal.invariant_of-self-in_err-location
invariant_of-self-in_err-location c =
    subst (λ (s : FreePages). IsKept c.self.inside.format c.place.new.entries.entries s) (sym c.in_err-location.ensures.unchanged) (kept (goal.at.invariant_of-self-in_err-location c).After-place)

pub returns-in_err-location-clause-rules : goal.returns-in_err-location-clause-rules
returns-in_err-location-clause-rules c =
    mapped c.self.inside.format c.place.new.entries.entries c.fresh_plane.new.free
    (subst (λ (s : FreePages). IsKept c.self.inside.format c.place.new.entries.entries s) (sym c.in_err-location.ensures.unchanged) (kept (goal.at.returns-in_err-location-clause-rules c).After-place))

pub invariant_of-self-2 : goal.invariant_of-self-2
invariant_of-self-2 c =
    let at = (goal.at.invariant_of-self-2 c).After-place in
    kept_staged c.self.inside.format c.place.new.entries.entries c.self.inside.free c.fresh_plane.new.free (kept at) c.args.c c.in_ok-location.location
    (record { index_pages = c.in_ok-location.ensures.index_pages ∙ c.index_pages.ensures; pages = c.in_ok-location.ensures.pages ∙ c.data_pages.ensures.value }) c.in_ok-location.ensures.taken (room at)
    c.unwrap-entry.result.now (sym c.get_mut.ensures.value ∙ ap option_copied_mut c.unwrap-entry.ensures) (absent at) _ (c.get_mut.follows.holds _).0

pub returns-clause-added : goal.returns-clause-added
returns-clause-added c =
    let at = (goal.at.returns-clause-added c).After-place in
    subst (λ (v : PageMapValue). IsAdded c.args.c v (page_map_of c.self.inside.format (c.get_mut.follows.lender (with_fresh c.unwrap-entry.result.now c.in_ok-location.location)).entries c.fresh_plane.new.free)) (same at)
    (is_staged c.self.inside.format c.place.new.entries.entries c.self.inside.free c.fresh_plane.new.free (kept at) c.args.c c.in_ok-location.location
    (record { index_pages = c.in_ok-location.ensures.index_pages ∙ c.index_pages.ensures; pages = c.in_ok-location.ensures.pages ∙ c.data_pages.ensures.value }) c.in_ok-location.ensures.taken (room at)
    c.unwrap-entry.result.now (sym c.get_mut.ensures.value ∙ ap option_copied_mut c.unwrap-entry.ensures) (absent at) _ (c.get_mut.follows.holds _).0)

pub returns-clause-rules : goal.returns-clause-rules
returns-clause-rules c =
    let at = (goal.at.returns-clause-rules c).After-place in
    mapped c.self.inside.format _ c.fresh_plane.new.free
    (kept_staged c.self.inside.format c.place.new.entries.entries c.self.inside.free c.fresh_plane.new.free (kept at) c.args.c c.in_ok-location.location
    (record { index_pages = c.in_ok-location.ensures.index_pages ∙ c.index_pages.ensures; pages = c.in_ok-location.ensures.pages ∙ c.data_pages.ensures.value }) c.in_ok-location.ensures.taken (room at)
    c.unwrap-entry.result.now (sym c.get_mut.ensures.value ∙ ap option_copied_mut c.unwrap-entry.ensures) (absent at) _ (c.get_mut.follows.holds _).0)
