use Rattle.page_map.proofs.Prelude.{All, IsBefore, IsKept, IsWholeTile, KeepsPageRule, PageMapValue, TileEntry, [], ap, committed_tiles, inl, inr, length, option_copied_mut, page_map_of, staged_tiles, subst, sym, tile_at, with_planes, ⊎_elim, ◌++◌, ◌<◌, ◌∙◌, ◌∷◌, ◌≡◌}
use Rattle.page_map.proofs.Refused.{ended_with}
use Rattle.page_map.proofs.PageMapRules.{mapped}
use Rattle.page_map.proofs.Loading.{kept_loaded, page_map_loaded, rule_broken}
use Rattle.page_map.proofs.page_map.PageMap.load.Goals as goal
use Rattle.page_map.proofs.page_map.PageMap.load.Goals.{After-place}

pub returns-in_err-mark_planes-clause-refused : goal.returns-in_err-mark_planes-clause-refused
returns-in_err-mark_planes-clause-refused c =
    rw (ended_with c.from_residual.result c.in_err-mark_planes.field-0.0 c.from_residual.ensures.1)
    (⊎_elim inl
    (λ damaged. inr (
      damaged.0,
      subst (λ (v : PageMapValue). KeepsPageRule v.sectors (v.committed ++ tile_at c.args.corner c.args.planes ∷ []) → ⊥) c.self.view_is
          (rule_broken c.self.inside.format c.self.inside.entries.entries c.self.inside.free c.self.invariant (subst (λ (v : PageMapValue). v.staged ≡ v.committed) (sym c.self.view_is) c.requires.clean) c.args.corner c.args.planes damaged.1),
    ))
    c.in_err-mark_planes.ensures.refused)

-- The corner has an entry.
module _ (c : After-place) where
  kept : IsKept c.self.inside.format c.place.new.entries.entries c.self.inside.free
  kept = (c.place.ensures.alike c.self.inside.format c.self.inside.free c.self.invariant).0

  same : page_map_of c.self.inside.format c.place.new.entries.entries c.self.inside.free ≡ c.args.self
  same = (c.place.ensures.alike c.self.inside.format c.self.inside.free c.self.invariant).1 ∙ c.self.view_is

  clean : staged_tiles c.place.new.entries.entries ≡ committed_tiles c.place.new.entries.entries
  clean = subst (λ (v : PageMapValue). v.staged ≡ v.committed) (sym same) c.requires.clean

  before : All (λ t. IsBefore t.corner c.args.corner) (committed_tiles c.place.new.entries.entries)
  before = subst (λ (v : PageMapValue). All (λ t. IsBefore t.corner c.args.corner) v.committed) (sym same) c.requires.after

  room : length (committed_tiles c.place.new.entries.entries) < c.self.inside.format.capacity
  room = subst (λ (v : PageMapValue). length v.committed < v.format.capacity) (sym same) c.requires.room

  whole : IsWholeTile c.self.inside.format (tile_at c.args.corner c.args.planes)
  whole = subst (λ (v : PageMapValue). IsWholeTile v.format (tile_at c.args.corner c.args.planes)) (sym same) c.requires.whole

pub invariant_of-result : goal.invariant_of-result
invariant_of-result c =
    let at = (goal.at.invariant_of-result c).After-place in
    kept_loaded c.self.inside.format c.place.new.entries.entries c.self.inside.free (kept at) (clean at) c.args.corner c.args.planes c.unwrap-entry.result.now (sym c.get_mut.ensures.value ∙ ap option_copied_mut c.unwrap-entry.ensures) (before at)
    c.corner_in_range.ensures (room at) (whole at) c.mark_planes.new.free c.in_ok-mark_planes.ensures.marked _ ((c.get_mut.follows.holds _).0 ∙ ap (λ (x : TileEntry). with_planes c.args.corner x c.place.new.entries.entries) c.committed.ensures)

pub returns-clause-loaded : goal.returns-clause-loaded
returns-clause-loaded c =
    let at = (goal.at.returns-clause-loaded c).After-place in
    page_map_loaded c.self.inside.format c.place.new.entries.entries c.self.inside.free (kept at) (clean at) c.args.corner c.args.planes c.unwrap-entry.result.now (sym c.get_mut.ensures.value ∙ ap option_copied_mut c.unwrap-entry.ensures) (before at)
    c.corner_in_range.ensures (room at) (whole at) c.mark_planes.new.free c.in_ok-mark_planes.ensures.marked _ ((c.get_mut.follows.holds _).0 ∙ ap (λ (x : TileEntry). with_planes c.args.corner x c.place.new.entries.entries) c.committed.ensures)
    ∙ ap (λ (v : PageMapValue). record v { committed = v.committed ++ tile_at c.args.corner c.args.planes ∷ []; staged = v.committed ++ tile_at c.args.corner c.args.planes ∷ [] }) (same at)

pub returns-clause-rules : goal.returns-clause-rules
returns-clause-rules c =
    let at = (goal.at.returns-clause-rules c).After-place in
    mapped c.self.inside.format _ c.mark_planes.new.free
    (kept_loaded c.self.inside.format c.place.new.entries.entries c.self.inside.free (kept at) (clean at) c.args.corner c.args.planes c.unwrap-entry.result.now (sym c.get_mut.ensures.value ∙ ap option_copied_mut c.unwrap-entry.ensures) (before at)
    c.corner_in_range.ensures (room at) (whole at) c.mark_planes.new.free c.in_ok-mark_planes.ensures.marked _ ((c.get_mut.follows.holds _).0 ∙ ap (λ (x : TileEntry). with_planes c.args.corner x c.place.new.entries.entries) c.committed.ensures))
