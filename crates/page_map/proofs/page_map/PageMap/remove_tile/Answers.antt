use Rattle.page_map.proofs.Prelude.{IsKept, IsLocated, PageMapValue, TileEntry, ap, option_copied_mut, page_map_of, subst, sym, with_planes, without_location, ◌∙◌, ◌≡◌}
use Rattle.page_map.proofs.PageMapRules.{mapped}
use Rattle.page_map.proofs.Lookup.{some_entry}
use Rattle.page_map.proofs.AtEntry.{in_use}
use Rattle.page_map.proofs.KeptChanges.{fresh_in_use, removed}
use Rattle.page_map.proofs.page_map.PageMap.remove_tile.Goals as goal
use Rattle.page_map.proofs.page_map.PageMap.remove_tile.Goals.{After-remove}

pub unwrap-entry-requires : goal.unwrap-entry-requires
unwrap-entry-requires c = some_entry c.args.c c.self.inside.entries.entries c.get_mut.result c.get_mut.ensures.value (subst (λ (v : PageMapValue). IsLocated c.args.c v.staged) (sym c.self.view_is) c.requires)

pub remove-requires : goal.remove-requires
remove-requires c =
    let found = sym c.get_mut.ensures.value ∙ ap option_copied_mut c.unwrap-entry.ensures in
    fresh_in_use c.unwrap-entry.result.now c.self.inside.free (in_use c.self.inside.format c.self.inside.entries.entries c.self.inside.free c.self.invariant c.args.c c.unwrap-entry.result.now found)

removed_now : (c : After-remove) → IsKept c.self.inside.format (c.get_mut.follows.lender c.remove.new.self).entries c.remove.new.free
    × (page_map_of c.self.inside.format (c.get_mut.follows.lender c.remove.new.self).entries c.remove.new.free ≡ record (c.args.self.now) { staged = without_location c.args.c c.args.self.now.staged })
removed_now c =
    let found = sym c.get_mut.ensures.value ∙ ap option_copied_mut c.unwrap-entry.ensures in
    removed c.self.inside.format c.self.inside.entries.entries c.self.inside.free c.self.invariant c.args.c c.unwrap-entry.result.now found (subst (λ (v : PageMapValue). IsLocated c.args.c v.staged) (sym c.self.view_is) c.requires) c.remove.new.free
    _ ((c.get_mut.follows.holds _).0 ∙ ap (λ (x : TileEntry). with_planes c.args.c x c.self.inside.entries.entries) c.remove.ensures.removed) c.remove.ensures.given c.args.self.now c.self.view_is

pub invariant_of-self : goal.invariant_of-self
invariant_of-self c = (removed_now (goal.at.invariant_of-self c).After-remove).0

pub returns-clause-removed : goal.returns-clause-removed
returns-clause-removed c = (removed_now (goal.at.returns-clause-removed c).After-remove).1

pub returns-clause-rules : goal.returns-clause-rules
returns-clause-rules c = mapped c.self.inside.format _ c.remove.new.free (removed_now (goal.at.returns-clause-rules c).After-remove).0
