use Rattle.page_map.proofs.Prelude.{IsKept, IsLocated, None, PageMapValue, TileEntry, ap, option_copied_mut, other_kept, page_map_of, subst, sym, with_planes, ◌∙◌, ◌≡◌}
use Rattle.page_map.proofs.PageMapRules.{mapped}
use Rattle.page_map.proofs.Lookup.{some_entry}
use Rattle.page_map.proofs.AtEntry.{in_use}
use Rattle.page_map.proofs.KeptChanges.{fresh_kept_in_use, bared}
use Rattle.page_map.proofs.page_map.PageMap.drop_kept.Goals as goal
use Rattle.page_map.proofs.page_map.PageMap.drop_kept.Goals.{After-drop_kept}

pub unwrap-entry-requires : goal.unwrap-entry-requires
unwrap-entry-requires c = some_entry c.args.c c.self.inside.entries.entries c.get_mut.result c.get_mut.ensures.value (subst (λ (v : PageMapValue). IsLocated c.args.c v.staged) (sym c.self.view_is) c.requires)

pub drop_kept-requires : goal.drop_kept-requires
drop_kept-requires c =
    let found = sym c.get_mut.ensures.value ∙ ap option_copied_mut c.unwrap-entry.ensures in
    fresh_kept_in_use c.unwrap-entry.result.now c.self.inside.free (in_use c.self.inside.format c.self.inside.entries.entries c.self.inside.free c.self.invariant c.args.c c.unwrap-entry.result.now found)

bared_now : (c : After-drop_kept) → IsKept c.self.inside.format (c.get_mut.follows.lender c.drop_kept.new.self).entries c.drop_kept.new.free
    × (page_map_of c.self.inside.format (c.get_mut.follows.lender c.drop_kept.new.self).entries c.drop_kept.new.free ≡ record (c.args.self.now) { staged = other_kept c.args.c None c.args.self.now.staged })
bared_now c =
    let found = sym c.get_mut.ensures.value ∙ ap option_copied_mut c.unwrap-entry.ensures in
    bared c.self.inside.format c.self.inside.entries.entries c.self.inside.free c.self.invariant c.args.c c.unwrap-entry.result.now found (subst (λ (v : PageMapValue). IsLocated c.args.c v.staged) (sym c.self.view_is) c.requires) c.drop_kept.new.free
    _ ((c.get_mut.follows.holds _).0 ∙ ap (λ (x : TileEntry). with_planes c.args.c x c.self.inside.entries.entries) c.drop_kept.ensures.dropped) c.drop_kept.ensures.given c.args.self.now c.self.view_is

pub invariant_of-self : goal.invariant_of-self
invariant_of-self c = (bared_now (goal.at.invariant_of-self c).After-drop_kept).0

pub returns-clause-dropped : goal.returns-clause-dropped
returns-clause-dropped c = (bared_now (goal.at.returns-clause-dropped c).After-drop_kept).1

pub returns-clause-rules : goal.returns-clause-rules
returns-clause-rules c = mapped c.self.inside.format _ c.drop_kept.new.free (bared_now (goal.at.returns-clause-rules c).After-drop_kept).0
