use Rattle.page_map.proofs.Prelude.{IsKept, IsLocated, IsPrepared, OnErr, OnOk, PageMapValue, ap, option_copied_mut, page_map_of, subst, sym, ◌∙◌, ◌≡◌}
use Rattle.page_map.proofs.PageMapRules.{mapped}
use Rattle.page_map.proofs.Lookup.{some_entry}
use Rattle.page_map.proofs.AtEntry.{heights_present, room, kept_prepared, is_prepared, same_heights}
use Rattle.page_map.proofs.page_map.PageMap.prepare.Goals as goal
use Rattle.page_map.proofs.page_map.PageMap.prepare.Goals.{After-prepare}

pub unwrap-entry-requires : goal.unwrap-entry-requires
unwrap-entry-requires c = some_entry c.args.c c.self.inside.entries.entries c.get_mut.result c.get_mut.ensures.value (subst (λ (v : PageMapValue). IsLocated c.args.c v.staged) (sym c.self.view_is) c.requires)

pub prepare-requires-clause-room : goal.prepare-requires-clause-room
prepare-requires-clause-room c =
    let found = sym c.get_mut.ensures.value ∙ ap option_copied_mut c.unwrap-entry.ensures in
    room c.self.inside.format c.self.inside.entries.entries c.self.inside.free c.self.invariant c.args.c c.unwrap-entry.result.now found

pub prepare-requires-clause-present : goal.prepare-requires-clause-present
prepare-requires-clause-present c =
    let found = sym c.get_mut.ensures.value ∙ ap option_copied_mut c.unwrap-entry.ensures in
    heights_present c.self.inside.format c.self.inside.entries.entries c.self.inside.free c.self.invariant c.args.c c.unwrap-entry.result.now found (subst (λ (v : PageMapValue). IsLocated c.args.c v.staged) (sym c.self.view_is) c.requires)

kept_now : (c : After-prepare) → IsKept c.self.inside.format (c.get_mut.follows.lender (record (c.unwrap-entry.result.now) { heights = c.prepare.new.self })).entries c.prepare.new.free
kept_now c =
    let found = sym c.get_mut.ensures.value ∙ ap option_copied_mut c.unwrap-entry.ensures in
    kept_prepared c.self.inside.format c.self.inside.entries.entries c.self.inside.free c.self.invariant c.args.c c.unwrap-entry.result.now found
    c.prepare.new.self c.prepare.new.free c.prepare.ensures.committed c.prepare.ensures.balanced _ (c.get_mut.follows.holds _).0 c.prepare.result c.prepare.ensures.staged c.prepare.ensures.unchanged

pub invariant_of-self : goal.invariant_of-self
invariant_of-self c = kept_now (goal.at.invariant_of-self c).After-prepare

pub returns-clause-prepared : goal.returns-clause-prepared
returns-clause-prepared c =
    let found = sym c.get_mut.ensures.value ∙ ap option_copied_mut c.unwrap-entry.ensures in
    subst (λ (v : PageMapValue). OnOk c.prepare.result (IsPrepared c.args.c v (page_map_of c.self.inside.format (c.get_mut.follows.lender (record (c.unwrap-entry.result.now) { heights = c.prepare.new.self })).entries c.prepare.new.free))) c.self.view_is
    (is_prepared c.self.inside.format c.self.inside.entries.entries c.self.inside.free c.self.invariant c.args.c c.unwrap-entry.result.now found
    c.prepare.new.self c.prepare.new.free c.prepare.ensures.committed c.prepare.ensures.balanced _ (c.get_mut.follows.holds _).0 c.prepare.result c.prepare.ensures.staged)

pub returns-clause-unchanged : goal.returns-clause-unchanged
returns-clause-unchanged c =
    let found = sym c.get_mut.ensures.value ∙ ap option_copied_mut c.unwrap-entry.ensures in
    subst (λ (v : PageMapValue). OnErr c.prepare.result (page_map_of c.self.inside.format (c.get_mut.follows.lender (record (c.unwrap-entry.result.now) { heights = c.prepare.new.self })).entries c.prepare.new.free ≡ v)) c.self.view_is
    (same_heights c.self.inside.format c.self.inside.entries.entries c.self.inside.free c.self.invariant c.args.c c.unwrap-entry.result.now found
    c.prepare.new.self c.prepare.new.free c.prepare.ensures.committed c.prepare.ensures.balanced _ (c.get_mut.follows.holds _).0 c.prepare.result c.prepare.ensures.unchanged)

pub returns-clause-rules : goal.returns-clause-rules
returns-clause-rules c = mapped c.self.inside.format _ c.prepare.new.free (kept_now (goal.at.returns-clause-rules c).After-prepare)
