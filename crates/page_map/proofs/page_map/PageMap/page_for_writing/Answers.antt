use Rattle.page_map.proofs.Prelude.{HasFreshHeights, IfOk, IsKept, IsLocated, IsRewritten, OnErr, PageMapValue, ap, option_copied_mut, page_map_of, subst, sym, ◌∙◌, ◌≡◌}
use Rattle.page_map.proofs.PageMapRules.{mapped}
use Rattle.page_map.proofs.Lookup.{some_entry}
use Rattle.page_map.proofs.AtEntry.{heights_present, room, index_within, apart, staged_before, kept_rewritten, is_rewritten, same_heights}
use Rattle.page_map.proofs.page_map.PageMap.page_for_writing.Goals as goal
use Rattle.page_map.proofs.page_map.PageMap.page_for_writing.Goals.{After-page_for_writing}

pub unwrap-entry-requires : goal.unwrap-entry-requires
unwrap-entry-requires c = some_entry c.args.c c.self.inside.entries.entries c.get_mut.result c.get_mut.ensures.value (subst (λ (v : PageMapValue). IsLocated c.args.c v.staged) (sym c.self.view_is) c.requires.present)

pub page_for_writing-requires-clause-room : goal.page_for_writing-requires-clause-room
page_for_writing-requires-clause-room c =
    let found = sym c.get_mut.ensures.value ∙ ap option_copied_mut c.unwrap-entry.ensures in
    room c.self.inside.format c.self.inside.entries.entries c.self.inside.free c.self.invariant c.args.c c.unwrap-entry.result.now found

pub page_for_writing-requires-clause-present : goal.page_for_writing-requires-clause-present
page_for_writing-requires-clause-present c =
    let found = sym c.get_mut.ensures.value ∙ ap option_copied_mut c.unwrap-entry.ensures in
    heights_present c.self.inside.format c.self.inside.entries.entries c.self.inside.free c.self.invariant c.args.c c.unwrap-entry.result.now found (subst (λ (v : PageMapValue). IsLocated c.args.c v.staged) (sym c.self.view_is) c.requires.present)

pub page_for_writing-requires-clause-index : goal.page_for_writing-requires-clause-index
page_for_writing-requires-clause-index c =
    let found = sym c.get_mut.ensures.value ∙ ap option_copied_mut c.unwrap-entry.ensures in
    index_within c.self.inside.format c.self.inside.entries.entries c.self.inside.free c.self.invariant c.args.c c.unwrap-entry.result.now found
    c.args.i (rw (ap (λ (v : PageMapValue). v.format.side) c.self.view_is) c.requires.index)

pub page_for_writing-requires-clause-apart : goal.page_for_writing-requires-clause-apart
page_for_writing-requires-clause-apart c =
    let found = sym c.get_mut.ensures.value ∙ ap option_copied_mut c.unwrap-entry.ensures in
    apart c.self.inside.format c.self.inside.entries.entries c.self.inside.free c.self.invariant c.args.c c.unwrap-entry.result.now found

kept_now : (c : After-page_for_writing) → IsKept c.self.inside.format (c.get_mut.follows.lender (record (c.unwrap-entry.result.now) { heights = c.page_for_writing.new.self })).entries c.page_for_writing.new.free
kept_now c =
    let found = sym c.get_mut.ensures.value ∙ ap option_copied_mut c.unwrap-entry.ensures in
    kept_rewritten c.self.inside.format c.self.inside.entries.entries c.self.inside.free c.self.invariant c.args.c c.unwrap-entry.result.now found
    c.page_for_writing.new.self c.page_for_writing.new.free c.page_for_writing.ensures.committed c.page_for_writing.ensures.balanced _ (c.get_mut.follows.holds _).0 c.args.i c.page_for_writing.result c.page_for_writing.ensures.staged c.page_for_writing.ensures.unchanged

pub invariant_of-self : goal.invariant_of-self
invariant_of-self c = kept_now (goal.at.invariant_of-self c).After-page_for_writing

pub returns-clause-written : goal.returns-clause-written
returns-clause-written c =
    let found = sym c.get_mut.ensures.value ∙ ap option_copied_mut c.unwrap-entry.ensures in
    subst (λ (v : PageMapValue). IfOk c.page_for_writing.result (λ page. IsRewritten c.args.c c.args.i page v (page_map_of c.self.inside.format (c.get_mut.follows.lender (record (c.unwrap-entry.result.now) { heights = c.page_for_writing.new.self })).entries c.page_for_writing.new.free))) c.self.view_is
    (is_rewritten c.self.inside.format c.self.inside.entries.entries c.self.inside.free c.self.invariant c.args.c c.unwrap-entry.result.now found
    c.page_for_writing.new.self c.page_for_writing.new.free c.page_for_writing.ensures.committed c.page_for_writing.ensures.balanced _ (c.get_mut.follows.holds _).0 c.args.i c.page_for_writing.result c.page_for_writing.ensures.staged)

pub returns-clause-sure : goal.returns-clause-sure
returns-clause-sure c before =
    let found = sym c.get_mut.ensures.value ∙ ap option_copied_mut c.unwrap-entry.ensures in
    c.page_for_writing.ensures.sure (staged_before c.self.inside.format c.self.inside.entries.entries c.self.inside.free c.self.invariant c.args.c c.unwrap-entry.result.now found (subst (HasFreshHeights c.args.c) (sym c.self.view_is) before))

pub returns-clause-unchanged : goal.returns-clause-unchanged
returns-clause-unchanged c =
    let found = sym c.get_mut.ensures.value ∙ ap option_copied_mut c.unwrap-entry.ensures in
    subst (λ (v : PageMapValue). OnErr c.page_for_writing.result (page_map_of c.self.inside.format (c.get_mut.follows.lender (record (c.unwrap-entry.result.now) { heights = c.page_for_writing.new.self })).entries c.page_for_writing.new.free ≡ v)) c.self.view_is
    (same_heights c.self.inside.format c.self.inside.entries.entries c.self.inside.free c.self.invariant c.args.c c.unwrap-entry.result.now found
    c.page_for_writing.new.self c.page_for_writing.new.free c.page_for_writing.ensures.committed c.page_for_writing.ensures.balanced _ (c.get_mut.follows.holds _).0 c.page_for_writing.result c.page_for_writing.ensures.unchanged)

pub returns-clause-rules : goal.returns-clause-rules
returns-clause-rules c = mapped c.self.inside.format _ c.page_for_writing.new.free (kept_now (goal.at.returns-clause-rules c).After-page_for_writing)
