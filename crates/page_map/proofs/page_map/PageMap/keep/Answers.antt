use Rattle.page_map.proofs.Prelude.{AreKept, IsClean, IsKept, IsLocated, OnErr, OnOk, PageMapValue, [], ap, flat_map, fresh_by, option_copied_mut, page_map_of, subst, sym, ◌∙◌, ◌≡◌}
use Rattle.page_map.proofs.Room.{room_to_keep}
use Rattle.page_map.proofs.Clean.{none_fresh}
use Rattle.page_map.proofs.PageMapRules.{mapped}
use Rattle.page_map.proofs.Lookup.{some_entry}
use Rattle.page_map.proofs.AtEntry.{in_use}
use Rattle.page_map.proofs.KeptChanges.{none_here, kept_anew, are_kept, same_kept}
use Rattle.page_map.proofs.page_map.PageMap.keep.Goals as goal
use Rattle.page_map.proofs.page_map.PageMap.keep.Goals.{After-keep}

pub unwrap-entry-requires : goal.unwrap-entry-requires
unwrap-entry-requires c = some_entry c.args.c c.self.inside.entries.entries c.get_mut.result c.get_mut.ensures.value (subst (λ (v : PageMapValue). IsLocated c.args.c v.staged) (sym c.self.view_is) c.requires.present)

pub keep-requires-clause-room : goal.keep-requires-clause-room
keep-requires-clause-room c =
    let none : flat_map fresh_by c.self.inside.entries.entries ≡ [] = none_fresh c.self.inside.format c.self.inside.entries.entries c.self.inside.free c.self.invariant (subst IsClean (sym c.self.view_is) c.requires.clean) in
    room_to_keep c.self.inside.format c.self.inside.entries.entries c.self.inside.free c.self.invariant none

pub keep-requires-clause-none : goal.keep-requires-clause-none
keep-requires-clause-none c =
    let found = sym c.get_mut.ensures.value ∙ ap option_copied_mut c.unwrap-entry.ensures in
    let none : flat_map fresh_by c.self.inside.entries.entries ≡ [] = none_fresh c.self.inside.format c.self.inside.entries.entries c.self.inside.free c.self.invariant (subst IsClean (sym c.self.view_is) c.requires.clean) in
    none_here c.self.inside.format c.self.inside.entries.entries c.self.inside.free c.self.invariant c.args.c c.unwrap-entry.result.now found none

pub keep-requires-clause-in_use : goal.keep-requires-clause-in_use
keep-requires-clause-in_use c =
    let found = sym c.get_mut.ensures.value ∙ ap option_copied_mut c.unwrap-entry.ensures in
    in_use c.self.inside.format c.self.inside.entries.entries c.self.inside.free c.self.invariant c.args.c c.unwrap-entry.result.now found

kept_now : (c : After-keep) → IsKept c.self.inside.format (c.get_mut.follows.lender c.keep.new.self).entries c.keep.new.free
kept_now c =
    let found = sym c.get_mut.ensures.value ∙ ap option_copied_mut c.unwrap-entry.ensures in
    let none : flat_map fresh_by c.self.inside.entries.entries ≡ [] = none_fresh c.self.inside.format c.self.inside.entries.entries c.self.inside.free c.self.invariant (subst IsClean (sym c.self.view_is) c.requires.clean) in
    kept_anew c.self.inside.format c.self.inside.entries.entries c.self.inside.free c.self.invariant c.args.c c.unwrap-entry.result.now found
    (subst (λ (v : PageMapValue). IsLocated c.args.c v.staged) (sym c.self.view_is) c.requires.present) c.keep.new.free none c.keep.new.self c.keep.ensures.balanced _ (c.get_mut.follows.holds _).0 c.keep.result c.keep.ensures.kept c.keep.ensures.unchanged

pub invariant_of-self : goal.invariant_of-self
invariant_of-self c = kept_now (goal.at.invariant_of-self c).After-keep

pub returns-clause-kept : goal.returns-clause-kept
returns-clause-kept c =
    let found = sym c.get_mut.ensures.value ∙ ap option_copied_mut c.unwrap-entry.ensures in
    let none : flat_map fresh_by c.self.inside.entries.entries ≡ [] = none_fresh c.self.inside.format c.self.inside.entries.entries c.self.inside.free c.self.invariant (subst IsClean (sym c.self.view_is) c.requires.clean) in
    subst (λ (v : PageMapValue). OnOk c.keep.result (AreKept c.args.c v (page_map_of c.self.inside.format (c.get_mut.follows.lender c.keep.new.self).entries c.keep.new.free))) c.self.view_is
    (are_kept c.self.inside.format c.self.inside.entries.entries c.self.inside.free c.self.invariant c.args.c c.unwrap-entry.result.now found
    (subst (λ (v : PageMapValue). IsLocated c.args.c v.staged) (sym c.self.view_is) c.requires.present) c.keep.new.free none c.keep.new.self c.keep.ensures.balanced _ (c.get_mut.follows.holds _).0 c.keep.result c.keep.ensures.kept)

pub returns-clause-unchanged : goal.returns-clause-unchanged
returns-clause-unchanged c =
    let found = sym c.get_mut.ensures.value ∙ ap option_copied_mut c.unwrap-entry.ensures in
    let none : flat_map fresh_by c.self.inside.entries.entries ≡ [] = none_fresh c.self.inside.format c.self.inside.entries.entries c.self.inside.free c.self.invariant (subst IsClean (sym c.self.view_is) c.requires.clean) in
    subst (λ (v : PageMapValue). OnErr c.keep.result (page_map_of c.self.inside.format (c.get_mut.follows.lender c.keep.new.self).entries c.keep.new.free ≡ v)) c.self.view_is
    (same_kept c.self.inside.format c.self.inside.entries.entries c.self.inside.free c.self.invariant c.args.c c.unwrap-entry.result.now found
    (subst (λ (v : PageMapValue). IsLocated c.args.c v.staged) (sym c.self.view_is) c.requires.present) c.keep.new.free none c.keep.new.self c.keep.ensures.balanced _ (c.get_mut.follows.holds _).0 c.keep.result c.keep.ensures.kept c.keep.ensures.unchanged)

pub returns-clause-rules : goal.returns-clause-rules
returns-clause-rules c = mapped c.self.inside.format _ c.keep.new.free (kept_now (goal.at.returns-clause-rules c).After-keep)
