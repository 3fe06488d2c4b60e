use Rattle.page_map.proofs.Prelude.{AreAlike, Entry, List, corner_cmp, false, insert_entry, is_some, no_planes, planes_at, subst, sym, ◌∙◌, ◌≡◌}
use Rattle.page_map.proofs.EntryInserts.{placed_alike}
use Rattle.page_map.proofs.page_map.place.Goals as goal

pub returns-in-Ok-clause-alike : goal.returns-in-Ok-clause-alike
returns-in-Ok-clause-alike c =
    let absent : is_some (planes_at c.args.c c.args.entries.now.entries) ≡ false = sym c.contains_key.ensures ∙ c.if-contains_key.false in
    let put : c.insert.new.self.entries ≡ insert_entry corner_cmp c.args.entries.now.entries c.args.c no_planes = rw c.empty.ensures at c.in-Ok.ensures.entries in
    subst (λ (l : List Entry). AreAlike c.args.entries.now.entries l) (sym put) (placed_alike c.args.c c.args.entries.now.entries c.corner_in_range.ensures c.requires absent)
