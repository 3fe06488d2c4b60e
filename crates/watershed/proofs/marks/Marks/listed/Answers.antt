use Rattle.std.proofs.Common.{rules}
use Rattle.watershed.proofs.Prelude.{Some, ℕ, ap, cases_Bool, false, is_at, nat_cmp, sym, ◌∙◌, ◌≡◌, ◌≢◌}
use Rattle.std.specs.Option.{option_copied}
use Rattle.watershed.proofs.Marked.{found_at, words_stay, indexed_more}
use Rattle.watershed.proofs.marks.Marks.listed.Goals as goal

-- another number has its own entry
apart : (number q : ℕ) → q ≢ number → is_at (nat_cmp number) q ≡ false
apart number q other = search (rules, cases_Bool, is_at, nat_cmp, found_at)

pub returns-clause-same : goal.returns-clause-same
returns-clause-same c =
    let old = c.args.self.now in
    let number = c.args.number in
    let updates = c.in_ok-insert.ensures.updates in
    words_stay old (record { places = c.insert.new.self; numbers = c.push.new.self; words = c.extend_from_slice.new.self; hints = old.hints }) number c.requires.indexed
    (sym c.get.ensures.value ∙ ap option_copied c.in_default.is) c.requires.number c.in_ok-extend_from_slice.ensures.items c.in_ok-push.ensures.items
    (updates.1 ∙ ap Some (c.len-place.ensures ∙ old.numbers.ok.0)) (λ q other. updates.2 q (apart number q other))

pub returns-clause-indexed : goal.returns-clause-indexed
returns-clause-indexed c =
    let old = c.args.self.now in
    let number = c.args.number in
    let updates = c.in_ok-insert.ensures.updates in
    indexed_more old (record { places = c.insert.new.self; numbers = c.push.new.self; words = c.extend_from_slice.new.self; hints = old.hints }) number c.requires.indexed
    (sym c.get.ensures.value ∙ ap option_copied c.in_default.is) c.requires.number c.in_ok-extend_from_slice.ensures.items c.in_ok-push.ensures.items
    (updates.1 ∙ ap Some (c.len-place.ensures ∙ old.numbers.ok.0)) (λ q other. updates.2 q (apart number q other))
