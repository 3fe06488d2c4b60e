use Rattle.flow_d8.proofs.Prelude.{List, ap, arith, get_or, get_or-map-range_with_len, get_or_default, length, length-map-range_with_len, length-set, mark_in, mark_of, marks_in, set, sym, ℕ, ◌%◌, ◌*◌, ◌/◌, ◌<◌, ◌∙◌, ◌≡◌, ◌≢◌, ◌≤◌}
use Rattle.std.proofs.lemmas.Grind.{common_steps}
use Rattle.std.proofs.lemmas.List.{set_past}
use Rattle.std.proofs.lemmas.List.FromFn.{fill_by_all}
use Rattle.flow_d8.proofs.marks.Marks.set.Goals as goal

-- setting the mark of one place in its word changes no other mark
marks_set : (words : List ℕ) (count k word mark : ℕ) → k < count → count ≤ length words * 32 → mark_of word (k % 32) ≡ mark
    → ((i : ℕ) → i < 32 → i ≢ k % 32 → mark_of word i ≡ mark_of (get_or words (k / 32) 0) i) → marks_in (set words (k / 32) word) count ≡ set (marks_in words count) k mark
marks_set words count k word mark less enough here others =
    let whole = length-map-range_with_len (mark_in words) 0 count in
    sym (fill_by_all (mark_in (set words (k / 32) word)) (set (marks_in words count) k mark) count 3 (length-set (marks_in words count) k mark ∙ whole)
    (λ j small. grind (arith, common_steps, get_or-map-range_with_len (mark_in words) 0 count j j 3 small, others (j % 32), here, whole)))

pub returns-then-k-self : goal.returns-then-k-self
returns-then-k-self c =
    let words = c.self.inside.words.items in
    rw (← c.self.view_is) (marks_set words c.self.inside.count c.args.k c.with_mark.result c.args.mark c.if-k-self.true (omega (arith, c.self.invariant)) c.with_mark.ensures.here
    (λ i small other. c.with_mark.ensures.others i small other ∙ ap (λ w. mark_of w i) (c.index.ensures ∙ get_or_default words (c.args.k / 32) c.index.result.now 0 (omega arith))))

pub returns-else-k-self : goal.returns-else-k-self
returns-else-k-self c = sym (set_past c.args.self.now c.args.k c.args.mark (omega (arith, c.if-k-self.false, ap length c.self.view_is, length-map-range_with_len {X = ℕ})))
