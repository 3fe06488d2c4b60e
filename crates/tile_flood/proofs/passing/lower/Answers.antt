use Rattle.tile_flood.proofs.Prelude.{Spill, ℤ, arith, get_or_default, int_lt, ints, pos, subst, sym, true, ◌∙◌, ◌≡◌, ◌≤ℤ◌}
use Rattle.labelling.proofs.Passages.{listed_in_place}
use Rattle.tile_flood.proofs.passing.lower.Goals as goal

at_most : (a b : ℤ) → int_lt a b ≡ true → a ≤ℤ b
at_most a b less = grind (arith, ints)

pub returns-then-is_lower : goal.returns-then-is_lower
returns-then-is_lower c =
    let found = c.args.found.now in
    let k = c.args.place in
    let p = c.args.passage in
    listed_in_place found k p c.requires.inside c.requires.same
    (subst (λ (q : Spill). p.level ≤ℤ q.level) (get_or_default found k (record { a = 0; b = 0; level = pos 0 }) p c.requires.inside) (at_most p.level _ (sym c.is_lower.ensures ∙ c.if-is_lower.true)))
