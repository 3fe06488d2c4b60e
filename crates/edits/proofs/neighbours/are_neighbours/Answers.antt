use Rattle.edits.proofs.Prelude.{Bool, ℕ, ap, ap₂, nat_abs, nat_lt, rules, sym, true, ◌&&◌, ◌-ℤ◌, ◌∙◌, ◌≡◌}
use Rattle.std.proofs.lemmas.Bool.Decides.{Decides-ltb}
use Rattle.edits.proofs.neighbours.are_neighbours.Goals as goal

pub returns-then-abs_diff-lt2 : goal.returns-then-abs_diff-lt2
returns-then-abs_diff-lt2 c =
    let lat : nat_abs (c.args.a.lat -ℤ c.args.b.lat) ≡ c.abs_diff.result = search rules in
    let lon : nat_abs (c.args.a.lon -ℤ c.args.b.lon) ≡ c.abs_diff-then-abs_diff-lt2.result = search rules in
    let near : nat_lt c.abs_diff.result 2 ≡ true = (Decides-ltb c.abs_diff.result 2).1 c.if-abs_diff-lt2.true in
    sym (ap₂ (λ (x y : ℕ). nat_lt x 2 && nat_lt y 2) lat lon ∙ ap (λ (b : Bool). b && nat_lt c.abs_diff-then-abs_diff-lt2.result 2) near)
