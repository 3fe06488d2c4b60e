use Rattle.cow_tree.proofs.Prelude.{List, ℕ, ap, arith, drop, length, min, take, take_min, ◌*◌, ◌∙◌, ◌≡◌}
use Rattle.cow_tree.proofs.listings.part.Goals as goal

pub returns-clause-value : goal.returns-clause-value
returns-clause-value c =
    let behind : List ℕ = c.split_at.result.1.now in
    let at : c.min.result ≡ min 1024 (length behind) = omega (arith, c.min.ensures) in
    c.split_at-2.ensures.front ∙ ap (λ (n : ℕ). take n behind) at ∙ take_min 1024 behind ∙ ap (take 1024) (c.split_at.ensures.back ∙ ap (drop (1024 * c.args.t)) c.pages.ensures)
