use Rattle.std.proofs.Common.{◌≡◌, ℕ, min, take, drop, length, ap, ◌∙◌, arith}
use Rattle.std.proofs.lemmas.List.{take_min, drop_min}
use Rattle.cow_tree.proofs.writing.split_page.Goals as goal

pub returns-clause-front : goal.returns-clause-front
returns-clause-front c =
    let at : c.min.result ≡ min 4096 (length c.args.bytes.now) = omega (arith, c.min.ensures) in
    c.split_at.ensures.front ∙ ap (λ (n : ℕ). take n c.args.bytes.now) at ∙ take_min 4096 c.args.bytes.now

pub returns-clause-behind : goal.returns-clause-behind
returns-clause-behind c =
    let at : c.min.result ≡ min 4096 (length c.args.bytes.now) = omega (arith, c.min.ensures) in
    c.split_at.ensures.back ∙ ap (λ (n : ℕ). drop n c.args.bytes.now) at ∙ drop_min 4096 c.args.bytes.now
