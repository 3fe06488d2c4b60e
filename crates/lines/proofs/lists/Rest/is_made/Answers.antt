use Rattle.std.proofs.Common.{arith, ◌≡◌, ◌+◌, ◌++◌, ◌∙◌, length, length-append, ap, sym, true≢false}
use Rattle.std.proofs.lemmas.Bool.{eq-eqb}
use Rattle.lines.specs.Held.{text_left}
use Rattle.lines.proofs.lists.Rest.is_made.Goals as goal

-- a head that isn't written yet
pub returns-else-is_empty : goal.returns-else-is_empty
returns-else-is_empty c =
    let head = c.self.inside.head.now in
    let left = text_left c.self.inside.left in
    let size : length (head ++ left) ≡ length head + length left = length-append head left in (
      λ t. absurd (true≢false (sym t ∙ c.if-is_empty.false)),
      λ none.
          let gone : length (head ++ left) ≡ 0 = ap length (c.self.view_is ∙ none) in
          c.is_empty.ensures ∙ eq-eqb (length head) 0 (omega (arith, size, gone)),
    )
