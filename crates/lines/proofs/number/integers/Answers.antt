use Rattle.std.proofs.Common.{rules, arith, ◌≡◌, ◌∷◌, ◌++◌, [], length, sym, ap, ◌∙◌, subst, append_assoc}
use Rattle.lines.specs.Grammar.{AreInts}
use Rattle.lines.proofs.NumberLemmas.{AreInts-at, AreInts-push, too_many}
use Rattle.lines.proofs.number.integers.Goals as goal

pub returns-in_err-integer : goal.returns-in_err-integer
returns-in_err-integer c =
    let before = c.loop-word.invariant in
    let whole : c.args.words ≡ before.0 ++ c.in-Some.word.now ∷ c.next.new.self = before.1 ∙ ap (λ l. before.0 ++ l) c.in-Some.ensures in
    rw c.from_residual.ensures (λ zs h. let some = AreInts-at before.0 _ _ zs (subst (λ l. AreInts l zs) whole h) in absurd (c.in_err-integer.ensures some.0 some.1))

pub returns-then-is_full : goal.returns-then-is_full
returns-then-is_full c = λ zs h.
    let before = c.loop-word.invariant in
    let whole : c.args.words ≡ before.0 ++ c.in-Some.word.now ∷ c.next.new.self = before.1 ∙ ap (λ l. before.0 ++ l) c.in-Some.ensures in
    let longer = too_many before.0 _ _ _ zs before.2 (subst (λ l. AreInts l zs) whole h) in
    let full : length c.loop-word.numbers.items ≡ 129 = search rules in
    omega (arith, longer, full)

pub loop-word-preserved : goal.loop-word-preserved
loop-word-preserved c =
    let before = c.loop-word.invariant in
    let word = c.in-Some.word.now in
    let whole : c.args.words ≡ before.0 ++ word ∷ c.next.new.self = before.1 ∙ ap (λ l. before.0 ++ l) c.in-Some.ensures in
    let pushed : c.push.new.self.items ≡ c.loop-word.numbers.items ++ c.in_ok-integer.field-0 ∷ [] = search rules in
    (before.0 ++ word ∷ [], whole ∙ sym (append_assoc before.0 (word ∷ []) c.next.new.self), rw pushed (AreInts-push before.0 word _ _ before.2 c.in_ok-integer.ensures))
