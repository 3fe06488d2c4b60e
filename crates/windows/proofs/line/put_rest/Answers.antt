use Rattle.std.proofs.Common.{rules, ◌≡◌, ◌+◌, ◌≤◌, ◌++◌, ℕ, List, length, take, min, sym, ap, ◌∙◌, subst}
use Rattle.std.proofs.lemmas.List.{append_assoc}
use Rattle.windows.proofs.Lines.{more_put}
use Rattle.windows.proofs.line.put_rest.Goals as goal

pub loop-rest-preserved : goal.loop-rest-preserved
loop-rest-preserved c =
    let inv = c.loop-rest.invariant in
    let made = inv.0 in
    let part = c.next_part-part.result.items in
    let left = c.next_part-part.new.self in
    let old = c.loop-rest.into in
    let new = c.put_bytes-at.new.into in
    let at = c.loop-rest.at in
    let now = c.put_bytes-at.result in
    let same : length new ≡ length old = search rules in
    let room : length old ≤ 18446744073709551615 = search rules in
    let counted = subst (λ (xs : List ℕ). now ≡ min (at + length xs) 18446744073709551615) c.as_slice.ensures.value c.put_bytes-at.ensures.counted in
    let put = subst (λ (xs : List ℕ). at + length xs ≤ length old → take (at + length xs) new ≡ take at old ++ xs) c.as_slice.ensures.value c.put_bytes-at.ensures.put in (
      made ++ part,
      (
        append_assoc made part left ∙ ap (λ (xs : List ℕ). made ++ xs) c.next_part-part.ensures.next ∙ inv.1.0,
        (more_put made part old new at now room same inv.1.1.0 counted put, same ∙ inv.1.1.1),
      ),
    )
