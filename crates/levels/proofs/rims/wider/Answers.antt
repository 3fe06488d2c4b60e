use Rattle.levels.proofs.Prelude.{arith, inl, inr, ints, le_or_above, of_z, rules, to_z, void, w16, ◌≢◌, ◌≤ℤ◌}
use Rattle.levels.proofs.rims.wider.Goals as goal

pub returns-clause-more : goal.returns-clause-more
returns-clause-more c level sample out =
    let least = to_z w16 (of_z w16 c.min-2.result) in
    let greatest = to_z w16 (of_z w16 c.max-2.result) in
    let full : c.args.is ≢ void = search rules in
    let least_was : least ≤ℤ c.args.was = search (rules, ints) in
    let least_is : least ≤ℤ c.args.is = search (rules, ints) in
    let greatest_was : c.args.was ≤ℤ greatest = search (rules, ints) in
    let greatest_is : c.args.is ≤ℤ greatest = search (rules, ints) in (
      full,
      elim (le_or_above least level) [
        | inl low ↦ elim (le_or_above level greatest) [
          | inl high ↦ absurd (out (low, high))
          | inr above ↦ inr (omega (arith, ints), omega (arith, ints))
        ]
        | inr below ↦ inl (omega (arith, ints), omega (arith, ints))
      ],
    )
