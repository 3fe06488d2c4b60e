use Rattle.std.proofs.Common.{◌≡◌, ◌<◌, inl, inr, rules, subst, arith}
use Rattle.std.proofs.lemmas.Bool.{cases_lt}
use Rattle.lattice.specs.Lattice.{IsSampleAt}
use Rattle.windows.specs.Windows.{point_in}
use Rattle.windows.proofs.UpstreamCounts.{not_held}
use Rattle.windows.proofs.counts.meets.Goals as goal

pub loop-row-preserved : goal.loop-row-preserved
loop-row-preserved c i j k below small sample = elim (cases_lt i c.loop-row.row) [
  | inl sooner ↦ c.loop-row.invariant i j k sooner small sample
  | inr last ↦
      let at : i ≡ c.loop-row.row = omega (arith, below, last) in
      let p = point_in c.args.window k in
      let between = (c.numbers_in-from.ensures.exact k small).1 (c.row_of.ensures.each j p (subst (λ r. IsSampleAt c.args.side c.args.corner r j p) at sample)) in
      let none = c.if-from-to.false in
      absurd (omega (arith, between.0, between.1, none))
]

pub returns-clause-none : goal.returns-clause-none
returns-clause-none c _ k small = not_held c.args.side c.args.corner (point_in c.args.window k) c.samples-row-end.ensures.low (λ i j below. c.loop-row.invariant i j k (search rules) small)

pub returns-then-from-to-clause-some : goal.returns-then-from-to-clause-some
returns-then-from-to-clause-some c _ =
    let k = c.numbers_in-from.result.0 in
    let more = c.if-from-to.true in
    let small : k < c.args.len = omega (arith, more, c.numbers_in-from.ensures.within) in
    let inside = (c.numbers_in-from.ensures.exact k small).0 (omega arith, more) in
    (k, small, (c.loop-row.row, c.row_of.ensures.only (point_in c.args.window k) inside))
