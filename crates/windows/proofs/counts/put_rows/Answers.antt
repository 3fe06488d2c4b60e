use Rattle.std.proofs.Common.{rules, ◌≡◌, ◌<◌, ◌⊎◌, length, get_or, ◌∙◌, subst, arith}
use Rattle.lattice.specs.Lattice.{IsSampleAt}
use Rattle.windows.specs.Windows.{count_or, point_in}
use Rattle.windows.proofs.UpstreamCounts.{all_rows, one_row}
use Rattle.windows.proofs.counts.put_rows.Goals as goal

pub loop-row-preserved : goal.loop-row-preserved
loop-row-preserved c = record {
  whole = c.put_row.ensures.whole ∙ c.loop-row.invariant.whole;
  put = λ k small.
      let there : k < length c.loop-row.into = omega (arith, small, c.put_row.ensures.whole) in
      one_row c.args.side c.args.corner c.args.counts.now c.loop-row.row _ (point_in c.args.window k) (get_or c.args.into.now k 0) (get_or c.loop-row.into k 0) (get_or c.put_row.new.into k 0) c.row_of-run.ensures.each
      (c.put_row.ensures.put k there) (c.put_row.ensures.left k there) (c.loop-row.invariant.put k there);
}

pub returns-clause-put : goal.returns-clause-put
returns-clause-put c k small =
    let there : k < length c.loop-row.into = omega (arith, small, c.loop-row.invariant.whole) in
    let last : c.loop-row.row ≡ c.args.side = search rules in
    let p = point_in c.args.window k in
    let old = get_or c.args.into.now k 0 in
    let now = get_or c.loop-row.into k 0 in
    all_rows c.args.side c.args.corner c.args.counts.now p old now c.samples-row-end.ensures.low
    (subst (λ n. (now ≡ count_or c.args.side c.args.corner c.args.counts.now p old) ⊎ ((now ≡ old) × ((i j : _) → i < n → ¬ IsSampleAt c.args.side c.args.corner i j p))) last (c.loop-row.invariant.put k there))
