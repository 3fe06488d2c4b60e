use Rattle.std.proofs.Common.{rules, ◌≡◌, ◌<◌, length, get_or, sym, ◌∙◌, subst, arith}
use Rattle.std.proofs.lemmas.List.{get_or_default}
use Rattle.water.specs.Runs.{Cover}
use Rattle.windows.specs.Windows.{IsMark, point_in}
use Rattle.windows.proofs.Marks.{CoverTo, all_of, one_more}
use Rattle.windows.proofs.Numbers.{sized}
use Rattle.windows.proofs.shed.mark.Goals as goal

pub loop-at-preserved : goal.loop-at-preserved
loop-at-preserved c =
    let runs = c.args.runs.now in
    let at = c.loop-at.at in
    let old = c.loop-at.into in
    let new = c.mark_run.new.into in
    let inside : at < length runs = search rules in
    record {
      whole = c.mark_run.ensures.whole ∙ c.loop-at.invariant.whole;
      marked = λ k small.
          let there : k < length old = omega (arith, small, c.mark_run.ensures.whole) in
          one_more runs at _ (point_in c.args.window k) (get_or old k 0) (get_or new k 0) inside (get_or_default runs at _ _ inside) (c.mark_run.ensures.marked k there) (c.mark_run.ensures.left k there) (c.loop-at.invariant.marked k there);
    }

pub returns : goal.returns
returns c =
    let w = c.args.window in
    let runs = c.args.runs.now in
    let into = c.loop-at.into in
    let last : c.loop-at.at ≡ length runs = search rules in
    let size = sized w (length c.args.into.now) c.requires in
    record {
      whole = c.loop-at.invariant.whole ∙ sym size;
      each = λ blank k small.
          let there : k < length into = omega (arith, small, size, c.loop-at.invariant.whole) in
          let mark = all_of runs (point_in w k) (get_or into k 0) (subst (λ i. IsMark (CoverTo runs i (point_in w k)) (get_or into k 0)) last (c.loop-at.invariant.marked k there)) in
          subst (IsMark (Cover runs (point_in w k))) (get_or_default into k 0 blank there) mark;
    }
