use Rattle.std.proofs.Common.{◌≡◌, Err}
use Rattle.page_map.proofs.Refused.{ended_with}
use Rattle.page_map.proofs.GivenSoFar.{taken_more, unmarked_here}
use Rattle.page_map.proofs.pages.mark_all.Goals as goal

pub returns-in_err-mark-clause-refused : goal.returns-in_err-mark-clause-refused
returns-in_err-mark-clause-refused c =
    let ended : c.from_residual.result ≡ Err c.in_err-mark.field-0.0 = ended_with c.from_residual.result c.in_err-mark.field-0.0 c.from_residual.ensures.1 in
    rw ended (unmarked_here c.args.pages.now c.loop-page.page-index c.args.free.now c.loop-page.free c.in_err-mark.field-0.0 c.loop-page-test.true c.loop-page.invariant c.in_err-mark.ensures.refused)

pub loop-page-preserved : goal.loop-page-preserved
loop-page-preserved c = taken_more _ _ _ _ _ c.loop-page-test.true c.loop-page.invariant c.in_ok-mark.ensures.marked
