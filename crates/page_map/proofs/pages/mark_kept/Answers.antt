use Rattle.page_map.proofs.Prelude.{Err, pages_of_plane, ◌≡◌}
use Rattle.page_map.proofs.Refused.{ended_with}
use Rattle.page_map.proofs.GivenSoFar.{marked_more, unmarked_first, unmarked_more}
use Rattle.page_map.proofs.pages.mark_kept.Goals as goal

pub returns-in_err-mark_plane-clause-refused : goal.returns-in_err-mark_plane-clause-refused
returns-in_err-mark_plane-clause-refused c =
    let ended : c.from_residual.result ≡ Err c.in_err-mark_plane.field-0.0 = ended_with c.from_residual.result c.in_err-mark_plane.field-0.0 c.from_residual.ensures.1 in
    rw ended (unmarked_first (pages_of_plane c.args.kept.now.levels) (pages_of_plane c.args.kept.now.labels) c.args.free.now c.in_err-mark_plane.field-0.0 c.in_err-mark_plane.ensures.refused)

pub returns-clause-marked : goal.returns-clause-marked
returns-clause-marked c =
    marked_more (pages_of_plane c.args.kept.now.levels) (pages_of_plane c.args.kept.now.labels) c.args.free.now c.mark_plane.new.free c.mark_plane-2.new.free c.in_ok-mark_plane.ensures.marked
    c.mark_plane-2.result c.mark_plane-2.ensures.marked

pub returns-clause-refused : goal.returns-clause-refused
returns-clause-refused c =
    unmarked_more (pages_of_plane c.args.kept.now.levels) (pages_of_plane c.args.kept.now.labels) c.args.free.now c.mark_plane.new.free c.mark_plane-2.new.free c.in_ok-mark_plane.ensures.marked
    c.mark_plane-2.result c.mark_plane-2.ensures.refused
