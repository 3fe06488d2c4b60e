use Rattle.page_map.proofs.Prelude.{Err, pages_of_kept, pages_of_plane, ◌++◌, ◌≡◌}
use Rattle.page_map.proofs.Refused.{ended_with}
use Rattle.page_map.proofs.GivenSoFar.{marked_more, unmarked_first, unmarked_more}
use Rattle.page_map.proofs.pages.mark_planes.Goals as goal

pub returns-in_err-mark_plane-clause-refused : goal.returns-in_err-mark_plane-clause-refused
returns-in_err-mark_plane-clause-refused c =
    let ended : c.from_residual.result ≡ Err c.in_err-mark_plane.field-0.0 = ended_with c.from_residual.result c.in_err-mark_plane.field-0.0 c.from_residual.ensures.1 in
    rw ended (unmarked_first (pages_of_plane c.args.planes.now.heights) (pages_of_kept c.args.planes.now.kept) c.args.free.now c.in_err-mark_plane.field-0.0 c.in_err-mark_plane.ensures.refused)

pub returns-in-Some-clause-marked : goal.returns-in-Some-clause-marked
returns-in-Some-clause-marked c =
    rw c.in-Some.is (
    marked_more (pages_of_plane c.args.planes.now.heights) (pages_of_plane c.in-Some.kept.levels ++ pages_of_plane c.in-Some.kept.labels) c.args.free.now c.mark_plane.new.free c.mark_kept.new.free
    c.in_ok-mark_plane.ensures.marked c.mark_kept.result c.mark_kept.ensures.marked)

pub returns-in-Some-clause-refused : goal.returns-in-Some-clause-refused
returns-in-Some-clause-refused c =
    rw c.in-Some.is (
    unmarked_more (pages_of_plane c.args.planes.now.heights) (pages_of_plane c.in-Some.kept.levels ++ pages_of_plane c.in-Some.kept.labels) c.args.free.now c.mark_plane.new.free c.mark_kept.new.free
    c.in_ok-mark_plane.ensures.marked c.mark_kept.result c.mark_kept.ensures.refused)
