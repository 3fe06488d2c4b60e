use Rattle.stored_mosaic.proofs.Prelude.{Contains, Corner, Err, IsPrepared, List, Ok, Prepares, Refusal, Result, ℕ, arith, corners_of, pages_met, pages_met_in, pages_of, refused_as, subst, sym, take, ◌+◌}
use Rattle.std.proofs.lemmas.List.Elements.{All-more, All-weaker}
use Rattle.stored_mosaic.proofs.Edits.PagesMet.{met_front, met_more}
use Rattle.stored_mosaic.proofs.KeptPlanes.StagingSteps.{prepares_on, prepares_within}
use Rattle.stored_mosaic.proofs.staging_pages.prepare_tiles.Goals as goal

pub prepare_tile-requires-clause-present : goal.prepare_tile-requires-clause-present
prepare_tile-requires-clause-present g c =
    subst (λ (cs : List Corner). Contains cs c.corner-item.result) (sym c.loop-corner.invariant.prepares.changes.corners)
    (subst (Contains (corners_of c.args.tree.now)) (sym c.corner-item.is) (c.requires.present c.loop-corner.corner-index c.corner-item.result c.loop-corner-test.true))

pub returns-in_err-prepare_tile-clause-prepares : goal.returns-in_err-prepare_tile-clause-prepares
returns-in_err-prepare_tile-clause-prepares g c =
    let d = g.D.Disk in
    let n : ℕ = c.args.side in
    let meets = g.E.PageEdit.meets c.args.edit.now n in
    let old = c.args.tree.now in
    let new = c.prepare_tile.new.tree in
    let corners = c.args.corners.now in
    let k : ℕ = c.loop-corner.corner-index in
    let here : Corner = c.corner-item.result in
    let before : ℕ = pages_met meets (pages_of n) (take k corners) in
    let own : ℕ = pages_met_in (meets here) (pages_of n) in
    let r : Refusal = c.in_err-prepare_tile.field-0.0 in
    let err : Result (Unit {0}) Refusal = Err r in
    let more = met_more meets (pages_of n) corners k here c.loop-corner-test.true c.corner-item.is in
    let all = met_front meets (pages_of n) corners (k + 1) in
    subst (λ (result : Result (Unit {0}) Refusal). Prepares d (pages_met meets (pages_of n) corners) old new result) (sym (refused_as c.from_residual.result r c.from_residual.ensures.1))
    (prepares_within d (before + own) (pages_met meets (pages_of n) corners) old new err (omega (arith, more, all))
    (prepares_on d before own old c.loop-corner.tree new tt err c.loop-corner.invariant.prepares c.in_err-prepare_tile.ensures.prepares))

pub loop-corner-preserved : goal.loop-corner-preserved
loop-corner-preserved g c =
    let d = g.D.Disk in
    let n : ℕ = c.args.side in
    let meets = g.E.PageEdit.meets c.args.edit.now n in
    let mid = c.loop-corner.tree in
    let new = c.prepare_tile.new.tree in
    let so = c.loop-corner.invariant in
    let is = c.in_ok-prepare_tile.ensures in
    let corners = c.args.corners.now in
    let k : ℕ = c.loop-corner.corner-index in
    let here : Corner = c.corner-item.result in
    let before : ℕ = pages_met meets (pages_of n) (take k corners) in
    let own : ℕ = pages_met_in (meets here) (pages_of n) in
    let ok : Result (Unit {0}) Refusal = Ok tt in
    record {
      prepares = prepares_within d (before + own) (pages_met meets (pages_of n) (take (k + 1) corners)) c.args.tree.now new ok
          (let more = met_more meets (pages_of n) corners k here c.loop-corner-test.true c.corner-item.is in omega (arith, more))
          (prepares_on d before own c.args.tree.now mid new tt ok so.prepares is.prepares);
      prepared = All-more (IsPrepared meets (pages_of n) new) corners k here c.loop-corner-test.true
          (All-weaker (IsPrepared meets (pages_of n) mid) (IsPrepared meets (pages_of n) new) (λ e was i below met. is.prepares.still_staged e (was i below met)) (take k corners) so.prepared)
          (subst (IsPrepared meets (pages_of n) new) c.corner-item.is is.prepared);
    }
