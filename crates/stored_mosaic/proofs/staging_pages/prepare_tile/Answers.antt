use Rattle.stored_mosaic.proofs.Prelude.{arith, pages_of}
use Rattle.stored_mosaic.proofs.Edits.PagesMet.{met_some}
use Rattle.stored_mosaic.proofs.staging_pages.prepare_tile.Goals as goal

pub returns-in-Some-clause-prepares : goal.returns-in-Some-clause-prepares
returns-in-Some-clause-prepares g c =
    let is = c.prepare.ensures in
    let met = c.in-Some.ensures.met in
    let one = met_some (g.E.PageEdit.meets c.args.edit.now c.args.side c.args.corner) _ (pages_of c.args.side) met.1 met.2 in
    record {
      refused = is.refused;
      changes = record { no_call = is.no_call; corners = is.corners; sinks = is.sinks; due = let due = is.due in omega (arith, due, one); staged = is.staged; at = is.at };
      still_staged = is.still_staged;
    }
