use Rattle.std.proofs.Common.{rules, SFits, w32, length}
use Rattle.windows.specs.Results.{OfPoint}
use Rattle.windows.specs.Windows.{IsShed, refused_at_once}
use Rattle.mosaic_c.specs.Sessions.{Told}
use Rattle.mosaic_c.proofs.Answered.{of_point}
use Rattle.mosaic_c.proofs.exports.mosaic_watershed.Goals as goal

pub returns : goal.returns
returns c =
    let fits_y : SFits w32 c.args.y = search rules in
    let fits_x : SFits w32 c.args.x = search rules in
    of_point (λ p. Told c.args.held.now c.tell.new.held c.tell.result c.tell.new.answer (refused_at_once c.args.window.now (length c.args.into.now)) (λ m answer. OfPoint m p (IsShed m p c.args.window.now c.tell.new.into) answer)) c.args.y c.args.x fits_y fits_x c.tell.ensures
