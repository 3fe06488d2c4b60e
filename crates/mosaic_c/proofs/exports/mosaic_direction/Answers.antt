use Rattle.std.proofs.Common.{rules, SFits, w32, None}
use Rattle.lattice.specs.Ground.{terrain}
use Rattle.water.specs.Questions.{IsAnswered, DrainsBy}
use Rattle.windows.specs.Results.{OfPoint}
use Rattle.mosaic_c.specs.Sessions.{Told}
use Rattle.mosaic_c.proofs.Answered.{of_point}
use Rattle.mosaic_c.proofs.exports.mosaic_direction.Goals as goal

pub returns : goal.returns
returns c =
    let fits_y : SFits w32 c.args.y = search rules in
    let fits_x : SFits w32 c.args.x = search rules in
    of_point (λ p. Told c.args.held.now c.tell.new.held c.tell.result c.tell.new.answer None (λ m answer. OfPoint m p (λ code. IsAnswered m p (λ level. DrainsBy (terrain m) level p code)) answer)) c.args.y c.args.x fits_y fits_x c.tell.ensures
