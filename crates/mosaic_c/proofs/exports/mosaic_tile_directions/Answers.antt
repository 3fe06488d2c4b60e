use Rattle.std.proofs.Common.{rules, SFits, w16}
use Rattle.water.specs.Questions.{AreTileDirections}
use Rattle.windows.specs.Results.{OfCopy, refused_corner}
use Rattle.mosaic_c.specs.Sessions.{Told}
use Rattle.mosaic_c.proofs.Answered.{of_corner}
use Rattle.mosaic_c.proofs.exports.mosaic_tile_directions.Goals as goal

pub returns : goal.returns
returns c =
    let fits_lat : SFits w16 c.args.lat = search rules in
    let fits_lon : SFits w16 c.args.lon = search rules in
    of_corner (λ k. Told c.args.held.now c.tell.new.held c.tell.result (tt {0}) (refused_corner k) (λ m answer. OfCopy m k (AreTileDirections m k) c.tell.new.into answer)) c.args.lat c.args.lon fits_lat fits_lon c.tell.ensures
