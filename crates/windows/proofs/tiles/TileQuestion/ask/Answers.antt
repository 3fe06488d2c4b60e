use Rattle.std.proofs.Common.{rules, SFits, w16, ◌≡◌, ◌≢◌, List, MatchResult, Result, Err, Some, length, IsTrue, sym, ap, ◌∙◌, subst}
use Rattle.std.proofs.lemmas.Result.{err_from_is_err_and}
use Rattle.lattice.specs.Corners.{Corner, is_corner}
use Rattle.lattice.specs.declared.refusal.Refusal.{Refusal}
use Rattle.lattice.specs.declared.refusal.Refusal.TheVariants.{BadLength}
use Rattle.windows.specs.Results.{OfCopy, refused_corner}
use Rattle.windows.specs.Telling.{Asked, Tells, refusal_of}
use Rattle.windows.proofs.Told.{as_asked, copied, corner_is, corner_there, not_told}
use Rattle.windows.proofs.tiles.TileQuestion.ask.Goals as goal

pub returns-in_err-values : goal.returns-in_err-values
returns-in_err-values g c =
    let k : Corner = record { lat = c.args.self.now.1; lon = c.args.self.now.2 } in
    let fits_lat : SFits w16 c.args.self.now.1 = search rules in
    let fits_lon : SFits w16 c.args.self.now.2 = search rules in
    let same = corner_is c.args.self.now.1 c.args.self.now.2 fits_lat fits_lon in
    let there = subst (λ (d : Corner). IsTrue (is_corner d)) same c.in-Some.ensures.0 in
    let a = c.args.engine.now in
    let b = c.of.new.engine in
    let into = c.args.into.now in
    let p = err_from_is_err_and c.from_residual.result c.from_residual.ensures.1 in
    let found = c.in_err-values.was ∙ ap (λ (r : Refusal). Err r) (sym p.2) in
    let told = not_told g.E.Engine a b g.V.TileValues.are c.in-Some.corner c.of.result p.0 found c.of.ensures into in
    let here = subst (λ (d : Corner). Tells g.E.Engine a b 1 (Some p.0) (λ m. OfCopy m d (g.V.TileValues.are m d) into (Err p.0))) (c.in-Some.ensures.1 ∙ same) told in
    subst (λ (result : Result (Unit {0}) Refusal). Asked g.E.Engine a b (refused_corner k) 1 (refusal_of result) (λ m. OfCopy m k (g.V.TileValues.are m k) into result)) (sym p.1)
    (as_asked g.E.Engine a b (refused_corner k) 1 (Some p.0) _ (corner_there k there) here)

pub returns : goal.returns
returns g c =
    let k : Corner = record { lat = c.args.self.now.1; lon = c.args.self.now.2 } in
    let fits_lat : SFits w16 c.args.self.now.1 = search rules in
    let fits_lon : SFits w16 c.args.self.now.2 = search rules in
    let same = corner_is c.args.self.now.1 c.args.self.now.2 fits_lat fits_lon in
    let there = subst (λ (d : Corner). IsTrue (is_corner d)) same c.in-Some.ensures.0 in
    let a = c.args.engine.now in
    let b = c.of.new.engine in
    let into = c.copy.new.into in
    let values = c.in_ok-values.values in
    let copy = subst (λ (xs : List _). MatchResult c.copy.result (λ _. into ≡ xs) (λ r. (r ≡ BadLength) × (length xs ≢ length into))) c.as_slice.ensures.value c.copy.ensures in
    let told = copied g.E.Engine a b g.V.TileValues.are c.in-Some.corner c.of.result values c.in_ok-values.was c.of.ensures into c.copy.result copy in
    let here = subst (λ (d : Corner). Tells g.E.Engine a b 1 (refusal_of c.copy.result) (λ m. OfCopy m d (g.V.TileValues.are m d) into c.copy.result)) (c.in-Some.ensures.1 ∙ same) told in
    as_asked g.E.Engine a b (refused_corner k) 1 (refusal_of c.copy.result) _ (corner_there k there) here
