use Rattle.std.proofs.Common.{rules, arith, SFits, w16}
use Rattle.std.proofs.lemmas.Int.{to_z-of_z}
use Rattle.hgt.proofs.NameLemmas.{named}
use Rattle.hgt.proofs.name.corner_named.Goals as goal

pub returns-in_err-lat : goal.returns-in_err-lat
returns-in_err-lat c = rw c.from_residual.ensures (λ corner is. c.in_err-lat.ensures corner.lat is.lat)

pub returns-in_err-lon : goal.returns-in_err-lon
returns-in_err-lon c = rw c.from_residual-in_err-lon.ensures (λ corner is. c.in_err-lon.ensures corner.lon is.lon)

pub returns : goal.returns
returns c =
    let lat : SFits w16 c.in_ok-lat.lat = search rules in
    let lon : SFits w16 c.in_ok-lon.lon = search rules in
    named c.args.text.now c.in_ok-lat.lat c.in_ok-lon.lon _ _ c.new.result (omega arith) c.in_ok-lat.ensures c.in_ok-lon.ensures
    (to_z-of_z w16 _ lat) (to_z-of_z w16 _ lon) c.new.ensures
