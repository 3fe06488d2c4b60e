use Rattle.std.proofs.Common.{rules, ◌≡◌, inr, [], ◌∷◌, ◌++◌, map, string_bytes, take, ◌+◌, sym, subst, List, ℕ}
use Rattle.lattice.specs.Corners.{Corner}
use Rattle.hgt.specs.Names.{IsName}
use Rattle.mosaic_tiles.specs.Layers.{AreNames, RefusesNames}
use Rattle.mosaic_tiles.proofs.Naming.{names_to, told_as}
use Rattle.mosaic_tiles.proofs.layers.named.Goals as goal

pub returns-in_err-corner-clause-err : goal.returns-in_err-corner-clause-err
returns-in_err-corner-clause-err c =
    let name = c.name-item.result in
    let none : (corner : Corner) → IsName (string_bytes name) corner → ⊥ = λ corner is.
    c.in_err-corner.ensures.err.1 corner (subst (λ (text : List ℕ). IsName text corner) (sym c.as_bytes.ensures.value) is) in
    told_as c.from_residual.result c.in_err-corner.field-0.0 (RefusesNames c.args.names.now) c.from_residual.ensures.1
    (inr (c.in_err-corner.ensures.err.0, (c.loop-name.name-index, name, c.loop-name-test.true, sym c.name-item.is, none)))

pub loop-name-preserved : goal.loop-name-preserved
loop-name-preserved c =
    let corner = c.in_ok-corner.corner in
    let pushed : c.push.new.self.items ≡ c.loop-name.corners.items ++ corner ∷ [] = search rules in
    subst (AreNames (map string_bytes (take (c.loop-name.name-index + 1) c.args.names.now))) (sym pushed)
    (names_to c.args.names.now c.loop-name.name-index c.name-item.result c.loop-name.corners.items corner c.loop-name-test.true c.name-item.is c.loop-name.invariant
    (subst (λ (text : List ℕ). IsName text corner) c.as_bytes.ensures.value c.in_ok-corner.ensures.ok))
