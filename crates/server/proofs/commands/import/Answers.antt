use Rattle.std.proofs.Common.{rules, [], ◌∷◌, None, Some, inl, inr, refl, subst, ℕ, List}
use Rattle.lattice.specs.Corners.{Corner}
use Rattle.hgt.specs.Names.{IsFileName}
use Rattle.server.specs.Places.{Opens}
use Rattle.server.proofs.commands.import.Goals as goal

pub returns-in-Some : goal.returns-in-Some
returns-in-Some g c =
    let named : IsFileName c.args.tile.now c.in-Ok.corner = search rules in
    let (more, made, (sessions, imports)) = c.import_tile.ensures in (
      Opens c.args.path.now (Some c.in-Some.disk) ∷ more,
      (c.open.new.self, c.in-Some.ensures, made),
      (sessions, inr (c.in-Ok.corner, named, inr (c.in-Some.disk, c.import_tile.result.0, more, refl, c.exit_on.ensures.disk, rw c.exit_on.ensures.status imports))),
    )

pub returns-in-None : goal.returns-in-None
returns-in-None g c =
    let named : IsFileName c.args.tile.now c.in-Ok.corner = search rules in (
      Opens c.args.path.now None ∷ [],
      (c.open.new.self, c.in-None.ensures, refl),
      ([], inr (c.in-Ok.corner, named, inl (refl, c.not_opened.ensures.none, refl, c.not_opened.ensures.told))),
    )

pub returns-in_default : goal.returns-in_default
returns-in_default g c =
    let misnamed : (corner : Corner) → ¬ IsFileName c.args.tile.now corner = subst (λ (name : List ℕ). (corner : Corner) → ¬ IsFileName name corner) c.as_bytes.ensures.value c.in_default.ensures.err.1 in
    ([], refl, ([], inl (refl, refl, refl, misnamed, c.refuse.ensures)))
