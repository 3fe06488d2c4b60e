use Rattle.levels.proofs.Prelude.{IsLevelOrVoid, SFits, subst, sym, to_z-of_z, w16}
use Rattle.levels.proofs.Tiles.RimLevels.{level_or_void_is}
use Rattle.levels.proofs.raised_levels.level_of.Goals as goal

pub returns-clause-level : goal.returns-clause-level
returns-clause-level g c honest =
    let m = g.S.Samples.mosaic c.args.samples.now in
    let level = c.level_or_void.result in
    let fits : SFits w16 level = record { sfits = c.level_or_void.type_inv } in
    subst (IsLevelOrVoid m c.args.point) (sym (to_z-of_z w16 level fits))
    (level_or_void_is m c.args.point c.in_ok-found.found level c.level_or_void.ensures (c.in_ok-found.ensures.level honest))
