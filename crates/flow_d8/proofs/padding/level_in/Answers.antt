use Rattle.flow_d8.proofs.Prelude.{IsLevelIn, ap₂, filled_of, get_or, no_corner, padded_point, subst, sym, to_z-of_z, w16, ◌∙◌}
use Rattle.flow_d8.proofs.padding.level_in.Goals as goal

pub returns : goal.returns
returns c sinks =
    let t = c.args.tiles.now in
    let f = filled_of t c.args.levels.now sinks in
    let corner = get_or t.corners c.args.tile no_corner in
    subst (IsLevelIn f (padded_point t.side corner c.args.row c.args.column)) (sym (to_z-of_z w16 c.level_at.result (record { sfits = c.level_at.type_inv })))
    (subst (λ q. IsLevelIn f q c.level_at.result)
    (c.padded_point-point.ensures ∙ ap₂ (λ k d. padded_point k d c.args.row c.args.column) c.side.ensures.value c.corner.ensures) (c.level_at.ensures sinks))
