use Rattle.std.proofs.Common.{rules, ◌≡◌, ◌+◌, ◌*◌, ◌-◌, ℤ, Some, sym, ap, ap₂, ◌∙◌, subst, SFits, w16}
use Rattle.drainage.proofs.Prelude.{int_max, known_of, to_z-of_z}
use Rattle.drainage.specs.Nearby.{IsKnownLevel}
use Rattle.drainage.proofs.Flows.Around.{told_out, told_over}
use Rattle.drainage.proofs.neighbourhood.level_in_tile.Goals as goal

pub returns-then-label-2 : goal.returns-then-label-2
returns-then-label-2 c =
    let known = known_of c.args.tile_cache.now in
    let in_range : SFits w16 c.in_ok-level.level = search rules in
    subst (λ (v : ℤ). IsKnownLevel known c.args.t c.args.point (Some v)) (sym (to_z-of_z w16 c.in_ok-level.level in_range))
    (told_out known c.args.point c.args.t c.in_ok-index.index c.args.corner c.requires.place c.requires.corner c.in_ok-index.ensures.index c.args.labelled.now c.requires.held
    c.in_ok-level.level c.in_ok-level.label c.in_ok-level.ensures.some.0 c.in_ok-level.ensures.some.1 c.if-label.false c.if-label-2.true)

pub returns : goal.returns
returns c =
    let known = known_of c.args.tile_cache.now in
    let in_range : SFits w16 c.max.result = record { sfits = c.max.type_inv } in
    let higher : c.max.result ≡ int_max c.in_ok-level.level c.in_ok-over.over =
    c.max.ensures.value ∙ ap₂ int_max (to_z-of_z w16 c.in_ok-level.level (search rules)) (to_z-of_z w16 c.in_ok-over.over (search rules)) in
    subst (λ (v : ℤ). IsKnownLevel known c.args.t c.args.point (Some v)) (sym higher ∙ sym (to_z-of_z w16 c.max.result in_range))
    (told_over known c.args.point c.args.t c.in_ok-index.index c.args.corner c.requires.place c.requires.corner c.in_ok-index.ensures.index c.args.labelled.now c.requires.held
    c.in_ok-level.level c.in_ok-level.label c.in_ok-level.ensures.some.0 c.in_ok-level.ensures.some.1 c.if-label.false c.if-label-2.false
    c.in_ok-node.node c.in_ok-over.over (c.in_ok-node.ensures.some ∙ ap (λ k. 1 + c.args.t * (4 * (known.side - 1)) + k) c.from.ensures) (sym c.in_ok-over.ensures))
