use Rattle.std.proofs.Common.{rules, SFits, w16, to_z, of_z, ◌<◌, ℤ, Some, None, inl, inr, length, get_or, set, ap, sym, ◌∙◌, subst, arith, get_or-set_other, get_or-set_same, length-set}
use Rattle.drainage.proofs.Prelude.{Corner, East, IsTileLabelling, cases_eq, dir_at_place, directions, known_of, order_below, order_of, step, to_z-of_z}
use Rattle.drainage.specs.Nearby.{IsKnownLevel}
use Rattle.drainage.proofs.Flows.Around.{near_is}
use Rattle.drainage.proofs.neighbourhood.near.Goals as goal

pub level_in_tile-requires-clause-held : goal.level_in_tile-requires-clause-held
level_in_tile-requires-clause-held c m right =
    c.in_ok-labelled.ensures.flooded m c.in_ok-corner.corner (λ x at. subst (λ (d : Corner). IsTileLabelling m d x) c.in_ok-corner.ensures.some.1 (right.labellings c.in_ok-t.t x at))

pub level_in_tile-requires-in-loop-i-clause-held : goal.level_in_tile-requires-in-loop-i-clause-held
level_in_tile-requires-in-loop-i-clause-held c m right =
    c.in_ok-labelled.ensures.flooded m c.in_ok-corner.corner (λ x at. subst (λ (d : Corner). IsTileLabelling m d x) c.in_ok-corner.ensures.some.1 (right.labellings c.in_ok-t.t x at))

pub loop-i-preserved : goal.loop-i-preserved
loop-i-preserved c =
    let i = c.loop-i.i in
    let known = known_of c.args.tile_cache.now in
    let in_range : SFits w16 c.in_ok-level.level = search rules in
    let v = Some (to_z w16 (of_z w16 c.in_ok-level.level)) in
    let beside = subst (λ (l : ℤ). IsKnownLevel known c.in_ok-t.t (step (get_or directions i East) c.args.point) (Some l)) (sym (to_z-of_z w16 c.in_ok-level.level in_range))
    (subst (λ p. IsKnownLevel known c.in_ok-t.t p (Some c.in_ok-level.level)) c.in_ok-to.ensures.1 c.in_ok-level.ensures) in
    let around = c.loop-i.around in
    let inv = c.loop-i.invariant in
    let within : i < length around = let small = c.loop-i-test.true in let eight = inv.eight in omega arith in
    record {
      eight = length-set around i v ∙ inv.eight;
      each = λ d below. elim (cases_eq (order_of d) i) [
        | inl this ↦ subst (IsKnownLevel known c.in_ok-t.t (step d c.args.point)) (sym (ap (λ k. get_or (set around i v) k None) this ∙ get_or-set_same around i v None within))
            (subst (λ e. IsKnownLevel known c.in_ok-t.t (step e c.args.point) v) (dir_at_place d East i this) beside)
        | inr other ↦ subst (IsKnownLevel known c.in_ok-t.t (step d c.args.point)) (sym (get_or-set_other around i (order_of d) v None other)) (inv.each d (omega arith))
      ];
    }

pub returns : goal.returns
returns c m is right =
    let known = known_of c.args.tile_cache.now in
    let in_range : SFits w16 c.in_ok-height.height = search rules in
    let here : IsKnownLevel known c.in_ok-t.t c.args.point (Some c.in_ok-height.height) = c.in_ok-height.ensures in
    near_is m is known right c.in_ok-t.t c.in_ok-corner.ensures.some.0 c.args.point (to_z w16 (of_z w16 c.in_ok-height.height)) c.loop-i.around c.loop-i.invariant.eight
    (subst (λ (v : ℤ). IsKnownLevel known c.in_ok-t.t c.args.point (Some v)) (sym (to_z-of_z w16 c.in_ok-height.height in_range)) here)
    (λ d. c.loop-i.invariant.each d (let all = c.loop-i-test.false in omega (arith, order_below d)))
