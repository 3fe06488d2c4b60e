use Rattle.std.proofs.Common.{◌≡◌, ◌<◌, List, Option, Some, None, length, get_or, sym, ap, ◌∙◌, subst, arith}
use Rattle.levels.proofs.Prelude.{Point, get_or_read, same_point_says}
use Rattle.levels.specs.declared.ground_cache.GroundPoint.{GroundPoint}
use Rattle.levels.proofs.ground_cache.GroundCache.holds.Goals as goal

pub returns-then-eq : goal.returns-then-eq
returns-then-eq c = λ some.
    let seen : GroundPoint = c.in-Some.seen in
    let place = c.place_of-place.result in
    let items : List (Option GroundPoint) = c.self.inside.seen.items in
    let same : seen.point ≡ c.args.to = same_point_says seen.point c.args.to (sym c.eq.ensures ∙ c.if-eq.true) in
    let past = c.if-place-len.false in
    let many = c.len.ensures in
    let small : place < length items = omega arith in
    let at : get_or items place None ≡ Some seen = sym (get_or_read items place c.index.result.now small c.index.ensures None) ∙ c.in-Some.is in
    let there : get_or items place None ≡ Some (record { point = c.args.to; tile = seen.tile }) = at ∙ ap (λ (p : Point). Some (record { point = p; tile = seen.tile })) same in (
      seen.tile,
      (
        record { place = place; there = subst (λ (l : List (Option GroundPoint)). get_or l place None ≡ Some (record { point = c.args.to; tile = seen.tile })) c.self.view_is there },
        c.index_in.ensures.held.0 (sym c.is_some.ensures ∙ some),
      ),
    )
