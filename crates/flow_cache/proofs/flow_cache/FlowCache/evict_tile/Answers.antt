use Rattle.flow_cache.proofs.Prelude.{ap, arith, cases_eq, get_or, inl, inr, length, mul-le-mul_right, subst, sym, ◌*◌, ◌<◌, ◌∙◌, ◌≡◌, ◌≤◌}
use Rattle.flow_cache.proofs.Caches.Evicted.{known_still}
use Rattle.flow_d8.specs.Tiles.{no_corner}
use Rattle.flow_cache.proofs.flow_cache.FlowCache.evict_tile.Goals as goal

pub returns-clause-gone : goal.returns-clause-gone
returns-clause-gone c i small at =
    let old = c.args.self.now.grid.tiles.corners in
    let slot = c.in-Some.slot in
    let there = c.in-Some.ensures.some in
    let gone = c.evict.ensures in
    let last = length c.evict.new.self.grid.tiles.corners in
    let valid = c.count-valid.ensures.valid in
    let count = gone.count in
    elim (cases_eq i slot) [
      | inl here ↦
          let lower : slot < last = subst (λ k. k < last) here small in
          let alike : get_or old last no_corner ≡ get_or old slot no_corner = sym (gone.moved lower) ∙ (ap (λ k. get_or c.evict.new.self.grid.tiles.corners k no_corner) (sym here) ∙ (at ∙ sym there.1)) in
          let same = valid.distinct last slot (omega (arith, count)) there.0 alike in
          absurd (omega (arith, lower, same))
      | inr other ↦ other (valid.distinct i slot (omega (arith, small, count)) there.0 (sym (gone.kept i other small) ∙ (at ∙ sym there.1)))
    ]

pub returns-clause-few : goal.returns-clause-few
returns-clause-few c =
    let old = c.args.self.now.grid in
    let new = c.evict.new.self.grid in
    let area = old.tiles.side * old.tiles.side in
    let fewer : length new.tiles.corners * area ≤ length old.tiles.corners * area = mul-le-mul_right area (omega (arith, c.evict.ensures.count)) in
    let left : length new.flows.items ≡ length new.tiles.corners * area = c.evict.ensures.items.whole in
    let whole : length old.flows.items ≡ length old.tiles.corners * area = old.whole in
    omega (arith, fewer, left, whole)

pub returns-clause-kept : goal.returns-clause-kept
returns-clause-kept c =
    let gone = c.evict.ensures in
    let there = c.in-Some.ensures.some in
    known_still c.args.self.now.grid c.evict.new.self.grid c.in-Some.slot c.args.corner gone.side gone.count there.0 there.1 gone.moved gone.kept gone.items
