use Rattle.flow_d8.proofs.Prelude.{Flow, IsCut, List, ℕ, ap, arith, length, mul-le-mul_right, subst, ◌*◌, ◌-◌, ◌∙◌, ◌≡◌, ◌≤◌}
use Rattle.flow_d8.proofs.Samples.Slots.{whole_swap, flows_swap}
use Rattle.flow_d8.proofs.grid.FlowGrid.swap_remove.Goals as goal

-- `IsCut` in terms of the side and the number of tiles
cut_by : (old new : List Flow) (slot last area n count : ℕ) → last ≡ count → area ≡ n * n → IsCut area last slot old new → IsCut (n * n) count slot old new
cut_by old new slot last area n count last_is area_is cut = subst (λ a. IsCut a count slot old new) area_is (subst (λ l. IsCut area l slot old new) last_is cut)

pub invariant_of-self : goal.invariant_of-self
invariant_of-self c =
    let s = c.args.self.now in
    let e = c.swap_remove.ensures in
    let new = c.swap_remove.new.self in
    let items = c.cut.new.flows.items in
    let last : ℕ = c.tiles-last.result - 1 in
    let cut = cut_by s.flows.items items c.args.slot last c.area-area.result s.tiles.side (length new.corners) (omega (arith, c.tiles-last.ensures.value, e.count)) (c.area-area.ensures.value ∙ ap (λ k. k * k) c.side.ensures.value) c.cut.ensures in
    let less : length new.corners ≤ length s.tiles.corners = omega (arith, e.count) in
    let less_samples = mul-le-mul_right (s.tiles.side * s.tiles.side) less in
    record {
      few = omega (arith, cut.whole, s.whole, s.few, less_samples);
      whole = whole_swap s.tiles c.side.ensures.valid s.flows.items s.whole new c.args.slot c.requires e.side e.count e.moved e.kept items cut;
    }

pub returns-clause-flows : goal.returns-clause-flows
returns-clause-flows c t level are =
    let s = c.args.self.now in
    let e = c.swap_remove.ensures in
    let new = c.swap_remove.new.self in
    let items = c.cut.new.flows.items in
    let last : ℕ = c.tiles-last.result - 1 in
    let cut = cut_by s.flows.items items c.args.slot last c.area-area.result s.tiles.side (length new.corners) (omega (arith, c.tiles-last.ensures.value, e.count)) (c.area-area.ensures.value ∙ ap (λ k. k * k) c.side.ensures.value) c.cut.ensures in
    flows_swap s.tiles c.side.ensures.valid s.flows.items s.whole new c.args.slot c.requires e.side e.count e.moved e.kept items cut t level are
