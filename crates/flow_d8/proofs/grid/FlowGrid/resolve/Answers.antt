use Rattle.flow_d8.proofs.Prelude.{AreFlows, CrossesFlat, Drains, Flow, IfNone, IfOk, IfSome, IsTrue, Unknown, List, ℕ, drop, flow_of, length, subst, sym, take, with_items_is, ◌++◌, ◌∙◌, ◌≡◌}
use Rattle.flow_d8.specs.Tiles.{OnGround, place_of}
use Rattle.flow_d8.proofs.grid.FlowGrid.resolve.Goals as goal

pub returns-clause-flows : goal.returns-clause-flows
returns-clause-flows c t level full are =
    let s = c.args.self.now in
    let ws = c.resolve_known.new.flows in
    let same : take s.flows.len (ws ++ drop (length ws) s.flows.items) ≡ ws = with_items_is s.flows ws (c.resolve_known.ensures.whole ∙ c.deref_mut.ensures.len) in
    subst (λ (l : List Flow). AreFlows t level (place_of s.tiles) l) (sym same)
    (c.resolve_known.ensures.flows t level full (subst (λ (l : List Flow). AreFlows t level (place_of s.tiles) l) (sym c.deref_mut.ensures.value) are))

pub returns-clause-met : goal.returns-clause-met
returns-clause-met c =
    let s = c.args.self.now in
    subst (λ (l : List Flow). IfOk c.resolve_known.result (λ met. IfSome met (λ p. (flow_of s.tiles l p ≡ Unknown) × OnGround s.tiles l (λ t level. IsTrue (t.is_ground p))))) c.deref_mut.ensures.value c.resolve_known.ensures.met

pub returns-clause-drains : goal.returns-clause-drains
returns-clause-drains c =
    let s = c.args.self.now in
    let p = c.args.point in
    let ws = c.resolve_known.new.flows in
    let same : take s.flows.len (ws ++ drop (length ws) s.flows.items) ≡ ws = with_items_is s.flows ws (c.resolve_known.ensures.whole ∙ c.deref_mut.ensures.len) in
    subst (λ (n : List Flow). IfOk c.resolve_known.result (λ met. IfNone met ((flow_of s.tiles s.flows.items p ≡ Unknown → ⊥) → OnGround s.tiles s.flows.items (λ t level. IsTrue (t.is_ground p) → (j : ℕ) → CrossesFlat t level p j → Drains (flow_of s.tiles n p))))) (sym same)
    (subst (λ (l : List Flow). IfOk c.resolve_known.result (λ met. IfNone met ((flow_of s.tiles l p ≡ Unknown → ⊥) → OnGround s.tiles l (λ t level. IsTrue (t.is_ground p) → (j : ℕ) → CrossesFlat t level p j → Drains (flow_of s.tiles ws p))))) c.deref_mut.ensures.value c.resolve_known.ensures.drains)
