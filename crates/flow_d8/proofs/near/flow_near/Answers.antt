use Rattle.flow_d8.proofs.Prelude.{Flat, Flow, IsFlowNear, IsLocal, IsTrue, Mosaic, NoGround, Outlet, Point, To, Unknown, ℤ, cases_Bool, cond-false, cond-true, inl, inr, is_ground, is_sink, refl, subst, sym, terrain, true≢false, ⊎_elim, ◌∙◌, ◌≡◌}
use Rattle.flow_d8.proofs.Steps.Nearby.{level_grid}
use Rattle.flow_d8.proofs.Mosaics.PointFlows.{edge_off, inner_is}
use Rattle.flow_d8.proofs.near.flow_near.Goals as goal

-- a flow from the levels around a ground point is right, unless it is `Flat`
local_near : (m : Mosaic) (level : Point → ℤ) (p : Point) → IsTrue (is_ground m p) → (f : Flow) → IsLocal (terrain m) level p f → (f ≡ Flat → ⊥) → IsFlowNear (terrain m) level p f
local_near m level p solid (To d) local other = local.1
local_near m level p solid Outlet local other = (local.1, edge_off (terrain m) level p (is_sink m p) refl solid local.2.0 local.2.1)
local_near m level p solid NoGround local other = absurd (true≢false (sym solid ∙ local))
local_near m level p solid Flat local other = absurd (other refl)
local_near m level p solid _ local other = absurd local

pub returns-in-Flat : goal.returns-in-Flat
returns-in-Flat c m p is near sink level filled =
    let shown = c.in_rows.ensures (terrain m) level p near.solid (near.here level filled) (near.around_it level filled) in
    let flat = subst (IsLocal (terrain m) level p) c.in-Flat.is (c.local_flow_at.ensures.so (terrain m) level p (level_grid m is level filled) shown) in
    let outlet = inner_is (terrain m) level p (is_sink m p) refl near.solid flat.2 in
    subst (IsFlowNear (terrain m) level p) (sym c.flat_flow.ensures) (elim (cases_Bool c.args.is_sink) [
      | inl on ↦ subst (IsFlowNear (terrain m) level p) (sym (cond-true c.args.is_sink Outlet Unknown on)) (flat.1, outlet ∙ sym sink ∙ on)
      | inr off ↦ subst (IsFlowNear (terrain m) level p) (sym (cond-false c.args.is_sink Outlet Unknown off))
          (record { ground = near.solid; inside = ⊎_elim flat.1 (λ out. true≢false (sym out ∙ (outlet ∙ sym sink ∙ off))) })
    ])

pub returns-in_default : goal.returns-in_default
returns-in_default c m p is near sink level filled =
    let shown = c.in_rows.ensures (terrain m) level p near.solid (near.here level filled) (near.around_it level filled) in
    local_near m level p near.solid c.local_flow_at.result (c.local_flow_at.ensures.so (terrain m) level p (level_grid m is level filled) shown) c.in_default.not-Flat
