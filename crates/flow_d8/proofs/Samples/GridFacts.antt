-- Flows of loaded tiles stay right for a mosaic as tiles are added and removed.
use Rattle.flow_d8.proofs.Prelude.{AreFlows, Contains, Corner, Flow, IsMosaic, List, Mosaic, Point, Terrain, ℕ, ℤ, [], ap, arith, cases_eq, cases_lt, corners_of, get_or, inl, inr, length, subst, sym, terrain, ◌++◌, ◌+◌, ◌<◌, ◌∙◌, ◌∷◌, ◌≡◌, ◌≢◌}
use Rattle.flow_d8.specs.FlowGrids.{AreFlowsIn, AreTileFlows, IsGridOf, StayFlows}
use Rattle.flow_d8.specs.Tiles.{Tiles, no_corner, place_of, OnGround}
use Rattle.flow_d8.proofs.Mosaics.FullTerrain.{mosaic_is_full}
use Rattle.flow_d8.proofs.Samples.Slots.{longer, as_before, at_end}

-- cached flows stay right when a tile is added
pub grid_push : (m : Mosaic) (tiles new : Tiles) (flows bytes new_flows : List Flow) (c : Corner) → new.side ≡ tiles.side → new.corners ≡ tiles.corners ++ c ∷ [] → Contains (corners_of m) c → AreTileFlows m c bytes
    → ((t : Terrain Point) (level : Point → ℤ) → AreFlowsIn t level tiles.side c bytes → AreFlows t level (place_of tiles) flows → AreFlows t level (place_of new) new_flows)
    → IsGridOf m tiles flows → IsGridOf m new new_flows
grid_push m tiles new flows bytes new_flows c side is present told stay right = record {
  same_side = side ∙ right.same_side;
  present = λ i small. elim (cases_lt i (length tiles.corners)) [
    | inl before ↦ subst (Contains (corners_of m)) (sym (as_before tiles.corners new.corners c is i before)) (right.present i before)
    | inr past ↦
        let at : i ≡ length tiles.corners = omega (arith, small, past, longer tiles.corners new.corners c is) in
        subst (Contains (corners_of m)) (sym (ap (λ k. get_or new.corners k no_corner) at ∙ at_end tiles.corners new.corners c is)) present
  ];
  told = λ level filled. stay (terrain m) level (subst (λ n. AreFlowsIn (terrain m) level n c bytes) (sym right.same_side) (told level filled)) (right.told level filled);
}

-- cached flows stay right when a tile is removed and the last one moves to its slot
pub grid_swap : (m : Mosaic) (tiles new : Tiles) (flows new_flows : List Flow) (slot : ℕ) → new.side ≡ tiles.side → length new.corners + 1 ≡ length tiles.corners
    → (slot < length new.corners → get_or new.corners slot no_corner ≡ get_or tiles.corners (length new.corners) no_corner)
    → ((i : ℕ) → i ≢ slot → i < length new.corners → get_or new.corners i no_corner ≡ get_or tiles.corners i no_corner)
    → StayFlows tiles flows new new_flows → IsGridOf m tiles flows → IsGridOf m new new_flows
grid_swap m tiles new flows new_flows slot side count moved kept stay right = record {
  same_side = side ∙ right.same_side;
  present = λ i small. elim (cases_eq i slot) [
    | inl at ↦ subst (Contains (corners_of m)) (sym (ap (λ k. get_or new.corners k no_corner) at ∙ moved (subst (λ k. k < length new.corners) at small))) (right.present (length new.corners) (omega (arith, count)))
    | inr off ↦ subst (Contains (corners_of m)) (sym (kept i off small)) (right.present i (omega (arith, small, count)))
  ];
  told = λ level filled. stay (terrain m) level (right.told level filled);
}

-- cached flows stay right when a flat is resolved
pub grid_resolved : (m : Mosaic) → IsMosaic m → (tiles new : Tiles) (flows new_flows : List Flow) → new ≡ tiles → OnGround tiles flows (λ t level. AreFlows t level (place_of new) new_flows)
    → IsGridOf m tiles flows → IsGridOf m new new_flows
grid_resolved m is tiles new flows new_flows same facts right = record {
  same_side = ap (λ (t : Tiles). t.side) same ∙ right.same_side;
  present = subst (λ (t : Tiles). (i : ℕ) → i < length t.corners → Contains (corners_of m) (get_or t.corners i no_corner)) (sym same) right.present;
  told = λ level filled. facts (terrain m) level (mosaic_is_full m is) (right.told level filled);
}
