use Rattle.flow_d8.proofs.Prelude.{Holds, IsIndexOf, IsTrue, MatchOption, ℕ, is_corner, no_corner, slice_index_or, subst, ◌*◌, ◌+◌, ◌≡◌}
use Rattle.flow_d8.proofs.Samples.TwinFlows.{sample_told}
use Rattle.flow_d8.proofs.tiles.Tiles.sample_in.Goals as goal

pub returns : goal.returns
returns c =
    let t = c.args.self.now in
    let tile = c.args.tile in
    let p = c.args.point in
    sample_told t c.side.ensures.valid tile c.requires p c.sample_of.result
    (subst (λ cs. IsTrue (is_corner (slice_index_or cs tile no_corner))) c.corners.ensures c.sample_of.ensures.corner)
    (subst (λ cs. MatchOption c.sample_of.result (Holds t.side (slice_index_or cs tile no_corner) p → ⊥) (λ k. (e : ℕ) × (IsIndexOf t.side (slice_index_or cs tile no_corner) p e × (k ≡ tile * (t.side * t.side) + e)))) c.corners.ensures
    (subst (λ n. MatchOption c.sample_of.result (Holds n (slice_index_or c.corners.result.now tile no_corner) p → ⊥) (λ k. (e : ℕ) × (IsIndexOf n (slice_index_or c.corners.result.now tile no_corner) p e × (k ≡ tile * (n * n) + e)))) c.side.ensures.value c.sample_of.ensures.sample))
