-- On a mosaic a point inside a flat has eight adjacent points.
use Rattle.flow_d8.proofs.Prelude.{IsFull, inl, inr, nat_lt, sym, true≢false, ⊎_elim, ◌||◌, ◌∙◌}
use Rattle.std.proofs.lemmas.Bool.{and_cases, cases_Bool, or_parts}
use Rattle.flow_d8.specs.Prelude.{step, Mosaic, IsMosaic, is_ground, is_adjacent, degree_of, is_sink, terrain}
use Rattle.water.proofs.MosaicGrid.{mosaic_is_grid}
use Rattle.flow_d8.proofs.Mosaics.PointFlows.{fewer}

pub mosaic_is_full : (m : Mosaic) → IsMosaic m → IsFull (terrain m)
mosaic_is_full m is =
    let grid = mosaic_is_grid m is in
    record {
      stepped = record { lawful = grid.lawful; steps = grid.steps };
      full = λ x ground inside d.
          let parts = or_parts (nat_lt (degree_of m x) 8) (is_sink m x) (⊎_elim (λ no. absurd (true≢false (sym ground ∙ no))) (λ neither. neither) (and_cases (is_ground m x) (nat_lt (degree_of m x) 8 || is_sink m x) inside)) in
          elim (cases_Bool (is_adjacent m x (step d x))) [ inl on ↦ on | inr off ↦ absurd (true≢false (sym (fewer (is_adjacent m) x d off) ∙ parts.0)) ];
    }
