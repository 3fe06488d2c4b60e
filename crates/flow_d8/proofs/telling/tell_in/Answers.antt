use Rattle.flow_d8.proofs.Prelude.{IsFlow, cases_eq, inl, inr, slice_index_or, subst, sym, ⊎_elim}
use Rattle.water.specs.declared.flow.Flow.TheVariants.{Unknown}
use Rattle.flow_d8.specs.Tiles.{place_of}
use Rattle.flow_d8.proofs.Samples.TwinFlows.{decide_flat}
use Rattle.flow_d8.proofs.telling.tell_in.Goals as goal

pub returns-in-Some-clause-facts : goal.returns-in-Some-clause-facts
returns-in-Some-clause-facts c t level is so k =
    let by = c.tell_sample.ensures in
    let tiles = c.args.tiles.now in
    let e = c.in-Some.e in
    elim (cases_eq k e) [
      | inl same ↦ ⊎_elim
          (λ flat. subst (λ m. IsFlow t level (place_of tiles m) (slice_index_or c.tell_sample.new.flows m Unknown)) (sym same)
          (subst (IsFlow t level (place_of tiles e)) (sym (by.here flat)) (subst (λ q. IsFlow t level q c.args.flow) (sym c.in-Some.ensures.0.here) is)))
          (λ not. subst (λ m. IsFlow t level (place_of tiles m) (slice_index_or c.tell_sample.new.flows m Unknown)) (sym same) (subst (IsFlow t level (place_of tiles e)) (sym (by.not_here not)) (so e)))
          (decide_flat (slice_index_or c.args.flows.now e Unknown))
      | inr other ↦ subst (IsFlow t level (place_of tiles k)) (sym (by.others k other)) (so k)
    ]
