use Rattle.flow_d8.proofs.Prelude.{IsFlow, IsTold, arith, is_deep, slice_index_or, subst, sym, true, true≢false, ⊎_elim, ◌%◌, ◌*◌, ◌<◌, ◌∙◌, ◌≡◌}
use Rattle.water.specs.declared.flow.Flow.TheVariants.{Unknown}
use Rattle.flow_d8.specs.Tiles.{place_of, count_of, IsSampleOf}
use Rattle.flow_d8.proofs.Samples.DeepSteps.{deep_alone}
use Rattle.flow_d8.proofs.telling.tell_run.Goals as goal

pub flow_at-flow-requires : goal.flow_at-flow-requires
flow_at-flow-requires c = c.requires.small c.args.run.first (record { from = omega arith; to = c.requires.row.some })

pub returns-then-is_told-clause-facts : goal.returns-then-is_told-clause-facts
returns-then-is_told-clause-facts c t level so =
    c.tell_point.ensures.facts t level (subst (λ q. IsFlow t level q c.flow_at-flow.result) (sym c.point.ensures) (subst (IsFlow t level (place_of c.args.tiles.now c.args.run.first)) (sym c.flow_at-flow.ensures) (so c.args.run.first))) so

pub returns-then-is_deep-clause-twins : goal.returns-then-is_deep-clause-twins
returns-then-is_deep-clause-twins c k e in_it told sample flat =
    let t = c.args.tiles.now in
    let small : k < count_of t = subst (λ n. k < n) c.requires.tiles (c.requires.small k in_it) in
    let deep : is_deep t.side (k % (t.side * t.side)) ≡ true = ⊎_elim
    (λ one. let same : c.args.run.first ≡ k = omega (arith, one, in_it.from, in_it.to) in subst (λ n. is_deep t.side (n % (t.side * t.side)) ≡ true) same (sym c.is_deep.ensures ∙ c.if-is_deep.true))
    (λ all. all k in_it)
    c.requires.row.deep in
    let alone : e ≡ k = deep_alone t c.tiles-valid.ensures.valid k small deep e sample.small sample.here in
    subst (λ m. IsTold (slice_index_or c.args.flows.now m Unknown)) (sym alone) told

-- a row that isn't deep is one sample
pub returns-then-is_told-clause-twins : goal.returns-then-is_told-clause-twins
returns-then-is_told-clause-twins c k e in_it told sample flat = c.tell_point.ensures.twins e (subst (λ q. IsSampleOf c.args.tiles.now q e) (sym c.point.ensures)
    (subst (λ n. IsSampleOf c.args.tiles.now (place_of c.args.tiles.now n) e)
    (⊎_elim (λ one. omega (arith, one, in_it.from, in_it.to))
    (λ all. absurd (true≢false (sym (all c.args.run.first (record { from = omega arith; to = c.requires.row.some })) ∙ sym c.is_deep.ensures ∙ c.if-is_deep.false))) c.requires.row.deep)
    sample)) flat
