use Rattle.border_graph.proofs.Prelude.{Damaged, MosaicGraph, NoMemory, Rim, SFits, ap, ap₂, err_from_is_err_and, inl, inr, int_max, node_number, of_z, refl, rim_point, rules, subst, summary_at, sym, to_z, to_z-of_z, void, w16, ◌*◌, ◌+◌, ◌-◌, ◌∙◌, ◌≡◌, ◌⊎◌}
use Rattle.border_graph.specs.MosaicGraph.{IsFound, IsCutOff, LeadsNowhereFrom}
use Rattle.border_graph.proofs.MosaicGraphs.{height_at, level_at}
use Rattle.border_graph.proofs.mosaic_graph.MosaicGraph.rim_level.Goals as goal

pub returns-then-height-clause-level : goal.returns-then-height-clause-level
returns-then-height-clause-level c =
    let g = c.args.self.now in
    let was = c.self.inside in
    let in_range : SFits w16 c.height-height.result = search rules in
    let height : (rim_point (summary_at g.summaries c.args.t) c.args.k).height ≡ c.height-height.result = height_at was.side was.graphs.items g c.self.view_is c.args.t c.requires.place c.args.k c.index.result.now c.index.ensures ∙ sym c.height-height.ensures in
    let gap : (rim_point (summary_at g.summaries c.args.t) c.args.k).height ≡ void = height ∙ (sym (to_z-of_z in_range) ∙ ap (to_z w16) c.if-height.true) in
    record { none = λ _. refl; some = λ full. absurd (full gap); found = λ full. absurd (full gap) }

pub returns-in_err-level-clause-refusal : goal.returns-in_err-level-clause-refusal
returns-in_err-level-clause-refusal c =
    let g = c.args.self.now in
    let was = c.self.inside in
    let height : (rim_point (summary_at g.summaries c.args.t) c.args.k).height ≡ c.height-height.result = height_at was.side was.graphs.items g c.self.view_is c.args.t c.requires.place c.args.k c.index.result.now c.index.ensures ∙ sym c.height-height.ensures in
    let at : c.in-Some.node ≡ node_number g.side (Rim c.args.t c.args.k) = c.in-Some.ensures.some ∙ ap (λ (h : MosaicGraph). 1 + c.args.t * (4 * (h.side - 1)) + c.args.k) c.self.view_is in
    let p = err_from_is_err_and c.from_residual.result c.from_residual.ensures.1 in
    rw p.1 (subst (λ r. (r ≡ NoMemory) ⊎ ((r ≡ Damaged) × IsCutOff g)) (sym p.2) (elim c.in_err-level.ensures.refusal [
      | inl memory ↦ inl memory
      | inr damaged ↦ inr (
        damaged.0,
        record {
          tile = c.args.t;
          number = c.args.k;
          there = record { tile = c.requires.place; number = c.requires.number; solid = λ gap. c.if-height.false (ap (of_z w16) (sym height ∙ gap)) };
          no_way = subst (LeadsNowhereFrom g) at damaged.1;
        },
      )
    ]))

pub returns-clause-level : goal.returns-clause-level
returns-clause-level c =
    let g = c.args.self.now in
    let was = c.self.inside in
    let in_range : SFits w16 c.height-height.result = search rules in
    let height : (rim_point (summary_at g.summaries c.args.t) c.args.k).height ≡ c.height-height.result = height_at was.side was.graphs.items g c.self.view_is c.args.t c.requires.place c.args.k c.index.result.now c.index.ensures ∙ sym c.height-height.ensures in
    let at : c.in-Some.node ≡ node_number g.side (Rim c.args.t c.args.k) = c.in-Some.ensures.some ∙ ap (λ (h : MosaicGraph). 1 + c.args.t * (4 * (h.side - 1)) + c.args.k) c.self.view_is in
    let max_range : SFits w16 c.max.result = record { sfits = c.max.type_inv } in
    let greater : c.max.result ≡ int_max c.in_ok-level.level c.height-height.result = c.max.ensures.value ∙ ap₂ int_max (to_z-of_z {w = w16} {z = c.in_ok-level.level} (search rules)) (to_z-of_z {w = w16} {z = c.height-height.result} (search rules)) in
    level_at g c.args.t c.args.k c.in_ok-level.level c.height-height.result (to_z w16 (of_z w16 c.max.result)) height in_range (λ gap. c.if-height.false (ap (of_z w16) gap))
    (subst (λ x. IsFound g x c.in_ok-level.level) at c.in_ok-level.ensures.level) (to_z-of_z max_range ∙ greater)
