use Rattle.border_graph.proofs.Prelude.{Damaged, NoMemory, arith, err_from_is_err_and, inl, inr, length, length-map, map, subst, sym, ◌∙◌, ◌≡◌, ◌≢◌, ◌⊎◌}
use Rattle.std.proofs.lemmas.Bool.{eqb-false}
use Rattle.border_graph.specs.Joins.{CannotBeJoined}
use Rattle.border_graph.proofs.JoinedRims.{one_side, some_side, not_cut_off, leads_nowhere, rims_are_joined}
use Rattle.border_graph.proofs.joining.join.Goals as goal

pub returns-in_default-clause-not_damaged : goal.returns-in_default-clause-not_damaged
returns-in_default-clause-not_damaged c m is all = absurd (some_side m is c.args.summaries.now all c.in_default.ensures.none)

pub returns-clause-levels : goal.returns-clause-levels
returns-clause-levels c m is all =
    let summaries = c.args.summaries.now in
    let none : length summaries ≢ 0 = eqb-false (length summaries) 0 (sym c.is_empty.ensures ∙ c.if-is_empty.false) in
    rims_are_joined m is summaries all c.in_ok-graph.graph (c.in_ok-graph.ensures.side ∙ one_side m is summaries all c.in-Some.side c.in-Some.ensures.low (omega arith) c.in-Some.ensures.some) c.in_ok-graph.ensures.summaries
    (map (λ v. v.items) c.in_ok-joined.joined.items) (length-map c.in_ok-joined.joined.items (λ v. v.items) ∙ c.in_ok-joined.ensures.whole) c.in_ok-joined.ensures.rims

pub returns-in_err-joined-clause-not_damaged : goal.returns-in_err-joined-clause-not_damaged
returns-in_err-joined-clause-not_damaged c m is all =
    let summaries = c.args.summaries.now in
    let none : length summaries ≢ 0 = eqb-false (length summaries) 0 (sym c.is_empty.ensures ∙ c.if-is_empty.false) in
    let p = err_from_is_err_and c.from_residual-in_err-joined.result c.from_residual-in_err-joined.ensures.1 in
    rw p.1 (subst (λ r. r ≡ NoMemory) (sym p.2) (elim c.in_err-joined.ensures.refusal [
      | inl memory ↦ memory
      | inr damaged ↦ absurd (not_cut_off m is summaries all c.in_ok-graph.graph (c.in_ok-graph.ensures.side ∙ one_side m is summaries all c.in-Some.side c.in-Some.ensures.low (omega arith) c.in-Some.ensures.some) c.in_ok-graph.ensures.summaries damaged.1)
    ]))

pub returns-in_err-joined-clause-refusal : goal.returns-in_err-joined-clause-refusal
returns-in_err-joined-clause-refusal c =
    let p = err_from_is_err_and c.from_residual-in_err-joined.result c.from_residual-in_err-joined.ensures.1 in
    rw p.1 (subst (λ r. (r ≡ NoMemory) ⊎ ((r ≡ Damaged) × CannotBeJoined c.args.summaries.now)) (sym p.2) (elim c.in_err-joined.ensures.refusal [
      | inl memory ↦ inl memory
      | inr damaged ↦ inr (damaged.0, inr (c.in-Some.side, (c.in-Some.ensures.some, leads_nowhere c.in_ok-graph.graph c.in-Some.side c.args.summaries.now c.in_ok-graph.ensures.side c.in_ok-graph.ensures.summaries damaged.1)))
    ]))
