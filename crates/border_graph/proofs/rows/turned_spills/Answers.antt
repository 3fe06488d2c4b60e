use Rattle.border_graph.proofs.Prelude.{IsNonDecreasingBy-from_sort_by_key, Spill, ap, arith, map, rules, take, take_all, turned, ◌∙◌, ◌≡◌}
use Rattle.border_graph.proofs.RowSteps.{all_turned}
use Rattle.border_graph.proofs.rows.turned_spills.Goals as goal

pub returns-clause-turned : goal.returns-clause-turned
returns-clause-turned c =
    let b = c.args.summary.now in
    let all : take c.loop-spill.spill-index c.spills-spills.result.now ≡ b.spills = take_all c.loop-spill.spill-index c.spills-spills.result.now (omega arith) ∙ c.spills-spills.ensures in
    all_turned c.args.side b c.loop-spill.back.items c.turn_labels.new.back.items c.sort_by_key.new.self.items (c.loop-spill.invariant ∙ ap (map turned) all) c.in_ok-turn_labels.ensures c.in_ok-sort_by_key.ensures.permutation

pub returns-clause-in_order : goal.returns-clause-in_order
returns-clause-in_order c = IsNonDecreasingBy-from_sort_by_key (λ (s : Spill). s.a) _ c.in_ok-sort_by_key.ensures.sorted (λ a r q k. search rules)
