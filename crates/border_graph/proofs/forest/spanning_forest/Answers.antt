use Rattle.border_graph.proofs.Prelude.{Contains, Contains-permutation, IsPermutation-sym, IsRisingBy, List, Pass, SpanAll, arith, get_or, subst, sym, ◌+◌}
use Rattle.border_graph.proofs.Forests.Kruskal.{rising_from, rises, span_moved}
use Rattle.border_graph.proofs.forest.spanning_forest.Goals as goal

pub keep-requires-clause-inside : goal.keep-requires-clause-inside
keep-requires-clause-inside c p has =
    c.requires.inside p (Contains-permutation c.sort.new.self.items c.args.passes.items p (IsPermutation-sym c.args.passes.items c.sort.new.self.items c.in_ok-sort.ensures.permutation) (subst (λ (l : List Pass). Contains l p) c.deref.ensures.value has))

pub keep-requires-clause-rising : goal.keep-requires-clause-rising
keep-requires-clause-rising c =
    subst IsRisingBy (sym c.deref.ensures.value) (rising_from c.sort.new.self.items (λ k d small. rises (get_or c.sort.new.self.items k d) (get_or c.sort.new.self.items (k + 1) d) (c.in_ok-sort.ensures.sorted k d (omega arith) small)))

pub returns-clause-span : goal.returns-clause-span
returns-clause-span c =
    let all = c.args.passes.items in
    let sorted = c.sort.new.self.items in
    let moved = c.in_ok-sort.ensures.permutation in
    span_moved all sorted c.in_ok-kept.kept.items (λ p has. Contains-permutation all sorted p moved has) (λ p has. Contains-permutation sorted all p (IsPermutation-sym all sorted moved) has)
    (subst (λ (l : List Pass). SpanAll l c.in_ok-kept.kept.items) c.deref.ensures.value c.in_ok-kept.ensures.span)
