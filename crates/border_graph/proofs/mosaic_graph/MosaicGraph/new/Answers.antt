use Rattle.std.proofs.Common.{rules, arith, inl, inr, ℤ, List, sym, ◌≡◌, ◌≤◌, ◌<◌, ◌+◌, ◌*◌, ◌-◌, ◌^◌, ℕ, pos, get_or, length, subst, ap, ◌∙◌, replicate}
use Rattle.border_graph.proofs.Prelude.{Corner, IsReordered, Summary, TileGraph, cases_lt, summary_at, void}
use Rattle.std.proofs.lemmas.List.{get_or-replicate, get_or_past, length-replicate}
use Rattle.border_graph.proofs.MosaicGraphs.{IsGraphWith, no_graph, each_more, one_longer, whole_first}
use Rattle.border_graph.proofs.mosaic_graph.MosaicGraph.new.Goals as goal

room_is : (a nodes : ℕ) → nodes ≡ 1 + a + 0 → nodes < 2 ^ 32 → 1 + a < 2 ^ 32
room_is a nodes is fits = omega arith

void_in : (n x : ℕ) → get_or (replicate n void) x void ≡ void
void_in n x = elim (cases_lt x n) [
  | inl less ↦ get_or-replicate n x void void less
  | inr past ↦ get_or_past (replicate n void) x void (subst (λ m. m ≤ x) (sym (length-replicate n void)) past)
]

pub loop-t-preserved : goal.loop-t-preserved
loop-t-preserved c =
    let so = c.loop-t.invariant in
    let i = c.loop-t.t in
    let summaries = c.args.summaries.now in
    record {
      many = one_longer c.loop-t.corners.items c.push.new.items.items _ i so.many c.in_ok-push.ensures.pushed;
      whole = one_longer c.loop-t.graphs.items c.push-in-loop-t.new.items.items _ i so.whole c.in_ok-push-2.ensures.pushed;
      places = each_more (λ (t : ℕ) (d : Corner). d ≡ (summary_at summaries t).corner) c.loop-t.corners.items c.push.new.items.items _ (record { lat = pos 0; lon = pos 0 }) i so.many c.in_ok-push.ensures.pushed so.places (c.corner.ensures ∙ ap (λ (b : Summary). b.corner) c.summary_at-summary.ensures);
      graphs = each_more (λ (t : ℕ) (g : TileGraph). IsGraphWith c.args.side (summary_at summaries t) g) c.loop-t.graphs.items c.push-in-loop-t.new.items.items _ no_graph i so.whole c.in_ok-push-2.ensures.pushed so.graphs
          (record { same = c.in_ok-graph.ensures.side; moved = subst (λ (b : Summary). IsReordered b c.in_ok-graph.graph.summary) c.summary_at-summary.ensures c.in_ok-graph.ensures.summary });
    }

pub invariant_of-result : goal.invariant_of-result
invariant_of-result c =
    let so = c.loop-t.invariant in
    let summaries = c.args.summaries.now in
    let last : length summaries ≤ c.loop-t.t = (let done = c.loop-t-test.false in search rules) in
    let below : c.loop-t.t ≤ length summaries = search rules in
    let fits : c.in-Some.nodes < 2 ^ 32 = search rules in
    let at : c.in-Some.nodes ≡ 1 + length summaries * (4 * (c.args.side - 1)) + 0 = c.in-Some.ensures.some in
    let none : (x : ℕ) → get_or c.in_ok-levels.levels.items x void ≡ void = λ x. subst (λ (l : List ℤ). get_or l x void ≡ void) (sym (c.in_ok-levels.ensures.items_if_clones_equal (λ y same. same))) (void_in c.in-Some.nodes x) in
    whole_first c.args.side c.loop-t.graphs.items summaries c.loop-t.t last below so.whole so.graphs c.loop-t.corners.items c.in_ok-levels.levels.items so.many so.places
    (room_is (length summaries * (4 * (c.args.side - 1))) c.in-Some.nodes at fits) none
