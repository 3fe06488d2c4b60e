use Rattle.border_graph.proofs.Prelude.{ArePassesOf, List, Spill, Suffice, Summarizes, ℕ, ap, length, map, refl, spill_of, subst, sym, ◌∙◌, ◌≡◌}
use Rattle.border_graph.proofs.Forests.Sufficing.{summarizes_all, summarizes_less, forest_suffices}
use Rattle.border_graph.proofs.reducing.reduced.Goals as goal

pub returns-then-count-clause-right : goal.returns-then-count-clause-right
returns-then-count-clause-right c m is = summarizes_all m c.args.summary is

pub returns-clause-right : goal.returns-clause-right
returns-clause-right c m is =
    let b = c.args.summary in
    let size = length c.rim-count.result.now in
    let kept = c.in_ok-kept.kept.items in
    let less = c.in_ok-spills.spills.items in
    let of : ArePassesOf size b.spills (length b.spills) c.in_ok-passes.passes.items = subst (λ (l : List Spill). ArePassesOf size l (length l) c.in_ok-passes.passes.items) c.spills.ensures c.in_ok-passes.ensures in
    let suffice = forest_suffices size b.spills c.in_ok-passes.passes.items kept of c.in_ok-kept.ensures.span less (c.in_ok-spills.ensures ∙ ap (map (spill_of size)) c.deref.ensures.value) in
    let rim : length c.rim-count.result.now ≡ length b.rim = ap length c.rim-count.ensures in
    subst (Summarizes m) (sym c.with_spills.ensures) (summarizes_less m b (record b { spills = less }) refl refl (subst (λ (n : ℕ). Suffice n b.spills less) rim suffice) is)
