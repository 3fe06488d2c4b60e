use Rattle.border_graph.proofs.Prelude.{Contains-get_or, Global, IsForestSoFar, List, Pass, Vec, ℕ, [], ap, arith, get_or, pos, roots, subst, sym, ◌+◌, ◌<◌, ◌∙◌, ◌≤◌}
use Rattle.border_graph.proofs.Forests.Kruskal.{none_kept, passed_over, kept_too, all_spanned, fewer_kept}
use Rattle.border_graph.proofs.forest.keep.Goals as goal
use Rattle.border_graph.proofs.forest.keep.Goals.{then-union+in_ok-push, else-union}

pub returns-clause-span : goal.returns-clause-span
returns-clause-span c = all_spanned c.args.count c.args.sorted.now c.loop-k.parent c.loop-k.kept.items c.loop-k.k (let past = c.loop-k-test.false in omega arith) c.loop-k.invariant

pub returns-clause-fewer : goal.returns-clause-fewer
returns-clause-fewer c some = fewer_kept c.args.count c.args.sorted.now c.loop-k.parent c.loop-k.kept.items c.loop-k.k (let past = c.loop-k-test.false in omega arith) c.loop-k.invariant some

pub union-requires-clause-inside : goal.union-requires-clause-inside
union-requires-clause-inside c =
    let pass : Pass = get_or c.args.sorted.now c.loop-k.k (record { level = pos 0; a = 0; b = 0 }) in
    let both = c.requires.inside pass (Contains-get_or c.args.sorted.now c.loop-k.k (record { level = pos 0; a = 0; b = 0 }) c.loop-k-test.true) in
    subst (λ n. (pass.a < n) × (pass.b < n)) (sym c.loop-k.invariant.whole) both

pub loop-k-init : goal.loop-k-init
loop-k-init c =
    let places = c.in_ok-places.places.items in
    let start : IsForestSoFar c.args.count c.args.sorted.now 0 places [] = none_kept c.args.count c.args.sorted.now places c.in_ok-places.ensures.whole c.in_ok-places.ensures.roots in
    subst (λ (l : List ℕ). IsForestSoFar c.args.count c.args.sorted.now 0 l c.new-kept.result.items) (sym c.deref_mut-parent.ensures.value)
    (subst (λ (l : List Pass). IsForestSoFar c.args.count c.args.sorted.now 0 places l) (sym c.new-kept.ensures.items) start)

pub loop-k-preserved : goal.loop-k-preserved
loop-k-preserved c =
    let so = c.loop-k.invariant in
    elim c.if-union.branch [
      | then-union+in_ok-push w ↦ kept_too c.args.count c.args.sorted.now c.loop-k.k c.loop-k-test.true c.requires.rising (record { level = pos 0; a = 0; b = 0 }) c.loop-k.parent c.union.new.parent c.loop-k.kept.items so
          c.union.ensures.whole c.union.ensures.falling c.union.ensures.over (subst (λ n. roots n c.union.new.parent < roots n c.loop-k.parent) so.whole (c.union.ensures.fewer w.if-union.true))
          c.if-union.kept.items (ap (λ (v : Vec Pass Global). v.items) w.kept-is ∙ w.in_ok-push.ensures.items)
      | else-union w ↦ subst (λ (v : Vec Pass Global). IsForestSoFar c.args.count c.args.sorted.now (c.loop-k.k + 1) c.union.new.parent v.items) (sym w.kept-is)
          (passed_over c.args.count c.args.sorted.now c.loop-k.k c.loop-k-test.true c.requires.rising (record { level = pos 0; a = 0; b = 0 }) c.loop-k.parent c.union.new.parent c.loop-k.kept.items so
          c.union.ensures.whole c.union.ensures.falling c.union.ensures.over (c.union.ensures.together w.if-union.false)
          (subst (λ n. roots n c.union.new.parent ≤ roots n c.loop-k.parent) so.whole c.union.ensures.no_more))
    ]
