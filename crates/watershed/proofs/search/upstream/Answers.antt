use Rattle.std.proofs.Common.{rules}
use Rattle.watershed.proofs.Prelude.{Contains, IsMarked, Option, Point, [], ap, inl, inr, nil_from_length, option_to_list, subst, sym, terrain, vec_len, ⊎_elim, ◌++◌, ◌∙◌, ◌∷◌, ◌≡◌}
use Rattle.watershed.proofs.Upstream.{IsSearching, begun, search_on, search_done}
use Rattle.watershed.proofs.search.upstream.Goals as goal

pub search-init : goal.search-init
search-init g c = search (rules, begun)

pub search-preserved : goal.search-preserved
search-preserved g c =
    let laws = g.met.F.FlowSource in
    let inv = c.search.invariant in
    let told = c.in_ok-visit.ensures in
    let first = c.args.flows.now in
    let old = c.search.flows in
    let new = c.visit.new.flows in
    let p = c.args.point in
    let rest = c.pop.new.self.items in
    let waiting = c.visit.new.waiting.items in
    let at = c.in-Some.at in
    let known = told.once in
    let was : c.search.waiting.items ≡ rest ++ at ∷ [] = c.pop.ensures.items ∙ ap (λ (o : Option Point). rest ++ option_to_list o) c.in-Some.is in
    record {
      ready = told.ready;
      follows = laws.follows_on first old new inv.follows told.follows;
      keeps = laws.keeps_on first old new inv.keeps told.keeps;
      indexed = told.indexed;
      searching = λ m level tells.
          let before = laws.told_before old new m level told.follows tells in
          let so_far = subst (IsSearching (terrain m) level p (IsMarked c.search.marks)) was (inv.searching m level before) in
          search_on (terrain m) level p (IsMarked c.search.marks) (IsMarked c.visit.new.marks) rest waiting at told.marked
          (λ x has. ⊎_elim (λ again. subst (λ l. Contains l x) (sym again.1) has) (λ first. (first.1 m level tells x).1 (inl has)) known)
          (λ x has. ⊎_elim (λ again. inl (subst (λ l. Contains l x) again.1 has)) (λ first. (first.1 m level tells x).0 has) known)
          (λ x feeds. ⊎_elim (λ again. inl (so_far.closed at x again.0 feeds)) (λ first. inr ((first.1 m level tells x).1 (inr feeds))) known)
          so_far;
    }

pub returns-clause-found : goal.returns-clause-found
returns-clause-found g c m level tells = search (rules, vec_len, nil_from_length, search_done)
