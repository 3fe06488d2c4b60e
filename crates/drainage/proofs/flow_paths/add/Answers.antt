use Rattle.std.proofs.Common.{◌≢◌, List, [], ◌∷◌, ◌++◌, Contains, inl, inr, sym, subst, ⊎_elim}
use Rattle.std.proofs.lemmas.List.Elements.{Contains-get_or, Contains-push, Contains-append_left, Contains-push_cases}
use Rattle.std.proofs.lemmas.List.Quantifiers.{all_pairs_push}
use Rattle.drainage.proofs.Prelude.{IsMarkedOnce, Point}
use Rattle.drainage.proofs.flow_paths.add.Goals as goal

pub returns-clause-once : goal.returns-clause-once
returns-clause-once c =
    let old = c.args.path.now.items in
    let p = c.args.point in
    let new = c.mark.new.self in
    let mark = c.in_ok-mark.ensures in
    subst (λ (l : List Point). IsMarkedOnce new l) (sym c.in_ok-lengthen.ensures) (record {
      once = all_pairs_push (λ p q. p ≢ q) old p c.requires.once (λ k d small same.
          let before = c.requires.is_marked p (subst (Contains old) same (Contains-get_or old k d small)) in
          mark.fresh c.if-not-branch.false before);
      on_path = λ q has. ⊎_elim (λ before. Contains-append_left old (p ∷ []) q (c.requires.on_path q before)) (λ is. subst (Contains (old ++ p ∷ [])) (sym is) (Contains-push old p)) ((mark.marked q).0 has);
      is_marked = λ q has. (mark.marked q).1 (⊎_elim (λ before. inl (c.requires.is_marked q before)) (λ is. inr (sym is)) (Contains-push_cases old p q has));
      indexed = mark.indexed;
    })
