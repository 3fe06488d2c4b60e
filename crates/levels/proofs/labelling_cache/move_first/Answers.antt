use Rattle.levels.proofs.Prelude.{All, All-cons, All-contains_itself, Bool, Contains, HeldLabelling, List, ap, cond, insert, is_ok, remove, rules, subst, sym, true, ◌∙◌, ◌∷◌, ◌≡◌}
use Rattle.levels.proofs.Caches.Caching.{removed_among, moved_first}
use Rattle.levels.proofs.labelling_cache.move_first.Goals as goal
use Rattle.levels.proofs.labelling_cache.move_first.Goals.{After-insert}

pub returns-then-at-eq0-clause-only : goal.returns-then-at-eq0-clause-only
returns-then-at-eq0-clause-only c = All-contains_itself c.args.held.now.items

pub returns-then-at-eq0-clause-all : goal.returns-then-at-eq0-clause-all
returns-then-at-eq0-clause-all c = All-contains_itself c.args.held.now.items

module _ (c : After-insert) where
  moved : c.insert.new.self.items ≡ c.remove-one.result ∷ remove c.args.held.now.items c.args.at
  moved =
      let ok : is_ok c.insert.result ≡ true = search rules in
      c.insert.ensures.items
      ∙ (ap (λ (b : Bool). cond b (insert c.remove-one.new.self.items 0 c.remove-one.result) c.remove-one.new.self.items) ok
      ∙ ap (λ (left : List HeldLabelling). c.remove-one.result ∷ left) c.remove-one.ensures.items)

pub returns-clause-only : goal.returns-clause-only
returns-clause-only c =
    let held = c.args.held.now.items in
    subst (All (Contains held)) (sym (moved (goal.at.returns-clause-only c).After-insert))
    (All-cons (Contains held) c.remove-one.result (remove held c.args.at) (c.args.at, c.requires, sym c.remove-one.ensures.value) (removed_among held c.args.at))

pub returns-clause-all : goal.returns-clause-all
returns-clause-all c =
    let held = c.args.held.now.items in
    subst (λ (left : List HeldLabelling). All (Contains left) held) (sym (moved (goal.at.returns-clause-all c).After-insert)) (moved_first held c.args.at c.remove-one.result c.requires c.remove-one.ensures.value)
