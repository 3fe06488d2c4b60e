use Rattle.levels.proofs.Prelude.{All, All-contains, HasSide, HeldLabelling, IsEntered, List, ap, cond, insert, is_ok, remove, subst, sym, ◌∙◌}
use Rattle.levels.proofs.Caches.Caching.{all_among, all_inserted, inserted_or_not, removed_among, entered_among, entered_exchanged}
use Rattle.levels.proofs.labelling_cache.give_up_block.Goals as goal

pub returns-in-Some-clause-entered : goal.returns-in-Some-clause-entered
returns-in-Some-clause-entered c m d u entered =
    let held = c.args.held.now.items in
    let at = c.args.at in
    let one = c.remove-one.result in
    let left : HeldLabelling = record { place = one.place; labelling = c.in-Some.labelling } in
    subst (λ (l : List HeldLabelling). IsEntered m d l u) (sym c.insert.ensures.items)
    (subst (λ (l : List HeldLabelling). IsEntered m d (cond (is_ok c.insert.result) (insert l at left) l) u) (sym c.remove-one.ensures.items)
    (inserted_or_not (λ (l : List HeldLabelling). IsEntered m d l u) (is_ok c.insert.result) (insert (remove held at) at left) (remove held at)
    (entered_exchanged m d u held at one c.in-Some.labelling c.requires c.remove-one.ensures.value (c.in-Some.ensures.valid m d) entered)
    (entered_among m d u held (remove held at) (removed_among held at) entered)))

pub returns-in-Some-clause-sides : goal.returns-in-Some-clause-sides
returns-in-Some-clause-sides c n all =
    let held = c.args.held.now.items in
    let at = c.args.at in
    let one = c.remove-one.result in
    let left : HeldLabelling = record { place = one.place; labelling = c.in-Some.labelling } in
    let fewer = all_among (HasSide n) held (remove held at) (removed_among held at) all in
    let side : HasSide n left = ap (λ l. l.side) c.in-Some.ensures.labelled ∙ All-contains (HasSide n) held one all (at, c.requires, sym c.remove-one.ensures.value) in
    subst (All (HasSide n)) (sym c.insert.ensures.items)
    (subst (λ (l : List HeldLabelling). All (HasSide n) (cond (is_ok c.insert.result) (insert l at left) l)) (sym c.remove-one.ensures.items)
    (inserted_or_not (All (HasSide n)) (is_ok c.insert.result) (insert (remove held at) at left) (remove held at) (all_inserted (HasSide n) (remove held at) at left side fewer) fewer))
