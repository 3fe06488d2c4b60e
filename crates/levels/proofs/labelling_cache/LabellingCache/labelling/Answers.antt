use Rattle.levels.proofs.Prelude.{All, All-contains, All-more, HeldLabelling, IsCurrent, IsHeldAt, List, get_or, length, refl, subst, sym, take_all, true≢false, ◌<◌, ◌∙◌, ◌≡◌, ◌≤◌}
use Rattle.levels.proofs.Caches.Caching.{held_there}
use Rattle.levels.proofs.labelling_cache.LabellingCache.labelling.Goals as goal
use Rattle.levels.proofs.labelling_cache.LabellingCache.labelling.Goals.{else-held-t-via-then-held-t+else-is_current, else-held-t-via-else-held-t}

pub returns-then-is_current-clause-flooded : goal.returns-then-is_current-clause-flooded
returns-then-is_current-clause-flooded c m d entered =
    let one = c.held-item.result in
    c.labelled.ensures.flooded m d (c.is_current.ensures.0 c.if-is_current.true)
    (entered one.labelling (subst (λ (l : List HeldLabelling). IsHeldAt l c.args.t one.labelling) c.deref-held-items.ensures.value
    (held_there c.deref-held-items.result.now c.loop-held.held-index one c.args.t c.loop-held-test.true c.held-item.is c.if-held-t.true)))

pub loop-held-preserved : goal.loop-held-preserved
loop-held-preserved c =
    let held = c.args.self.now.held.items in
    let i = c.loop-held.held-index in
    let one = c.held-item.result in
    let other = λ (h : HeldLabelling). h.place ≡ c.args.t → IsCurrent h.labelling → ⊥ in
    let passed : other one = elim c.else-held-t.branch [
      | else-held-t-via-then-held-t+else-is_current w ↦ λ place current. true≢false (sym (w.is_current.ensures.1 current) ∙ w.if-is_current.false)
      | else-held-t-via-else-held-t w ↦ λ place current. w.if-held-t.false place
    ] in
    let below : i < length held = subst (λ (l : List HeldLabelling). i < length l) c.deref-held-items.ensures.value c.loop-held-test.true in
    let is : one ≡ get_or held i one = subst (λ (l : List HeldLabelling). one ≡ get_or l i one) c.deref-held-items.ensures.value c.held-item.is in
    All-more other held i one below c.loop-held.invariant (subst other is passed)

pub returns-clause-none : goal.returns-clause-none
returns-clause-none c l at current =
    let held = c.args.self.now.held.items in
    let other = λ (h : HeldLabelling). h.place ≡ c.args.t → IsCurrent h.labelling → ⊥ in
    let end : length held ≤ c.loop-held.held-index = subst (λ (l : List HeldLabelling). length l ≤ c.loop-held.held-index) c.deref-held-items.ensures.value c.loop-held-test.false in
    All-contains other held (record { place = c.args.t; labelling = l }) (subst (All other) (take_all c.loop-held.held-index held end) c.loop-held.invariant) at refl current
