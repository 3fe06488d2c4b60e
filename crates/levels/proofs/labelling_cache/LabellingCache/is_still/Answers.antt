use Rattle.levels.proofs.Prelude.{All, All-contains, All-more, HeldLabelling, IsBelow, List, get_or, length, refl, subst, sym, take_all, true≢false, ◌<◌, ◌∙◌, ◌≡◌, ◌≤◌}
use Rattle.lattice.proofs.Samples.{index_unique}
use Rattle.levels.proofs.labelling_cache.LabellingCache.is_still.Goals as goal

pub loop-held-preserved : goal.loop-held-preserved
loop-held-preserved c =
    let held = c.args.self.now.held.items in
    let h = c.args.height.now in
    let i = c.loop-held.held-index in
    let one = c.held-item.result in
    let other = λ (x : HeldLabelling). ((x.place ≡ c.args.t) × IsBelow x.labelling c.in-Some.index h.was h.metres) → ⊥ in
    let below : i < length held = subst (λ (l : List HeldLabelling). i < length l) c.deref-held-items.ensures.value c.loop-held-test.true in
    let is : one ≡ get_or held i one = subst (λ (l : List HeldLabelling). one ≡ get_or l i one) c.deref-held-items.ensures.value c.held-item.is in
    let passed : other one = λ at. true≢false (sym (c.is_below.ensures.1 at) ∙ c.if-is_below.false) in
    All-more other held i one below c.loop-held.invariant (subst other is passed)

pub returns-clause-no : goal.returns-clause-no
returns-clause-no c at =
    let held = c.args.self.now.held.items in
    let h = c.args.height.now in
    let other = λ (x : HeldLabelling). ((x.place ≡ c.args.t) × IsBelow x.labelling c.in-Some.index h.was h.metres) → ⊥ in
    let end : length held ≤ c.loop-held.held-index = subst (λ (l : List HeldLabelling). length l ≤ c.loop-held.held-index) c.deref-held-items.ensures.value c.loop-held-test.false in
    let same = index_unique c.args.side c.args.corner h.point at.index c.in-Some.index at.point c.in-Some.ensures.some.0 in
    absurd (All-contains other held (record { place = c.args.t; labelling = at.labelling }) (subst (All other) (take_all c.loop-held.held-index held end) c.loop-held.invariant) at.held
    (refl, subst (λ e. IsBelow at.labelling e h.was h.metres) same at.below))
