use Rattle.tile_flood.proofs.Prelude.{IsIn, IsTrue, SFits, Waits, ap, inl, inr, is_marked, of_z, rules, slice_index, slice_index_or, subst, sym, to_z, to_z-of_z, void, w16, ◌<ℤ◌, ◌∙◌, ◌≡◌, ◌≤ℤ◌}
use Rattle.tile_flood.proofs.Steps.{IsReached, lower_on}
use Rattle.tile_flood.proofs.ListedChanges.{listed_as}
use Rattle.tile_flood.proofs.flood.Flood.lower.Goals as goal
use Rattle.tile_flood.proofs.flood.Flood.lower.Goals.{Then-label-own, In_ok-suspect_beside}

-- the lowered point keeps its label
kept : (c : Then-label-own) → IsReached c.args.block.now.n c.args.block.now.heights.now c.args.block.now.sinks.now c.args.self.now.levels.items c.mark.new.self.levels.items c.mark.new.self.labels.items c.mark.new.self.queue c.mark.new.self.suspects c.args.popped.point c.args.popped.level c.args.popped.label c.args.e
kept c =
    let s = c.args.self.now in
    let e = c.args.e in
    let fits : SFits w16 c.args.level = search rules in
    let v = to_z w16 (of_z w16 c.args.level) in
    let at : v ≡ c.args.level = to_z-of_z fits in
    let a = c.in_ok-mark.ensures in
    let own : c.label_at.result ≡ slice_index s.labels.items e = c.label_at.ensures ∙ ap (λ bs. slice_index bs e) c.deref-2.ensures.value in
    lower_on c.args.block.now.n c.args.block.now.heights.now c.args.block.now.sinks.now s.levels.items s.labels.items s.queue c.mark.new.self.queue s.suspects c.mark.new.self.suspects c.args.popped.point c.args.popped.level c.args.popped.label e v c.label_for-label.result
    c.requires.state (c.requires.state.state.ground e c.requires.marked) c.requires.beside (at ∙ c.requires.level) a.joined.waits a.joined.others (λ l f w. subst (λ q. Waits q l f) (sym a.suspects) w)
    c.mark.new.self.levels.items c.mark.new.self.labels.items c.requires.marked (subst (λ l. l <ℤ slice_index_or s.levels.items e void) (sym at) c.requires.lower) c.label_for-label.ensures a.levels a.labels
    (inl (sym own ∙ sym c.if-label-own.true))

pub returns-then-label-own : goal.returns-then-label-own
returns-then-label-own c =
    let s = c.args.self.now in
    let k = kept c in
    record {
      state = k.state;
      at_most = k.at_most;
      reached = k.reached;
      listed = rw c.in_ok-mark.ensures.affected (listed_as c.args.block.now.n c.args.block.now.heights.now s.levels.items c.mark.new.self.levels.items s.labels.items c.mark.new.self.labels.items c.args.self.now.affected.items c.push.new.self.items c.args.e (to_z w16 (of_z w16 c.args.level)) c.label_for-label.result
          c.requires.e c.in_ok-mark.ensures.levels c.in_ok-mark.ensures.labels (rw (c.label_at.ensures, c.deref-2.ensures.value) at c.in_ok-push.ensures.items));
    }

-- the lowered point gets another label, and the points that it supported are suspect
changed : (c : In_ok-suspect_beside) → IsReached c.args.block.now.n c.args.block.now.heights.now c.args.block.now.sinks.now c.args.self.now.levels.items c.suspect_beside.new.self.levels.items c.suspect_beside.new.self.labels.items c.suspect_beside.new.self.queue c.suspect_beside.new.self.suspects
    c.args.popped.point c.args.popped.level c.args.popped.label c.args.e
changed c =
    let s = c.args.self.now in
    let e = c.args.e in
    let fits : SFits w16 c.args.level = search rules in
    let fits_was : SFits w16 c.at.result = search rules in
    let v = to_z w16 (of_z w16 c.args.level) in
    let at : v ≡ c.args.level = to_z-of_z fits in
    let a = c.in_ok-mark.ensures in
    let b = c.in_ok-suspect_beside.ensures in
    let mid = c.mark.new.self.levels.items in
    let suspects' = c.suspect_beside.new.self.suspects in
    let own : c.label_at.result ≡ slice_index s.labels.items e = c.label_at.ensures ∙ ap (λ bs. slice_index bs e) c.deref-2.ensures.value in
    let was : to_z w16 (of_z w16 c.at.result) ≡ slice_index_or s.levels.items e void = to_z-of_z fits_was ∙ (c.at.ensures ∙ ap (λ ls. slice_index_or ls e void) c.deref.ensures.value) in
    lower_on c.args.block.now.n c.args.block.now.heights.now c.args.block.now.sinks.now s.levels.items s.labels.items s.queue c.suspect_beside.new.self.queue s.suspects suspects' c.args.popped.point c.args.popped.level c.args.popped.label e v c.label_for-label.result
    c.requires.state (c.requires.state.state.ground e c.requires.marked) c.requires.beside (at ∙ c.requires.level) (b.waiting v e a.joined.waits) (λ l f w. b.waiting l f (a.joined.others l f w)) (λ l f w. b.suspect l f (subst (λ q. Waits q l f) (sym a.suspects) w))
    c.suspect_beside.new.self.levels.items c.suspect_beside.new.self.labels.items c.requires.marked (subst (λ l. l <ℤ slice_index_or s.levels.items e void) (sym at) c.requires.lower) c.label_for-label.ensures (b.levels ∙ a.levels) (b.labels ∙ a.labels)
    (inr (λ z small near on named high. subst (λ ls. IsIn suspects' ls z) (sym b.levels)
    (b.suspected z small near (subst (λ ls. IsTrue (is_marked ls z)) b.levels on) (ap (λ bs. slice_index bs z) (sym b.labels) ∙ (named ∙ sym own))
    (subst (λ l. l ≤ℤ slice_index_or mid z void) (sym was) (subst (λ ls. slice_index_or s.levels.items e void ≤ℤ slice_index_or ls z void) b.levels high)))))

pub returns : goal.returns
returns c =
    let s = c.args.self.now in
    let a = c.in_ok-mark.ensures in
    let b = c.in_ok-suspect_beside.ensures in
    let k = changed c in
    record {
      state = k.state;
      at_most = k.at_most;
      reached = k.reached;
      listed = rw (b.affected, a.affected) (listed_as c.args.block.now.n c.args.block.now.heights.now s.levels.items c.suspect_beside.new.self.levels.items s.labels.items c.suspect_beside.new.self.labels.items c.args.self.now.affected.items c.push.new.self.items c.args.e (to_z w16 (of_z w16 c.args.level)) c.label_for-label.result
          c.requires.e (b.levels ∙ a.levels) (b.labels ∙ a.labels) (rw (c.label_at.ensures, c.deref-2.ensures.value) at c.in_ok-push.ensures.items));
    }
