use Rattle.tile_flood.proofs.Prelude.{IsIn, IsInOr, IsTrue, SFits, Waits, ap, inl, inr, is_marked, of_z, refl, rules, slice_index_or, subst, sym, to_z, to_z-of_z, void, w16, ≤ℤ_same, ◌<◌, ◌∙◌, ◌≤ℤ◌}
use Rattle.tile_flood.proofs.Steps.{mending_as, kept_state, reset_in}
use Rattle.tile_flood.proofs.ListedChanges.{listed_as}
use Rattle.tile_flood.proofs.flood.Flood.examine.Goals as goal

pub returns-then-not-is_current-clause-state : goal.returns-then-not-is_current-clause-state
returns-then-not-is_current-clause-state c =
    let s = c.args.self.now in
    mending_as c.args.block.now.n c.args.block.now.heights.now c.args.block.now.sinks.now s.levels.items s.labels.items (IsIn s.queue s.levels.items) (IsInOr s.suspects s.levels.items c.args.entry.point c.args.entry.level) (IsIn s.queue s.levels.items) (IsIn s.suspects s.levels.items) c.requires.state
    (λ e on is. elim is [
      | inl in_still ↦ in_still
      | inr taken ↦ absurd (c.is_current.ensures.stale c.if-not-is_current.true (subst (λ z. IsTrue (is_marked s.levels.items z)) taken.0 on) (ap (λ z. slice_index_or s.levels.items z void) (sym taken.0) ∙ taken.1))
    ])
    (λ x y on link w. inl w)

pub returns-then-is_held-clause-state : goal.returns-then-is_held-clause-state
returns-then-is_held-clause-state c =
    let s = c.args.self.now in
    let e = c.args.entry.point in
    let fits : SFits w16 c.args.entry.level = search rules in
    let joined = c.in_ok-push.ensures.joined in
    kept_state c.args.block.now.n c.args.block.now.heights.now c.args.block.now.sinks.now s.levels.items s.labels.items (IsIn s.queue s.levels.items) (IsInOr s.suspects s.levels.items e c.args.entry.level) (IsIn c.push.new.self s.levels.items) (IsIn s.suspects s.levels.items) c.requires.state
    e (c.is_held.ensures.held c.if-is_held.true)
    (λ z other is. elim is [ inl in_still ↦ in_still | inr taken ↦ absurd (other taken.0) ])
    (λ z other w. joined.others (slice_index_or s.levels.items z void) z w)
    (subst (λ l. Waits c.push.new.self l e) (to_z-of_z fits ∙ sym (c.is_current.ensures.level c.if-not-is_current.false)) joined.waits)

pub returns-clause-state : goal.returns-clause-state
returns-clause-state c =
    let s = c.args.self.now in
    let e = c.args.entry.point in
    let a = c.in_ok-reset.ensures in
    let heights = c.args.block.now.heights.now in
    let fits : SFits w16 c.args.entry.level = search rules in
    reset_in c.args.block.now.n heights heights c.args.block.now.sinks.now s.levels.items c.reset.new.self.levels.items s.labels.items c.reset.new.self.labels.items s.queue c.reset.new.self.queue s.suspects c.reset.new.self.suspects
    (IsInOr s.suspects s.levels.items e c.args.entry.level) e void _ (to_z w16 (of_z w16 c.args.entry.level)) a.levels a.labels c.requires.state
    (λ z other is. elim is [ inl in_still ↦ in_still | inr taken ↦ absurd (other taken.0) ])
    (λ z. refl) (λ z other. refl) (c.is_current.ensures.current c.if-not-is_current.false) (inl (refl, (refl, c.is_held.ensures.inner c.if-is_held.false))) a.waiting a.suspect
    (inl (subst (λ l. l ≤ℤ slice_index_or s.levels.items e void) (sym (to_z-of_z fits)) (subst (λ l. c.args.entry.level ≤ℤ l) (sym (c.is_current.ensures.level c.if-not-is_current.false)) (≤ℤ_same c.args.entry.level)))) a.suspected a.others

pub returns-clause-listed : goal.returns-clause-listed
returns-clause-listed c =
    let s = c.args.self.now in
    let a = c.in_ok-reset.ensures in
    listed_as c.args.block.now.n c.args.block.now.heights.now s.levels.items c.reset.new.self.levels.items s.labels.items c.reset.new.self.labels.items c.args.self.now.affected.items c.reset.new.self.affected.items c.args.entry.point
    void _ (subst (λ m. c.args.entry.point < m) c.requires.state.levels_whole (c.is_current.ensures.inside c.if-not-is_current.false)) a.levels a.labels a.affected
