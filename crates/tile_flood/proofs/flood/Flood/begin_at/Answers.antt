use Rattle.tile_flood.proofs.Prelude.{IsFirstSuspect, IsOwnLabel, IsTrue, SFits, ap, block_of, get_or_default, inl, inr, is_exit, of_z, refl, rules, slice_index, slice_index_or, subst, sym, to_z, to_z-of_z, void, w16, ≤ℤ_same, ◌%◌, ◌*◌, ◌+◌, ◌/◌, ◌<◌, ◌∙◌, ◌≡◌, ◌≤ℤ◌}
use Rattle.lattice.proofs.IntTests.{lt_false}
use Rattle.labelling.proofs.Squares.{cell_of}
use Rattle.tile_flood.proofs.Steps.{begin_passed, begin_reset, begin_waits}
use Rattle.tile_flood.proofs.ListedChanges.{listed_as}
use Rattle.tile_flood.proofs.flood.Flood.begin_at.Goals as goal

pub returns-then-not-is_marked-clause-state : goal.returns-then-not-is_marked-clause-state
returns-then-not-is_marked-clause-state c =
    let s = c.args.self.now in
    begin_passed c.args.block.now.n c.args.block.now.heights.now c.args.block.now.sinks.now c.args.points.now s.levels.items s.labels.items s.queue s.suspects c.args.k (slice_index c.args.points.now c.args.k) c.requires.state
    (λ d. get_or_default c.args.points.now c.args.k d 0 c.requires.k) (sym c.is_marked.ensures.value ∙ c.if-not-is_marked.true)

pub returns-in-Some-clause-state : goal.returns-in-Some-clause-state
returns-in-Some-clause-state c =
    let s = c.args.self.now in
    let n = c.args.block.now.n in
    let b = block_of n c.args.block.now.heights.now c.args.block.now.sinks.now in
    let e = slice_index c.args.points.now c.args.k in
    let cell : e ≡ (e / n) * n + e % n = cell_of n e in
    let a = c.in_ok-reset.ensures in
    let fits : SFits w16 c.at-level.result = search rules in
    let fits_level : SFits w16 c.at-own.result = search rules in
    let level : to_z w16 (of_z w16 c.at-own.result) ≡ slice_index_or s.levels.items e void = to_z-of_z fits_level ∙ (c.at-own.ensures ∙ ap (λ ls. slice_index_or ls e void) c.deref.ensures.value) in
    begin_reset n c.args.block.now.heights.now c.args.block.now.sinks.now c.args.points.now s.levels.items s.labels.items s.queue s.suspects c.args.k e c.requires.state
    (λ d. get_or_default c.args.points.now c.args.k d 0 c.requires.k) (sym c.is_marked.ensures.value ∙ c.if-not-is_marked.false)
    c.reset.new.self.levels.items c.reset.new.self.labels.items (to_z w16 (of_z w16 c.at-level.result)) c.in-Some.label (to_z w16 (of_z w16 c.at-own.result)) c.reset.new.self.queue c.reset.new.self.suspects a.levels a.labels
    (inr (subst (λ z. IsTrue (is_exit b z)) (sym cell) c.in-Some.ensures.outlet, (to_z-of_z fits ∙ c.at-level.ensures, subst (λ z. IsOwnLabel b z c.in-Some.label) (sym cell) c.in-Some.ensures.label)))
    a.waiting a.suspect (inl (subst (λ v. to_z w16 (of_z w16 c.at-own.result) ≤ℤ v) level (≤ℤ_same (to_z w16 (of_z w16 c.at-own.result))))) a.suspected a.others

pub returns-in-Some-clause-listed : goal.returns-in-Some-clause-listed
returns-in-Some-clause-listed c =
    let s = c.args.self.now in
    let a = c.in_ok-reset.ensures in
    listed_as c.args.block.now.n c.args.block.now.heights.now s.levels.items c.reset.new.self.levels.items s.labels.items c.reset.new.self.labels.items c.args.self.now.affected.items c.reset.new.self.affected.items (slice_index c.args.points.now c.args.k)
    (to_z w16 (of_z w16 c.at-level.result)) c.in-Some.label (subst (λ m. slice_index c.args.points.now c.args.k < m) c.requires.state.state.levels_whole (c.is_marked.ensures.inside c.if-not-is_marked.false)) a.levels a.labels a.affected

pub returns-then-own-level-clause-state : goal.returns-then-own-level-clause-state
returns-then-own-level-clause-state c =
    let s = c.args.self.now in
    let n = c.args.block.now.n in
    let b = block_of n c.args.block.now.heights.now c.args.block.now.sinks.now in
    let e = slice_index c.args.points.now c.args.k in
    let cell : e ≡ (e / n) * n + e % n = cell_of n e in
    let a = c.in_ok-reset-2.ensures in
    let fits : SFits w16 c.first_suspect-from.result = search rules in
    begin_reset n c.args.block.now.heights.now c.args.block.now.sinks.now c.args.points.now s.levels.items s.labels.items s.queue s.suspects c.args.k e c.requires.state
    (λ d. get_or_default c.args.points.now c.args.k d 0 c.requires.k) (sym c.is_marked.ensures.value ∙ c.if-not-is_marked.false)
    c.reset-then-own-level.new.self.levels.items c.reset-then-own-level.new.self.labels.items void _ (to_z w16 (of_z w16 c.first_suspect-from.result)) c.reset-then-own-level.new.self.queue c.reset-then-own-level.new.self.suspects a.levels a.labels
    (inl (refl, (refl, ap (is_exit b) cell ∙ c.in_default.ensures.none)))
    a.waiting a.suspect (inr (ap (is_exit b) cell ∙ c.in_default.ensures.none, subst (IsFirstSuspect n s.levels.items s.labels.items s.suspects e) (sym (to_z-of_z fits)) c.first_suspect-from.ensures)) a.suspected a.others

pub returns-then-own-level-clause-listed : goal.returns-then-own-level-clause-listed
returns-then-own-level-clause-listed c =
    let s = c.args.self.now in
    let a = c.in_ok-reset-2.ensures in
    listed_as c.args.block.now.n c.args.block.now.heights.now s.levels.items c.reset-then-own-level.new.self.levels.items s.labels.items c.reset-then-own-level.new.self.labels.items c.args.self.now.affected.items c.reset-then-own-level.new.self.affected.items (slice_index c.args.points.now c.args.k)
    void _ (subst (λ m. slice_index c.args.points.now c.args.k < m) c.requires.state.state.levels_whole (c.is_marked.ensures.inside c.if-not-is_marked.false)) a.levels a.labels a.affected

pub returns-clause-state : goal.returns-clause-state
returns-clause-state c =
    let s = c.args.self.now in
    let n = c.args.block.now.n in
    let b = block_of n c.args.block.now.heights.now c.args.block.now.sinks.now in
    let e = slice_index c.args.points.now c.args.k in
    let cell : e ≡ (e / n) * n + e % n = cell_of n e in
    let a = c.in_ok-suspect_beside.ensures in
    let fits : SFits w16 c.at-level.result = search rules in
    let fits_level : SFits w16 c.at-own.result = search rules in
    let height : to_z w16 (of_z w16 c.at-level.result) ≡ slice_index_or c.args.block.now.heights.now e void = to_z-of_z fits ∙ c.at-level.ensures in
    let level : to_z w16 (of_z w16 c.at-own.result) ≡ slice_index_or s.levels.items e void = to_z-of_z fits_level ∙ (c.at-own.ensures ∙ ap (λ ls. slice_index_or ls e void) c.deref.ensures.value) in
    rw (a.levels, a.labels)
    (begin_waits n c.args.block.now.heights.now c.args.block.now.sinks.now c.args.points.now s.levels.items s.labels.items s.queue s.suspects c.args.k e c.requires.state
    (λ d. get_or_default c.args.points.now c.args.k d 0 c.requires.k) (sym c.is_marked.ensures.value ∙ c.if-not-is_marked.false)
    c.suspect_beside.new.self.queue c.suspect_beside.new.self.suspects (ap (is_exit b) cell ∙ c.in_default.ensures.none)
    (subst (λ h. h ≤ℤ slice_index_or s.levels.items e void) height (subst (λ l. to_z w16 (of_z w16 c.at-level.result) ≤ℤ l) level (lt_false (to_z w16 (of_z w16 c.at-own.result)) (to_z w16 (of_z w16 c.at-level.result)) c.if-own-level.false)))
    a.waiting a.suspect (a.others refl))
