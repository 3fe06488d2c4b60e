use Rattle.flow_d8.proofs.Prelude.{Bool, IsFalse, IsLevelGrid, IsTrue, Point, Terrain, ℤ, arith, cases_Bool, cond-false, cond-true, false, if◌then◌else◌, inl, inr, slice_index_or, sym, true≢false, void, ◌↔◌, ◌∙◌, ◌≡◌}
use Rattle.flow_d8.proofs.Steps.SteepestStep.{beside_void, beside_level}
use Rattle.water.proofs.SteepestStep.{steepest_of_all, none_of_all}
use Rattle.flow_d8.proofs.local_flow.local_flow_at.Goals as goal

module _ (t : Terrain Point) (level : Point → ℤ) (p : Point) where
  ground_of : (here : ℤ) → here ≡ (if t.is_ground p then level p else void) → (b : Bool) → (IsTrue b ↔ (here ≡ void)) → b ≡ false → IsTrue (t.is_ground p) × (level p ≡ here)
  ground_of here is b tells off = elim (cases_Bool (t.is_ground p)) [
    | inl on ↦ (on, sym (is ∙ cond-true (t.is_ground p) (level p) void on))
    | inr apart ↦ absurd (true≢false (sym (tells.1 (is ∙ cond-false (t.is_ground p) (level p) void apart)) ∙ off))
  ]

  void_of : (here : ℤ) → IsLevelGrid t level → here ≡ (if t.is_ground p then level p else void) → here ≡ void → IsFalse (t.is_ground p)
  void_of here levelled is none = elim (cases_Bool (t.is_ground p)) [
    | inl on ↦ absurd (levelled.some p on (sym (is ∙ cond-true (t.is_ground p) (level p) void on) ∙ none))
    | inr apart ↦ apart
  ]

pub returns-then-best-gt0-clause-so : goal.returns-then-best-gt0-clause-so
returns-then-best-gt0-clause-so c t level p levelled shown =
    let here = ground_of t level p (slice_index_or c.args.levels.now c.args.k void) shown.here c.is_void.result c.is_void.ensures c.if-is_void.false in
    let best = c.steepest_at-best.ensures t level p levelled here.1 (shown.around here.0) in
    (here.0, steepest_of_all t level p c.steepest_at-best.result.slope c.steepest_at-best.result.direction best c.if-best-gt0.true)

pub returns-in-Some-clause-so : goal.returns-in-Some-clause-so
returns-in-Some-clause-so c t level p levelled shown =
    let here = ground_of t level p (slice_index_or c.args.levels.now c.args.k void) shown.here c.is_void.result c.is_void.ensures c.if-is_void.false in
    let best = c.steepest_at-best.ensures t level p levelled here.1 (shown.around here.0) in
    (here.0, none_of_all t level p c.steepest_at-best.result.slope c.steepest_at-best.result.direction best (levelled.steps p) (omega arith), (c.in-Some.field-0, beside_void t level p levelled c.in-Some.field-0 (sym (shown.around here.0 c.in-Some.field-0) ∙ c.in-Some.ensures)))

pub returns-in-None-clause-so : goal.returns-in-None-clause-so
returns-in-None-clause-so c t level p levelled shown =
    let here = ground_of t level p (slice_index_or c.args.levels.now c.args.k void) shown.here c.is_void.result c.is_void.ensures c.if-is_void.false in
    let best = c.steepest_at-best.ensures t level p levelled here.1 (shown.around here.0) in
    (here.0, none_of_all t level p c.steepest_at-best.result.slope c.steepest_at-best.result.direction best (levelled.steps p) (omega arith), (λ d. beside_level t level p levelled d (λ none. c.in-None.ensures d (shown.around here.0 d ∙ none))))
