use Rattle.tile_flood.proofs.Prelude.{IsIn, IsInWindow, IsTrue, arith, cases_lt, inl, inr, is_marked, slice_index, slice_index_or, subst, sym, void, ◌∙◌, ◌≡◌, ◌≤ℤ◌, ◌⊎◌}
use Rattle.tile_flood.proofs.Dependence.{one_window_point, window_point_of}
use Rattle.tile_flood.proofs.flood.Flood.suspect_beside.Goals as goal
use Rattle.tile_flood.proofs.flood.Flood.suspect_beside.Goals.{in-Some+in_ok-suspect_or_wait, in_default}

pub loop-d-preserved : goal.loop-d-preserved
loop-d-preserved c =
    let n = c.args.n in
    let i = c.loop-d.invariant in
    let d = c.loop-d.d in
    let levels = c.args.self.now.levels.items in
    let labels = c.args.self.now.labels.items in
    let label = c.args.cell.label in
    let v = c.args.cell.level in
    elim c.match-window_point.branch [
      | in-Some+in_ok-suspect_or_wait w ↦
          let a = w.in_ok-suspect_or_wait.ensures in
          let e = w.in-Some.e in
          let q' = w.suspect_or_wait.new.self.queue in
          let s' = w.suspect_or_wait.new.self.suspects in
          rw w.self-is (record {
            levels = a.levels ∙ i.levels;
            labels = a.labels ∙ i.labels;
            waiting = λ l f waited. a.waiting l f (i.waiting l f waited);
            suspect = λ l f was. a.suspect l f (i.suspect l f was);
            affected = a.affected ∙ i.affected;
            suspected = λ j y less small spot on named high. elim (cases_lt j d) [
              | inl before ↦ a.suspect (slice_index_or levels y void) y (i.suspected j y before small spot on named high)
              | inr ge ↦
                  let same : j ≡ d = omega arith in
                  let is : y ≡ e = one_window_point n c.args.point d y e (subst (λ k. IsInWindow n c.args.point k y) same spot) w.in-Some.ensures.some in
                  subst (IsIn s' levels) (sym is)
                  (subst (λ ls. IsTrue (is_marked ls e) → slice_index labels e ≡ label → v ≤ℤ slice_index_or ls e void → IsIn s' ls e) i.levels
                  (subst (λ bs. IsTrue (is_marked c.loop-d.self.levels.items e) → slice_index bs e ≡ label → v ≤ℤ slice_index_or c.loop-d.self.levels.items e void → IsIn s' c.loop-d.self.levels.items e) i.labels a.suspected)
                  (subst (λ z. IsTrue (is_marked levels z)) is on) (subst (λ z. slice_index labels z ≡ label) is named) (subst (λ z. v ≤ℤ slice_index_or levels z void) is high))
            ];
            others = λ wanted j y less small spot on. elim (cases_lt j d) [
              | inl before ↦ elim (i.others wanted j y before small spot on) [
                | inl waited ↦ inl (a.waiting (slice_index_or levels y void) y waited)
                | inr was ↦ inr (a.suspect (slice_index_or levels y void) y was)
              ]
              | inr ge ↦
                  let same : j ≡ d = omega arith in
                  let is : y ≡ e = one_window_point n c.args.point d y e (subst (λ k. IsInWindow n c.args.point k y) same spot) w.in-Some.ensures.some in
                  subst (λ z. IsIn q' levels z ⊎ IsIn s' levels z) (sym is)
                  (subst (λ ls. IsTrue (is_marked ls e) → IsIn q' ls e ⊎ IsIn s' ls e) i.levels (a.others wanted) (subst (λ z. IsTrue (is_marked levels z)) is on))
            ];
          })
      | in_default w ↦ rw w.self-is (record {
        levels = i.levels;
        labels = i.labels;
        waiting = i.waiting;
        suspect = i.suspect;
        affected = i.affected;
        suspected = λ j y less small spot on named high. elim (cases_lt j d) [
          | inl before ↦ i.suspected j y before small spot on named high
          | inr ge ↦ let same : j ≡ d = omega arith in absurd (w.in_default.ensures.none y small (subst (λ k. IsInWindow n c.args.point k y) same spot))
        ];
        others = λ wanted j y less small spot on. elim (cases_lt j d) [
          | inl before ↦ i.others wanted j y before small spot on
          | inr ge ↦ let same : j ≡ d = omega arith in absurd (w.in_default.ensures.none y small (subst (λ k. IsInWindow n c.args.point k y) same spot))
        ];
      })
    ]

pub returns-clause-suspected : goal.returns-clause-suspected
returns-clause-suspected c y small beside on named high =
    let spot = window_point_of c.args.n c.args.point y beside in
    c.loop-d.invariant.suspected spot.0 y (omega arith) small spot.1.1 on named high

pub returns-clause-others : goal.returns-clause-others
returns-clause-others c wanted y small beside on = let spot = window_point_of c.args.n c.args.point y beside in let low = spot.1.0 in c.loop-d.invariant.others wanted spot.0 y (omega arith) small spot.1.1 on
