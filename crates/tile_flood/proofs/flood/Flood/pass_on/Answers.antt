use Rattle.tile_flood.proofs.Prelude.{IsIn, IsInOr, IsInWindow, IsMending, IsTrue, SFits, ap, arith, bare_block, cases_lt, inl, inr, int_max, is_marked, is_solid, of_z, rules, slice_index, slice_index_or, subst, sym, to_z, to_z-of_z, void, w16, ≤ℤ_trans, ◌∙◌, ◌≡◌, ◌≤ℤ◌}
use Rattle.tile_flood.proofs.Dependence.{one_window_point, window_point_of}
use Rattle.tile_flood.proofs.Steps.{mending_as, passed_on}
use Rattle.tile_flood.proofs.ListedChanges.{listed_same, listed_twice}
use Rattle.tile_flood.proofs.flood.Flood.pass_on.Goals as goal
use Rattle.tile_flood.proofs.flood.Flood.pass_on.Goals.{in-Some+in_ok-visit, in_default}

pub returns-then-not-is_current-clause-state : goal.returns-then-not-is_current-clause-state
returns-then-not-is_current-clause-state c =
    let s = c.args.self.now in
    mending_as c.args.block.now.n c.args.block.now.heights.now c.args.block.now.sinks.now s.levels.items s.labels.items (IsInOr s.queue s.levels.items c.args.entry.point c.args.entry.level) (IsIn s.suspects s.levels.items) (IsIn s.queue s.levels.items) (IsIn s.suspects s.levels.items) c.requires.state
    (λ e on is. is)
    (λ x y on link w. elim w [
      | inl waits ↦ inl waits
      | inr taken ↦ absurd (c.is_current.ensures.stale c.if-not-is_current.true (subst (λ z. IsTrue (is_marked s.levels.items z)) taken.0 on) (ap (λ z. slice_index_or s.levels.items z void) (sym taken.0) ∙ taken.1))
    ])

pub loop-d-init : goal.loop-d-init
loop-d-init c =
    let s = c.args.self.now in
    let fits : SFits w16 c.args.entry.level = search rules in
    let level = to_z-of_z fits in
    record {
      state = record {
        state = subst (λ v. IsMending c.args.block.now.n c.args.block.now.heights.now c.args.block.now.sinks.now s.levels.items s.labels.items (IsInOr s.queue s.levels.items c.args.entry.point v) (IsIn s.suspects s.levels.items)) (sym level) c.requires.state;
        marked = c.is_current.ensures.current c.if-not-is_current.false;
        level = c.is_current.ensures.level c.if-not-is_current.false ∙ sym level;
        named = sym (c.label_at.ensures ∙ ap (λ bs. slice_index bs c.args.entry.point) c.deref.ensures.value);
      };
      listed = listed_same c.args.block.now.n c.args.block.now.heights.now s.levels.items s.labels.items c.args.self.now.affected.items;
      reached = λ k z less small spot solid. absurd (omega arith);
    }

pub loop-d-preserved : goal.loop-d-preserved
loop-d-preserved c =
    let n = c.args.block.now.n in
    let i = c.loop-d.invariant in
    let d = c.loop-d.d in
    let point = c.args.entry.point in
    let b = bare_block n c.args.block.now.heights.now in
    let s = c.args.self.now in
    let low = to_z w16 (of_z w16 c.args.entry.level) in
    elim c.match-window_point.branch [
      | in-Some+in_ok-visit w ↦
          let a = w.in_ok-visit.ensures in
          let e = w.in-Some.e in
          let levels = c.loop-d.self.levels.items in
          let levels' = w.visit.new.self.levels.items in
          rw w.self-is (record {
            state = a.state;
            listed = listed_twice n c.args.block.now.heights.now s.levels.items levels levels' s.labels.items c.loop-d.self.labels.items w.visit.new.self.labels.items c.args.self.now.affected.items c.loop-d.self.affected.items w.visit.new.self.affected.items i.listed a.listed;
            reached = λ k z less small spot solid. elim (cases_lt k d) [
              | inl before ↦
                  let was = i.reached k z before small spot solid in
                  let now = a.at_most z was.0 in
                  (now.0, ≤ℤ_trans (slice_index_or levels' z void) (slice_index_or levels z void) (int_max (slice_index_or c.args.block.now.heights.now z void) low) now.1 was.1)
              | inr ge ↦
                  let same : k ≡ d = omega arith in
                  let is : z ≡ e = one_window_point n point d z e (subst (λ k. IsInWindow n point k z) same spot) w.in-Some.ensures.some in
                  subst (λ v. IsTrue (is_solid b v) → IsTrue (is_marked levels' v) × (slice_index_or levels' v void ≤ℤ int_max (slice_index_or c.args.block.now.heights.now v void) low)) (sym is) a.reached solid
            ];
          })
      | in_default w ↦ rw w.self-is (record {
        state = i.state;
        listed = i.listed;
        reached = λ k z less small spot solid. elim (cases_lt k d) [
          | inl before ↦ i.reached k z before small spot solid
          | inr ge ↦ let same : k ≡ d = omega arith in absurd (w.in_default.ensures.none z small (subst (λ k. IsInWindow n point k z) same spot))
        ];
      })
    ]

pub returns-clause-state : goal.returns-clause-state
returns-clause-state c =
    let n = c.args.block.now.n in
    let point = c.args.entry.point in
    let i = c.loop-d.invariant in
    passed_on n c.args.block.now.heights.now c.args.block.now.sinks.now c.loop-d.self.levels.items c.loop-d.self.labels.items c.loop-d.self.queue c.loop-d.self.suspects point _ _ i.state
    (λ z small beside solid. let spot = window_point_of n point z beside in let low = spot.1.0 in i.reached spot.0 z (omega arith) small spot.1.1 solid)
