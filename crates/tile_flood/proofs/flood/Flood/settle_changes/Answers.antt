use Rattle.tile_flood.proofs.Prelude.{Affected, IsIn, IsInOr, IsTaken, List, StayListed, Waits, ℕ, ℤ, arith, inl, slice_index_or, subst, sym, void}
use Rattle.tile_flood.proofs.Steps.{mended, mending_as, taken_in}
use Rattle.tile_flood.proofs.ListedChanges.{listed_twice}
use Rattle.tile_flood.proofs.flood.Flood.settle_changes.Goals as goal
use Rattle.tile_flood.proofs.flood.Flood.settle_changes.Goals.{In_default-pop, in-Some+in_ok-examine, in_default+in-Some-pop+in_ok-pass_on}

pub examine-requires : goal.examine-requires
examine-requires c =
    let s = c.loop.self in
    let a = c.take_suspect.ensures in
    let levels = s.levels.items in
    let q' = c.take_suspect.new.self.suspects in
    let entry = c.in-Some.entry in
    rw (a.levels, a.labels, a.queue)
    (record {
      state = mending_as c.args.block.now.n c.args.block.now.heights.now c.args.block.now.sinks.now levels s.labels.items (IsIn s.queue levels) (IsIn s.suspects levels) (IsIn s.queue levels) (IsInOr q' levels entry.point entry.level) c.loop.invariant.state
          (λ e on is. taken_in levels s.suspects q' entry.point entry.level c.in-Some.ensures.taken e is) (λ x y on link w. inl w);
    })

pub pass_on-requires : goal.pass_on-requires
pass_on-requires c =
    let s = c.loop.self in
    let a = c.in_default.ensures in
    let levels = s.levels.items in
    let q' = c.pop.new.self in
    let entry = c.in-Some-pop.entry in
    rw (a.levels, a.labels, a.same)
    (record {
      state = mending_as c.args.block.now.n c.args.block.now.heights.now c.args.block.now.sinks.now levels s.labels.items (IsIn s.queue levels) (IsIn s.suspects levels) (IsInOr q' levels entry.point entry.level) (IsIn s.suspects levels) c.loop.invariant.state
          (λ e on is. is) (λ x y on link w. inl (taken_in levels s.queue q' entry.point entry.level (subst (λ q. IsTaken q q' entry.level entry.point) a.queue c.in-Some-pop.ensures.taken) x w));
    })

-- when the loop ends, no point waits, and none is suspect
nobody : (c : In_default-pop) (l : ℤ) (e : ℕ) → Waits c.loop.self.queue l e → ⊥
nobody c l e w = c.in_default-pop.ensures.taken l e (subst (λ q. Waits q l e) (sym c.in_default.ensures.queue) w)

pub returns-in_default-pop-clause-mended : goal.returns-in_default-pop-clause-mended
returns-in_default-pop-clause-mended c done =
    let s = c.loop.self in
    let a = c.in_default.ensures in
    let levels = s.levels.items in
    let none = a.none (nobody (goal.at.returns-in_default-pop-clause-mended c).In_default-pop) in
    rw (a.levels, a.labels)
    (mended c.args.block.now.n c.args.block.now.heights.now c.args.block.now.sinks.now levels s.labels.items (IsIn s.queue levels) (IsIn s.suspects levels) (IsIn s.queue levels) (IsIn s.suspects levels) c.loop.invariant.state (omega arith)
    (λ e w. nobody (goal.at.returns-in_default-pop-clause-mended c).In_default-pop (slice_index_or levels e void) e w) (λ e is. none (slice_index_or levels e void) e is))

pub loop-preserved : goal.loop-preserved
loop-preserved c =
    let n = c.args.block.now.n in
    let heights = c.args.block.now.heights.now in
    let first = c.args.self.now in
    let s = c.loop.self in
    let t = c.take_suspect.new.self in
    let same = c.take_suspect.ensures in
    let at : (levels : List ℤ) (labels : List ℕ) (affected : List Affected) → StayListed n heights t.levels.items t.labels.items t.affected.items levels labels affected → StayListed n heights first.levels.items first.labels.items first.affected.items levels labels affected =
    λ levels labels affected more. listed_twice n heights first.levels.items s.levels.items levels first.labels.items s.labels.items labels first.affected.items s.affected.items affected c.loop.invariant.listed
    (rw (same.levels, same.labels, same.affected) at more) in
    elim c.match-take_suspect.branch [
      | in-Some+in_ok-examine w ↦
          let a = w.in_ok-examine.ensures in
          rw w.self-is (record { state = a.state; listed = at w.examine.new.self.levels.items w.examine.new.self.labels.items w.examine.new.self.affected.items a.listed })
      | in_default+in-Some-pop+in_ok-pass_on w ↦
          let a = w.in_ok-pass_on.ensures in
          rw w.self-is (record { state = a.state; listed = at w.pass_on.new.self.levels.items w.pass_on.new.self.labels.items w.pass_on.new.self.affected.items a.listed })
    ]
