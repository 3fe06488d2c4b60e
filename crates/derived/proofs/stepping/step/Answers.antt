use Rattle.std.proofs.Common.{◌≡◌, ◌≢◌, true≢false, inl, inr, ⊎_elim, ℕ, false, List, [], length, sym, ap, ap₂, ◌∙◌, subst, arith}
use Rattle.std.specs.Borrow.{Bor}
use Rattle.std.specs.Prelude.{Option, Some, None, Result, Ok, Err, Contains, IfSome}
use Rattle.lattice.specs.Corners.{Corner}
use Rattle.lattice.specs.Mosaic.{Mosaic}
use Rattle.lattice.specs.declared.point.Point.{Point}
use Rattle.lattice.specs.declared.refusal.Refusal.{Refusal}
use Rattle.lattice.specs.declared.refusal.Refusal.TheVariants.{Device}
use Rattle.page_codec.specs.Entries.{EntryValue}
use Rattle.page_codec.specs.Roots.{RootValue}
use Rattle.tile_flood.specs.declared.labelled.Labelled.{Labelled}
use Rattle.tile_labellings.specs.Labellings.{IsFlooded}
use Rattle.cow_tree.specs.Kept.{with_kept}
use Rattle.cow_tree.specs.Reading.{mosaic_of}
use Rattle.cow_tree.specs.Stored.{StoredTile, Stored, next_commit}
use Rattle.cow_tree.specs.Trees.{disk_of, root_of, has_failed, sinks_of, staged_in, IsAt}
use Rattle.cow_tree.specs.Uncommitted.{CommitsNothing}
use Rattle.cow_tree.specs.declared.tree.Tree.{Tree}
use Rattle.cow_tree.proofs.Clean.{still_clean}
use Rattle.cow_tree.proofs.ReadOnly.{never_refused}
use Rattle.cow_tree.proofs.Steps.{on_ok}
use Rattle.cow_tree.proofs.Uncommitted.{in_memory, refused_as, uncommitted_on}
use Rattle.derived.specs.Kept.{AreRight, KeepsRight, stale_among, stale_in, mosaic_stored}
use Rattle.derived.specs.Steps.{StaysClean, Commits, IsStepped, MayStep, Steps, HasStepped}
use Rattle.derived.proofs.Commits.{commits_after}
use Rattle.derived.proofs.KeptTiles.{is_stepped}
use Rattle.derived.proofs.RootStored.{count_at, stale_at}
use Rattle.derived.proofs.Settled.{IsSettled, mosaic_settled, readable_settled}
use Rattle.derived.proofs.stepping.step.Goals as goal
use Rattle.derived.proofs.stepping.step.Goals.{After-abandon, After-stage_planes, After-commit}

-- a list that has an element isn't empty
not_empty : (cs : List Corner) (c : Corner) → Contains cs c → cs ≢ []
not_empty cs c (k, below, here) none = absurd (let no : length cs ≡ 0 = ap (λ (l : List Corner). length l) none in omega (arith, below, no))

abbrev given : Option Corner → Option (Bor Labelled) → Mosaic → Type 0
given at labelled m = IfSome at (λ c. IfSome labelled (λ l. IsFlooded m c l.now))

-- The labelling found is the right one.
found_right : (found labelled : Option (Bor Labelled)) (at : Option Corner) (c : Corner) (side : ℕ) (m : Mosaic) → IfSome found (λ l. (at ≡ Some c) × (labelled ≡ Some l) × (l.now.side ≡ side))
    → given at labelled m → IfSome found (λ l. IsFlooded m c l.now)
found_right None labelled at c side m is right = tt
found_right (Some l) labelled at c side m (here, it, same) right =
    subst (λ (there : Option (Bor Labelled)). IfSome there (λ k. IsFlooded m c k.now)) it (subst (λ (there : Option Corner). IfSome there (λ d. IfSome labelled (λ k. IsFlooded m d k.now))) here right)

-- What was staged is dropped, and the tree is otherwise unchanged.
module _ (g : _) (c : After-abandon g) where
  stays : has_failed c.args.tree.now ≡ false → StaysClean {T = Unit {0}} g.D.Disk c.args.tree.now c.abandon.new.self (Ok tt)
  stays works =
      let gives = c.abandon.ensures in
      record {
        uncommitted = in_memory g.D.Disk c.args.tree.now c.abandon.new.self (Ok tt) g.met.D.Disk.only_now gives.no_call works gives.at (λ refused. never_refused tt Device refused);
        works = gives.no_call.failed ∙ works;
        clean = gives.clean;
        declared = gives.sinks;
        writes = ap g.D.Disk.writes gives.no_call.disk;
      }

  settled : g.D.Disk.honest (disk_of c.abandon.new.self) → (s : Stored) → IsAt g.D.Disk c.args.tree.now s → IsSettled g.D.Disk c.abandon.new.self s
  settled honest s at =
      let gives = c.abandon.ensures in
      let was = subst g.D.Disk.honest gives.no_call.disk honest in
      record { at = gives.at was s at; tiles = gives.committed was s at; sinks = gives.undeclared was s at }

-- the tile is stale, and the commit number can grow
module _ (g : _) (c : After-stage_planes g) where
  root : c.current-root.result.now ≡ root_of c.args.tree.now
  root = c.current-root.ensures ∙ c.abandon.ensures.no_call.root

  may : MayStep (root_of c.args.tree.now) c.in-Some.corner
  may = record {
    stale = subst (λ (es : List EntryValue). Contains (stale_among es) c.in-Some.corner) (c.entries.ensures.value ∙ ap (λ (r : RootValue). r.entries) root) c.in-Some.ensures;
    room = let fits = c.number.ensures in let same = ap (λ (r : RootValue). r.number) root in omega (arith, c.if-number.false, fits, same);
  }

-- the commit of the tile's levels and labels
module _ (g : _) (c : After-commit g) (stays_so : StaysClean {T = Unit {0}} g.D.Disk c.args.tree.now c.abandon.new.self (Ok tt))
    (settled_so : g.D.Disk.honest (disk_of c.abandon.new.self) → (s : Stored) → IsAt g.D.Disk c.args.tree.now s → IsSettled g.D.Disk c.abandon.new.self s) (may_so : MayStep (root_of c.args.tree.now) c.in-Some.corner) where
  abbrev old : Tree _ g.D.Disk
  old = c.args.tree.now

  abbrev mid : Tree _ g.D.Disk
  mid = c.abandon.new.self

  abbrev staged : Tree _ g.D.Disk
  staged = c.stage_planes.new.tree

  abbrev makes : Stored → Stored
  makes s = next_commit s (sinks_of c.stage_planes.new.tree) (staged_in g.D.Disk c.stage_planes.new.tree) c.count-count.result

  done : CommitsNothing {T = Unit {0}} g.D.Disk old staged (Ok tt)
  done = uncommitted_on g.D.Disk old mid staged tt (Ok tt) stays_so.uncommitted c.in_ok-stage_planes.ensures.uncommitted

  counted : c.count-count.result ≡ (root_of c.args.tree.now).count
  counted = c.count-count.ensures.value ∙ ap (λ (r : RootValue). r.count) (c.current.ensures ∙ done.root)

  commits : Commits g.D.Disk makes old c.commit.new.self c.commit.result
  commits =
      let does = c.commit.ensures in
      commits_after g.D.Disk makes old staged c.commit.new.self tt c.commit.result done
      (record {
        returns = does.returns;
        side = does.side;
        capacity = does.capacity;
        number = does.number;
        last_known = does.last_known;
        clean = does.clean;
        declared = on_ok c.commit.result (λ declared. does.sinks ∙ sym declared) does.declared;
        at = does.at;
        run = does.any_moment;
      })

  stepped : g.D.Disk.honest (disk_of c.commit.new.self) → (s : Stored) → given c.args.at c.args.labelled (mosaic_stored s) → IsAt g.D.Disk old s → KeepsRight s → IsStepped s c.in-Some.corner (makes s)
  stepped honest s p at keeps =
      let d = g.D.Disk in
      let corner : Corner = c.in-Some.corner in
      let seen = g.met.D.Disk.seen_may (disk_of old) (commits.returns.honest honest) in
      let staged_honest = c.commit.ensures.returns.honest honest in
      let mid_honest = c.in_ok-stage_planes.ensures.uncommitted.returns.honest staged_honest in
      let settled_mid = settled_so mid_honest s at in
      let seen_mid = g.met.D.Disk.seen_may (disk_of mid) mid_honest in
      let same : mosaic_of d mid ≡ mosaic_stored s = mosaic_settled d mid s settled_mid seen_mid in
      let right = found_right c.labelling_of-found.result c.args.labelled c.args.at corner _ (mosaic_of d mid) c.labelling_of-found.ensures.some (subst (given c.args.at c.args.labelled) (sym same) p) in
      let (kept, planes, tiles) = c.in_ok-stage_planes.ensures.staged staged_honest s settled_mid.at (readable_settled d mid s settled_mid seen_mid mid_honest keeps) right in
      let next : makes s ≡ next_commit s s.sinks (with_kept corner kept s.tiles) s.count =
      ap₂ (λ (sinks : List Point) (ts : List StoredTile). next_commit s sinks ts c.count-count.result) (c.stage_planes.ensures.sinks ∙ settled_mid.sinks) (tiles ∙ ap (with_kept corner kept) settled_mid.tiles)
      ∙ ap (next_commit s s.sinks (with_kept corner kept s.tiles)) (counted ∙ sym (count_at d old s at seen)) in
      subst (IsStepped s corner) (sym next)
      (is_stepped corner kept s keeps (subst (λ (cs : List Corner). Contains cs corner) (stale_at d old s at seen) may_so.stale) (subst (λ (m : Mosaic). AreRight m corner kept) same planes))

  steps : Steps g.D.Disk (given c.args.at c.args.labelled) old c.commit.new.self c.in-Some.corner c.commit.result
  steps = record {
    makes = makes;
    commits = commits;
    same_version = c.commit.ensures.version ∙ ap (λ (r : RootValue). r.version) done.root;
    same_count = on_ok c.commit.result (λ is. is ∙ counted) c.commit.ensures.count;
    stepped = stepped;
  }

pub returns-in_default-clause-stepped : goal.returns-in_default-clause-stepped
returns-in_default-clause-stepped g c works =
    let gives = c.abandon.ensures in
    let entries = c.entries.ensures.value ∙ ap (λ (r : RootValue). r.entries) (c.current-root.ensures ∙ gives.no_call.root) in
    (stays g (goal.at.returns-in_default-clause-stepped g c).After-abandon works, subst (λ (es : List EntryValue). stale_among es ≡ []) entries c.in_default.ensures)

pub returns-then-number-clause-stepped : goal.returns-then-number-clause-stepped
returns-then-number-clause-stepped g c works =
    let root : c.current-root.result.now ≡ root_of c.args.tree.now = c.current-root.ensures ∙ c.abandon.ensures.no_call.root in
    let entries = c.entries.ensures.value ∙ ap (λ (r : RootValue). r.entries) root in (
      stays g (goal.at.returns-then-number-clause-stepped g c).After-abandon works,
      ap (λ (r : RootValue). r.number) (sym root) ∙ sym c.number.ensures ∙ c.if-number.true,
      not_empty (stale_in (root_of c.args.tree.now)) c.in-Some.corner (subst (λ (es : List EntryValue). Contains (stale_among es) c.in-Some.corner) entries c.in-Some.ensures),
    )

pub returns-in_err-stage_planes-clause-stepped : goal.returns-in_err-stage_planes-clause-stepped
returns-in_err-stage_planes-clause-stepped g c works =
    let d = g.D.Disk in
    let P : Mosaic → Type 0 = given c.args.at c.args.labelled in
    let old = c.args.tree.now in
    let mid = c.abandon.new.self in
    let new = c.stage_planes.new.tree in
    let gives = c.abandon.ensures in
    let refused = c.in_err-stage_planes.ensures in
    let r : Refusal = c.in_err-stage_planes.field-0.0 in
    let stays_so = stays g (goal.at.returns-in_err-stage_planes-clause-stepped g c).After-abandon works in
    let done : CommitsNothing {T = Unit {0}} d old new (Err r) = uncommitted_on d old mid new tt (Err r) stays_so.uncommitted refused.uncommitted in
    subst (λ (result : Result (Option Corner) Refusal). HasStepped d P old new result) (sym (refused_as c.from_residual.result r c.from_residual.ensures.1))
    (⊎_elim
    (λ device.
    subst (λ (x : Refusal). HasStepped d P old new (Err x)) (sym device)
    (c.in-Some.corner, may g (goal.at.returns-in_err-stage_planes-clause-stepped g c).After-stage_planes, inl (subst (λ (x : Refusal). CommitsNothing {T = Unit {0}} d old new (Err x)) device done)))
    (λ memory.
    let (still, same, unwritten) = refused.no_memory (ap (λ (x : Refusal). Err x) memory) in
    subst (λ (x : Refusal). HasStepped d P old new (Err x)) (sym memory) (record {
      uncommitted = subst (λ (x : Refusal). CommitsNothing {T = Unit {0}} d old new (Err x)) memory done;
      works = still;
      clean = still_clean mid new same gives.clean;
      declared = c.stage_planes.ensures.sinks ∙ gives.sinks ∙ ap (λ (root : RootValue). root.sinks) (sym refused.uncommitted.root);
      writes = unwritten ∙ stays_so.writes;
    }))
    refused.refused)

pub returns-in_err-stage_planes-clause-clean : goal.returns-in_err-stage_planes-clause-clean
returns-in_err-stage_planes-clause-clean g c works =
    let refused = c.in_err-stage_planes.ensures in
    ⊎_elim (λ device. absurd (true≢false (sym (refused.uncommitted.returns.fails (ap (λ (x : Refusal). Err x) device)) ∙ works)))
    (λ memory. still_clean c.abandon.new.self c.stage_planes.new.tree (refused.no_memory (ap (λ (x : Refusal). Err x) memory)).1 c.abandon.ensures.clean) refused.refused

pub returns-in_err-commit-clause-stepped : goal.returns-in_err-commit-clause-stepped
returns-in_err-commit-clause-stepped g c works =
    let here = goal.at.returns-in_err-commit-clause-stepped g c in
    let d = g.D.Disk in
    let P : Mosaic → Type 0 = given c.args.at c.args.labelled in
    let is : ◌≡◌ {A = Result (Unit {0}) Refusal} c.commit.result (Err Device) = c.in_err-commit.was ∙ ap (λ (x : Refusal). Err x) c.in_err-commit.ensures.refused in
    subst (λ (result : Result (Option Corner) Refusal). HasStepped d P c.args.tree.now c.commit.new.self result)
    (sym (refused_as c.from_residual-in_err-commit.result c.in_err-commit.field-0.0 c.from_residual-in_err-commit.ensures.1 ∙ ap (λ (r : Refusal). Err r) c.in_err-commit.ensures.refused)) (
      c.in-Some.corner,
      may g here.After-stage_planes,
      inr (subst (λ (r : Result (Unit {0}) Refusal). Steps d P c.args.tree.now c.commit.new.self c.in-Some.corner r) is (steps g here.After-commit (stays g here.After-abandon works) (settled g here.After-abandon) (may g here.After-stage_planes))),
    )

pub returns-clause-stepped : goal.returns-clause-stepped
returns-clause-stepped g c works =
    let here = goal.at.returns-clause-stepped g c in (
      may g here.After-stage_planes,
      subst (λ (r : Result (Unit {0}) Refusal). Steps g.D.Disk (given c.args.at c.args.labelled) c.args.tree.now c.commit.new.self c.in-Some.corner r) c.in_ok-commit.was
          (steps g here.After-commit (stays g here.After-abandon works) (settled g here.After-abandon) (may g here.After-stage_planes)),
    )
