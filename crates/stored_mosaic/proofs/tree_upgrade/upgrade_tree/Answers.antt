use Rattle.std.proofs.Common.{◌≡◌, ◌≢◌, ⊎_elim, ℕ, ◌+◌, ◌≤◌, ◌<◌, ◌^◌, refl, sym, ap, ◌∙◌, subst, arith, Some, Result, Ok, Err, IsTrue, IsFalse}
use Rattle.std.proofs.lemmas.Bool.{le-leb}
use Rattle.std.proofs.lemmas.Bool.Decides.{leb_tells}
use Rattle.stored_mosaic.proofs.Prelude.{Commits, CommitsNothing, Contents, Device, Ending, Failed, Holds, IsInState, NoMemory, NotOld, One, Refusal, State, Stays, Stored, TooSmall, Tree, Two, Version, Worn, commits_after, device_or_not, disk_of, if_numbered, in_memory, last_number, never_refused, ok_where, refused_as, root_of}
use Rattle.page_codec.specs.Formats.{number_of, upgraded as upgraded_format}
use Rattle.page_codec.specs.Sizes.{sectors_asked}
use Rattle.page_codec.specs.Roots.{RootValue, format_of}
use Rattle.engine.specs.Steps.{IsOld, UpgradesNot as AnswersNot, upgraded}
use Rattle.cow_tree.specs.Upgrades.{MayUpgrade, UpgradesNot, upgraded_store}
use Rattle.stored_mosaic.specs.Upgraded.{IsUpgraded, has_room, may_refuse_upgrade, upgrade_ending}
use Rattle.stored_mosaic.proofs.Calls.Ended as ended
use Rattle.stored_mosaic.proofs.Reading.InMemory.{is_working}
use Rattle.stored_mosaic.proofs.tree_upgrade.upgrade_tree.Goals as goal
use Rattle.stored_mosaic.proofs.tree_upgrade.upgrade_tree.Goals.{After-upgrade}

-- The upgraded store has the upgraded contents.
upgraded_holds : (side capacity : ℕ) (stored : Stored) (c : Contents) → Holds side capacity stored c → Holds side capacity (upgraded_store stored) (upgraded c)
upgraded_holds side capacity stored c holds = record {
  stored_side = holds.stored_side;
  stored_capacity = holds.stored_capacity;
  version = refl;
  number = ap (λ (n : ℕ). n + 1) holds.number;
  count = holds.count;
  valid = holds.valid;
  side_is = holds.side_is;
  sinks = holds.sinks;
  tiles = holds.tiles;
  kept = holds.kept;
  stale = holds.stale;
}

-- whether the disk has room, by the code's test
room_is : (sectors : ℕ) (root : RootValue) → sectors_asked (upgraded_format (format_of root)) ≤ sectors → IsTrue (has_room sectors root)
room_is sectors root fits = le-leb (sectors_asked (upgraded_format (format_of root))) sectors fits

no_room_is : (sectors : ℕ) (root : RootValue) → sectors < sectors_asked (upgraded_format (format_of root)) → IsFalse (has_room sectors root)
no_room_is sectors root less = ⊎_elim (λ told. absurd (omega (arith, told.1, less))) (λ told. told.0) (leb_tells (sectors_asked (upgraded_format (format_of root))) sectors)

-- What was staged is dropped, and the tree is upgraded.
module _ (g : _) (c : After-upgrade g) where
  abbrev old : Tree _ g.D.Disk
  old = c.args.tree.now

  abbrev mid : Tree _ g.D.Disk
  mid = c.abandon.new.self

  abbrev new : Tree _ g.D.Disk
  new = c.upgrade.new.self

  abbrev room : ℕ
  room = g.D.Disk.size (disk_of c.args.tree.now)

  abbrev ending : Ending (Unit {0})
  ending = upgrade_ending room (root_of old)

  -- A commit number that can't grow is the last one.
  last_is : g.D.Disk.honest (disk_of old) → (s : State) → IsInState g.D.Disk old s → ¬ ((root_of old).number + 1 < 2 ^ 64) → s.contents.number ≡ last_number
  last_is honest s at most =
      let tree = (at.sound c.requires.works).tree in
      let fits = (tree.each (g.D.Disk.seen (disk_of old)) (g.met.D.Disk.seen_may (disk_of old) honest)).laid_out.store.0.1.here.rules.numbers.fits in
      omega (arith, fits, most, at.number)

  -- the version in the root
  version_at : (v : Version) (s : State) → IsInState g.D.Disk old s → (root_of old).version ≡ v → s.contents.version ≡ number_of v
  version_at v s at is = sym at.version ∙ ap number_of is

  old_at : (s : State) → IsInState g.D.Disk old s → MayUpgrade room (root_of old) → IsOld s (has_room room (root_of old))
  old_at s at may = record { version = version_at One s at may.old; fits = room_is room (root_of old) may.room }

  stays_at : (s : State) → IsInState g.D.Disk old s → Stays s s
  stays_at s at = record { working = is_working g.D.Disk old c.requires.works s at; same = refl }

  -- the refusals other than Device
  answers_not : (r : Refusal) → r ≢ Device → UpgradesNot room (root_of old) r
      → (IsTrue (may_refuse_upgrade r) × (r ≢ Failed)) × (g.D.Disk.honest (disk_of old) → (s : State) → IsInState g.D.Disk old s → AnswersNot (has_room room (root_of old)) s r s)
  answers_not NotOld other why = ((refl, λ is. cc), λ h s at. (stays_at s at, version_at Two s at why))
  answers_not TooSmall other why = ((refl, λ is. cc), λ h s at. (stays_at s at, version_at One s at why.0, no_room_is room (root_of old) why.1))
  answers_not Worn other why = (
    (refl, λ is. cc),
    λ h s at. (record { stays = stays_at s at; worn = last_is h s at why.2 }, record { version = version_at One s at why.0; fits = room_is room (root_of old) why.1 }),
  )
  answers_not NoMemory other why = ((refl, λ is. cc), λ h s at. stays_at s at)
  answers_not Device other why = absurd (other refl)
  answers_not r other why = absurd why

  -- the same disk and the same root
  as_old : (P : ℕ → RootValue → Type 0) → P (g.D.Disk.size (disk_of mid)) (root_of mid) → P room (root_of old)
  as_old P is = let gave = c.abandon.ensures.no_call in subst (λ (d : _). P (g.D.Disk.size d) (root_of old)) gave.disk (subst (P (g.D.Disk.size (disk_of mid))) gave.root is)

  nothing : CommitsNothing {T = Unit {0}} g.D.Disk old mid (Ok tt)
  nothing = in_memory g.D.Disk old mid (Ok tt) g.met.D.Disk.only_now c.abandon.ensures.no_call c.requires.works c.abandon.ensures.at (λ device. never_refused tt Device device)

  abbrev Was : State → Type 0
  Was s = IsInState g.D.Disk old s

  -- The upgrade is refused, and nothing was done.
  refuses : (r : Refusal) → r ≢ Device → UpgradesNot (g.D.Disk.size (disk_of mid)) (root_of mid) r → new ≡ mid → IsUpgraded g.D.Disk (Err r) old new
  refuses r other refused same =
      let gave = c.abandon.ensures in
      let why = answers_not r other (as_old (λ n root. UpgradesNot n root r) refused) in
      subst (λ (tree : Tree _ g.D.Disk). IsUpgraded g.D.Disk (Err r) old tree) (sym same)
      (ended.quiet g.D.Disk ending old mid c.requires.works Was (λ s at. at) (Ok tt) nothing (gave.no_call.failed ∙ c.requires.works)
      (λ honest s at.
      let sound = at.sound c.requires.works in
      let was = subst g.D.Disk.honest gave.no_call.disk honest in
      (gave.committed was sound.stored sound.tree, gave.undeclared was sound.stored sound.tree))
      (Err r) (ended.other_refusal r other) why.0 tt (ap g.D.Disk.writes gave.no_call.disk) (λ honest s at. why.1 (subst g.D.Disk.honest gave.no_call.disk honest) s at))

  -- ---- the commit
  commits : Commits g.D.Disk upgraded_store old new c.upgrade.result
  commits =
      let does = c.upgrade.ensures in
      commits_after g.D.Disk upgraded_store old mid new tt c.upgrade.result nothing
      (record {
        returns = does.returns;
        side = does.side;
        capacity = does.capacity;
        number = does.number;
        last_known = does.last_known;
        clean = does.clean;
        declared = ok_where c.upgrade.result (does.sinks ∙ c.abandon.ensures.sinks ∙ sym does.declared);
        at = does.at;
        run = does.any_moment;
      })

  abbrev made : State → Contents
  made s = upgraded s.contents

  holds : g.D.Disk.honest (disk_of new) → (s : State) → (at : IsInState g.D.Disk old s) → Holds (root_of old).side (root_of old).capacity (upgraded_store (at.sound c.requires.works).stored) (upgraded s.contents)
  holds h s at = upgraded_holds (root_of old).side (root_of old).capacity (at.sound c.requires.works).stored s.contents (at.sound c.requires.works).holds

  number_at : MayUpgrade room (root_of old) → (s : State) → IsInState g.D.Disk old s → s.contents.number < last_number
  number_at may s at = omega (arith, may.number, at.number)

  -- the case of a failed disk
  fails : MayUpgrade (g.D.Disk.size (disk_of mid)) (root_of mid) → c.upgrade.result ≡ Err Device → IsUpgraded g.D.Disk (Err Device) old new
  fails allowed is =
      let may : MayUpgrade room (root_of old) = as_old MayUpgrade allowed in
      ended.fails_in_commit g.D.Disk ending old new c.requires.works Was (λ s at. at) made upgraded_store holds (λ s. if_numbered s.contents (Some (upgraded s.contents)))
      (λ h s at. ended.is_doubted s.contents (upgraded s.contents) (number_at may s at)) refl (λ s at. (old_at s at may, record { working = is_working g.D.Disk old c.requires.works s at; fails = refl }))
      (subst (λ (result : Result (Unit {0}) Refusal). Commits g.D.Disk upgraded_store old new result) is commits)

pub returns-in_err-upgrade-clause-upgraded : goal.returns-in_err-upgrade-clause-upgraded
returns-in_err-upgrade-clause-upgraded g c =
    let after = (goal.at.returns-in_err-upgrade-clause-upgraded g c).After-upgrade in
    let r : Refusal = c.in_err-upgrade.field-0.0 in
    let does = c.in_err-upgrade.ensures in
    subst (λ (result : Result (Unit {0}) Refusal). IsUpgraded g.D.Disk result c.args.tree.now c.upgrade.new.self) (sym (refused_as c.from_residual.result r c.from_residual.ensures.1))
    (⊎_elim
    (λ device.
    subst (λ (x : Refusal). IsUpgraded g.D.Disk (Err x) c.args.tree.now c.upgrade.new.self) (sym device)
    (fails g after (subst (UpgradesNot (g.D.Disk.size (disk_of c.abandon.new.self)) (root_of c.abandon.new.self)) device does.refused) (c.in_err-upgrade.was ∙ ap (λ (x : Refusal). Err x) device)))
    (λ other. refuses g after r other does.refused (does.unchanged other))
    (device_or_not r))

pub returns-clause-upgraded : goal.returns-clause-upgraded
returns-clause-upgraded g c =
    let after = (goal.at.returns-clause-upgraded g c).After-upgrade in
    let d = g.D.Disk in
    let gave = c.abandon.ensures in
    let does = c.in_ok-upgrade.ensures in
    let tree = c.args.tree.now in
    let may : MayUpgrade (d.size (disk_of tree)) (root_of tree) = as_old g after MayUpgrade does.allowed in
    let done = subst (λ (result : Result (Unit {0}) Refusal). Commits d upgraded_store tree c.upgrade.new.self result) c.in_ok-upgrade.was (commits g after) in
    ended.commits_it d (ending g after) tree c.upgrade.new.self c.requires.works (λ s. IsInState d tree s) (λ s at. at) (λ s. upgraded s.contents) upgraded_store (holds g after) tt done
    (record { version = does.version; count = c.upgrade.ensures.count ∙ ap (λ (r : RootValue). r.count) gave.no_call.root; number = done.number }) refl (g.met.D.Disk.seen_may (disk_of c.upgrade.new.self))
    (λ h s at. (old_at g after s at may, ended.commits_made d (ending g after) tree c.upgrade.new.self c.requires.works (λ z. IsInState d tree z) (λ z is. is) (λ z. upgraded z.contents) s at (number_at g after may s at)))
