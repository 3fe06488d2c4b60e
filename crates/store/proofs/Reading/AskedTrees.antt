-- What a question about water changes in a store's tree, and what it answers: one call reads the tree as samples.
use Rattle.std.proofs.Common.{◌≡◌, ◌↔◌, ℕ, ◌≤◌, false, List, length, map, refl, sym, ap, ◌∙◌, subst, arith, ◌≢◌, ℤ, IsTrue, Result, Ok, Err, None, IsOk, IfErr, OnOk, OnErr, MatchResult, Vec, Global, IfOk, IsErrOf, IsErrAnd, Contains}
use Rattle.store.proofs.Prelude.{Corner, Device, DrainageCache, EntryValue, Event, Failed, Ghosts, HasOnlyRead, HasRisen, IsCall, IsHeldOf, IsInState, IsQueried, IsQuestion, IsRoot, IsSure, MayRefuse, NoTile, Outside, Point, Refusal, Reply, RootValue, State, Store, Tree, Void, answered, capacity_of, ends_any, failing, height_of, items_in, length-map, members, mosaic_of, refused_as, same_mosaic}
use Rattle.lattice.specs.Mosaic.{Mosaic, is_present, samples_of}
use Rattle.catalogue.specs.Tiles.{corners_of}
use Rattle.cow_tree.specs.Trees.{disk_of, root_of, has_failed, corners_of as corners_under}
use Rattle.levels.specs.Asking.{IsHeldByNone, may_refuse}
use Rattle.stored_mosaic.proofs.Reading.InMemory.{corners_are}
use Rattle.store.specs.Water.{IsHolding, IsAskedOf}
use Rattle.stored_mosaic.proofs.Reading.Querying.{mosaic_at, true_where, still_at, failing_at, valid_at, stays_at, queried, fails_so, still_clean}
use Rattle.store.proofs.Reading.QueryingHeld.{right_at}
use Rattle.std.proofs.lemmas.Result.{on_ok_weaker, on_err_weaker, IfErr-weaker}
use Rattle.lattice.specs.Ground.{is_ground, terrain}
use Rattle.lattice.specs.declared.height.Height.TheVariants as height
use Rattle.catalogue.specs.Asked.{Asked}
use Rattle.catalogue.specs.declared.samples.Samples.{Ghosts as Samples}
use Rattle.catalogue.proofs.Asking.{asked_risen, asked_works, asked_fails, asked_quiet}
use Rattle.water.specs.Drainage.{AreFilledLevels}
use Rattle.water.specs.Questions.{IsAnswered, IsUnanswered}
use Rattle.engine.specs.Told.{may_refuse as event_may_refuse}
use Rattle.engine.specs.Outcomes.{Stays, Fails, TellsTile}
use Rattle.drainage.proofs.Questions.Answered.{told, told_or_short}
use Rattle.stored_mosaic.proofs.KeptPlanes.Labelled.{still_sure}
use Rattle.catalogue.proofs.Presence.{present_iff}
use Rattle.engine.proofs.Answered.{tells}
use Rattle.stored_mosaic.proofs.Reading.QueryingPages.{no_tile_of}
use Rattle.store.proofs.Calls.StoreCalls.{HasOnlyNow, asked, refused_it}

-- an answer with a vector, as one with the vector's list
pub listed : {X A : Type 0} (Answers : Result (List X) Refusal → Type 0) (result : Result (Vec X A) Refusal) → MatchResult result (λ xs. Answers (Ok xs.items)) (λ r. Answers (Err r)) → Answers (items_in result)
listed Answers (Ok xs) is = is
listed Answers (Err r) is = is

module _ {D : Type 0} (g : Ghosts D) (old new : Tree D g) (works : has_failed old ≡ false) (keeps : HasOnlyRead g old new) (honest : g.honest (disk_of new)) (s : State) (at : IsInState g old s) where
  abbrev here : Mosaic
  here = s.contents.mosaic

  -- What is true of the mosaic that was read is true of the state's mosaic.
  pub of_here : (P : Mosaic → Type 0) → P (mosaic_of g old) → P here
  of_here P = subst P (mosaic_at g old works s at)

  pub held_here : (T : Type 0) (p : Point) → (T ↔ IsHeldByNone (root_of old).side (corners_under old) p) → (T ↔ IsHeldByNone here.side (corners_of here) p)
  held_here T p is =
      subst (λ (n : ℕ). T ↔ IsHeldByNone n (corners_of here) p) (sym (at.sound works).holds.side_is)
      (subst (λ (cs : List Corner). T ↔ IsHeldByNone (root_of old).side cs p) (corners_are g old works s at) is)

  -- The cache after the question is right for the state's mosaic.
  pub right_here : (held : DrainageCache) → IsHeldOf (mosaic_of g new) held → IsHeldOf here held
  right_here held = subst (λ (m : Mosaic). IsHeldOf m held) (same_mosaic g old new keeps honest ∙ mosaic_at g old works s at)

  -- the answer of a question whose reads are refused only with Device
  pub read_answered : {T : Type 0} (held : DrainageCache) → IsHeldOf here held → (Answers : State → Result T Refusal → State → Type 0) (result : Result T Refusal) (read : Result (Unit {0}) Refusal) → IfErr read (λ r. result ≡ Err r)
      → OnOk read (has_failed new ≡ false) → OnErr read (¬ (has_failed new ≡ false)) → IfErr read (λ r. r ≡ Device)
      → Answers s (Err Device) (failing s None) → (IsOk read → Answers s result s)
      → (t : State) × (IsHolding g new held t × Answers s result t)
  read_answered held right Answers result (Ok u) passed still fails device refused ok = (s, (record { in_state = still_at g old new works keeps honest s at still; right = right }, ok refl))
  read_answered {T} held right Answers result (Err r) passed still fails device refused ok =
      let is : result ≡ Err Device = passed ∙ ap (λ (why : Refusal). Err why) device in (
        failing s None,
        (
          record { in_state = failing_at g old new works keeps honest s at (true_where (has_failed new) fails); right = right },
          subst (λ (answer : Result T Refusal). Answers s answer (failing s None)) (sym is) refused,
        ),
      )

-- What is true for every function that gives the filled levels is an answer.
pub of_levels : {T : Type 0} (m : Mosaic) (p : Point) (Says : T → (Point → ℤ) → Type 0) (result : Result T Refusal) → IfOk result (λ x. (level : Point → ℤ) → AreFilledLevels (terrain m) level → Says x level)
    → (IsOk result → IsTrue (is_ground m p)) → IfOk result (λ x. IsAnswered m p (Says x))
of_levels m p Says (Ok x) found on = record { on_ground = on refl; says = found }
of_levels m p Says (Err r) found on = tt

-- The samples before and after a call are those of a tree.
pub record AreOfTree {S D : Type 0} (h : Samples S) (a b : S) (g : Ghosts D) (old new : Tree D g) : Type 0 where
  pub ready : h.is_ready a
  pub works : h.is_ready b ↔ (has_failed new ≡ false)
  pub risen : MayRefuse (h.failures a) (h.failures b) Device → HasRisen (g.failures (disk_of old)) (g.failures (disk_of new))
  pub keeps : HasOnlyRead g old new

module _ {D S T : Type 0} (g : Ghosts D) (old new : Tree D g) (works : has_failed old ≡ false) (h : Samples S) (a b : S) (result : Result T Refusal) (asked : Asked h a b result) (are : AreOfTree h a b g old new) where
  asked_queried : IsQueried g old new result
  asked_queried =
      queried g old new works are.keeps result (λ is. are.risen (asked_risen h a b result asked is)) (on_ok_weaker result are.works.0 (asked_works h a b result asked are.ready))
      (λ is still. asked_fails h a b result asked is (are.works.1 still))
      (IfErr-weaker result (λ r. r ≢ Device → (r ≢ Failed) × h.is_ready b) (λ r. r ≢ Device → (r ≢ Failed) × (has_failed new ≡ false)) (λ r quiet other. ((quiet other).0, are.works.0 (quiet other).1))
      (asked_quiet h a b result asked are.ready))

  -- the case of a cache that was right before the call
  module _ (before held : DrainageCache) (right : h.is_honest b → IsHeldOf (mosaic_of g new) held) (Answers : State → Result T Refusal → State → Type 0) (refused : (s t : State) → Fails s None t → Answers s (Err Device) t)
      (answers : h.is_honest b → g.honest (disk_of new) → (s : State) → IsInState g old s → IsOk asked.read → Answers s result s) (premise : Type 0) (sure : premise → IsSure g new → h.is_honest b) where
    pub of_tree : IsAskedOf g premise old new before held result Answers
    of_tree = record {
      reads = asked_queried;
      clean = λ still clean. still_clean g old new works are.keeps (λ _. clean) still;
      outcome = λ holds honest s at.
          let keeps = are.keeps in
          let here = at.in_state in
          let is_honest = sure holds (still_sure g old new works keeps honest s here) in
          read_answered g old new works keeps honest s here held (right_here g old new works keeps honest s here held (right is_honest)) Answers result asked.read asked.passed
          (on_ok_weaker asked.read are.works.0 (asked.reads.ready are.ready)) (on_err_weaker asked.read (λ never still. never (are.works.1 still)) asked.reads.unready) (asked.reads.only_device are.ready)
          (refused s (failing s None) (fails_so g old new works keeps honest s here)) (answers is_honest honest s here);
    }

  -- the answer, by what the call says about the mosaic that was read
  module _ (point : Point) (Says : Mosaic → T → Type 0) (found : h.is_honest b → IfOk result (Says (mosaic_of g old))) (outside : IsErrOf result Outside ↔ IsHeldByNone (root_of old).side (corners_under old) point)
      (void : h.is_honest b → IsErrOf result Void → height_of (mosaic_of g old) point ≡ height.Void) (may : IfErr result (λ r. IsTrue (may_refuse r)))
      (before held : DrainageCache) (right : h.is_honest b → IsHeldOf (mosaic_of g new) held) (Answers : State → Result T Refusal → State → Type 0) (refused : (s t : State) → Fails s None t → Answers s (Err Device) t)
      (answered : (s : State) → Stays s s → MatchResult result (Says s.contents.mosaic) (IsUnanswered s.contents.mosaic point) → Answers s result s) where
    pub asked_of : (premise : Type 0) → (premise → IsSure g new → h.is_honest b) → IsAskedOf g premise old new before held result Answers
    asked_of = of_tree before held right Answers refused
        (λ is_honest honest s here unread.
        answered s (stays_at g old works s here) (told s.contents.mosaic (valid_at g old works s here) point (Says s.contents.mosaic) result (asked.own unread) (asked.sound is_honest are.ready)
        (of_here g old new works are.keeps honest s here (λ (m : Mosaic). IfOk result (Says m)) (found is_honest))
        (held_here g old new works are.keeps honest s here (IsErrOf result Outside) point outside)
        (of_here g old new works are.keeps honest s here (λ (m : Mosaic). IsErrOf result Void → height_of m point ≡ height.Void) (void is_honest)) may))

-- the answer of a question about a tile
module _ {D S X : Type 0} (g : Ghosts D) (old new : Tree D g) (works : has_failed old ≡ false) (h : Samples S) (a b : S) (result : Result (Vec X Global) Refusal) (asked : Asked h a b result) (are : AreOfTree h a b g old new)
    (c : Corner) (present : Contains (corners_under old) c) (Says : Mosaic → Corner → List X → Type 0) (found : h.is_honest b → IfOk result (λ values. Says (mosaic_of g old) c values.items)) (may : IfErr result (λ r. IsTrue (ends_any r)))
    (before held : DrainageCache) (right : h.is_honest b → IsHeldOf (mosaic_of g new) held) where
  pub tile_asked_of : (premise : Type 0) → (premise → IsSure g new → h.is_honest b) → IsAskedOf g premise old new before held result (λ s r t. TellsTile Says s c (items_in r) t)
  tile_asked_of = of_tree g old new works h a b result asked are before held right (λ s r t. TellsTile Says s c (items_in r) t) (λ s t fails. fails)
      (λ is_honest honest s here unread.
      let there : IsTrue (is_present s.contents.mosaic c) = (present_iff s.contents.mosaic c).1 (subst (λ (cs : List Corner). Contains cs c) (corners_are g old works s here) present) in
      tells Says s s (stays_at g old works s here) c there result (told_or_short (λ values. Says s.contents.mosaic c values.items) result (asked.own unread) (asked.sound is_honest are.ready)
      (of_here g old new works are.keeps honest s here (λ (m : Mosaic). IfOk result (λ values. Says m c values.items)) (found is_honest)) may))

-- a question about water as a call of a store that hasn't failed and whose cache is right
pub water_asked : {D T : Type 0} (g : Ghosts D) (old new : Store D g) {event : Event} {tell : T → Reply} {Answers : State → Result T Refusal → State → Type 0} (is : IsQuestion (capacity_of old) event tell Answers) (result : Result T Refusal)
    → IfErr result (λ r. IsTrue (event_may_refuse event r)) → has_failed old.tree ≡ false → IsAskedOf g (IsHeldOf (mosaic_of g old.tree) old.held) old.tree new.tree old.held new.held result Answers → IsCall (members g) old event (answered tell result) new
water_asked g old new is result causes works of_tree = asked g old new is result causes of_tree.reads (λ honest s at. of_tree.outcome (right_at g old.tree works s at.in_state old.held at.right) honest s at)

-- a question about a tile that isn't present
pub no_tile : {D T : Type 0} (g : Ghosts D) (only_now : HasOnlyNow g) (store : Store D g) {event : Event} {tell : T → Reply} {Answers : State → Result T Refusal → State → Type 0} (is : IsQuestion (capacity_of store) event tell Answers) → IsTrue (event_may_refuse event NoTile)
    → (c : Corner) → has_failed store.tree ≡ false → ((s : State) → Stays s s × (samples_of s.contents.mosaic c ≡ None) → Answers s (Err NoTile) s)
    → (result : Result T Refusal) (r : Refusal) → IsErrAnd result (λ why. why ≡ r) → (r ≡ NoTile) × (Contains (corners_under store.tree) c → ⊥) → IsCall (members g) store event (answered tell result) store
no_tile {D} {T} g only_now store {event} {tell} is may c works says result r refused (none, absent) =
    subst (λ (answer : Result T Refusal). IsCall (members g) store event (answered tell answer) store) (sym (refused_as result r refused ∙ ap (λ (why : Refusal). Err why) none))
    (refused_it g only_now store is works NoTile (λ e. cc) (λ e. cc) may (λ honest s at. says s (stays_at g store.tree works s at.in_state, no_tile_of g store.tree works s at.in_state c absent)))
