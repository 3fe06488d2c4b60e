-- The state after a query, from the tree before and after its reads.
use Rattle.stored_mosaic.proofs.Prelude.{Bool, Device, Err, Failed, Fails, Ghosts, HasOnlyRead, HasRisen, IfErr, Image, IsClean, IsErrOf, IsInState, IsMosaic, IsQueried, IsReadable, List, MayRefuse, None, Ok, OnErr, OnOk, Point, Refusal, Result, State, Stays, StaysFailed, StoredTile, Tree, ℕ, ap, disk_of, failing, false, has_failed, mosaic_of, mosaic_of_tiles, never_refused, refl, root_of, staged_in, subst, sym, true, true≢false, ◌∙◌, ◌≡◌, ◌≢◌}
use Rattle.cow_tree.proofs.Clean.{still_clean as clean_still}
use Rattle.cow_tree.proofs.TreeReads.{still_readable as readable_still}
use Rattle.stored_mosaic.proofs.Reading.HeldTiles.{AreTilesOf, whole_filled}
use Rattle.stored_mosaic.proofs.Reading.Holding.{held}
use Rattle.stored_mosaic.proofs.Reading.InMemory.{is_working}
use Rattle.stored_mosaic.proofs.Calls.States.{stays_in, reads_fail}

-- ---- the samples of a tree in a state are those of the state's mosaic

module _ {D : Type 0} (g : Ghosts D) (tree : Tree D g) (works : has_failed tree ≡ false) (s : State) (at : IsInState g tree s) where
  pub tiles_at : AreTilesOf (root_of tree).side (staged_in g tree) s.contents.mosaic
  tiles_at =
      let sound = at.sound works in
      subst (λ (tiles : List StoredTile). AreTilesOf (root_of tree).side tiles s.contents.mosaic) (sym sound.nothing_staged)
      (held (root_of tree).side (root_of tree).capacity sound.stored s.contents sound.holds)

  pub valid_at : IsMosaic s.contents.mosaic
  valid_at = (at.sound works).holds.valid

  pub mosaic_at : mosaic_of g tree ≡ s.contents.mosaic
  mosaic_at = ap (λ (sinks : List Point). mosaic_of_tiles (root_of tree).side sinks (staged_in g tree)) ((at.sound works).none_declared ∙ (at.sound works).holds.sinks) ∙ sym tiles_at.mosaic

  pub readable_at : g.honest (disk_of tree) → IsReadable g tree
  readable_at honest = record {
    honest = honest;
    pages = whole_filled (root_of tree).side (staged_in g tree) tiles_at.filled;
    valid = subst IsMosaic (sym mosaic_at) valid_at;
  }

  pub stays_at : Stays s s
  stays_at = record { working = is_working g tree works s at; same = refl }

-- ---- a store that failed before

module _ {D : Type 0} (g : Ghosts D) (tree : Tree D g) (fails : has_failed tree ≡ true) where
  pub stays_failed_at : (s : State) → IsInState g tree s → StaysFailed s s
  stays_failed_at s at = record { failed = sym at.failed_is ∙ fails; same = refl }

-- ---- reads

-- If a read of the disk was refused, the count of failures has risen.
pub risen_for : {T : Type 0} (result : Result T Refusal) (before now : ℕ) → IfErr result (MayRefuse before now) → IsErrOf result Device → HasRisen before now
risen_for {T} result before now reads is = subst (λ (r : Result T Refusal). IfErr r (MayRefuse before now)) is reads

pub true_where : (b : Bool) → ¬ (b ≡ false) → b ≡ true
true_where true none = refl
true_where false none = absurd (none refl)

module _ {D : Type 0} (g : Ghosts D) (old new : Tree D g) (works : has_failed old ≡ false) (keeps : HasOnlyRead g old new) where
  pub queried : {T : Type 0} (result : Result T Refusal) → (IsErrOf result Device → HasRisen (g.failures (disk_of old)) (g.failures (disk_of new))) → OnOk result (has_failed new ≡ false)
      → (IsErrOf result Device → ¬ (has_failed new ≡ false)) → IfErr result (λ r. r ≢ Device → (r ≢ Failed) × (has_failed new ≡ false)) → IsQueried g old new result
  queried result device still fails quiet = record {
    returns = record { size = keeps.size; later = keeps.later; device = device; works = still; fails = λ is. true_where (has_failed new) (fails is); honest = keeps.honest };
    writes = keeps.writes;
    root = keeps.root;
    quiet = λ _. quiet;
    still_failed = λ fails. absurd (true≢false (sym fails ∙ works));
    failed = λ fails. absurd (true≢false (sym fails ∙ works));
    nothing = keeps.nothing;
  }

  -- a query whose only refusal of a read is Device
  pub queried_by_disk : {T : Type 0} (result : Result T Refusal) → (IsErrOf result Device → HasRisen (g.failures (disk_of old)) (g.failures (disk_of new))) → OnOk result (has_failed new ≡ false)
      → OnErr result (¬ (has_failed new ≡ false)) → IfErr result (λ r. r ≡ Device) → IsQueried g old new result
  queried_by_disk (Ok x) risen still fails only = queried (Ok x) risen still (λ is. absurd (never_refused x Device is)) tt
  queried_by_disk (Err r) risen still fails only = queried (Err r) risen tt (λ _. fails) (λ other. absurd (other only))

  -- Nothing is staged afterwards.
  pub still_clean : (has_failed old ≡ false → IsClean old) → has_failed new ≡ false → IsClean new
  still_clean clean _ = clean_still old new keeps.page_map (clean works)

  module _ (honest : g.honest (disk_of new)) (s : State) (at : IsInState g old s) where
    none_new : (image : Image) → g.may (disk_of new) image → g.may (disk_of old) image
    none_new = (keeps.nothing honest).run.now

    -- If no read was refused, the state stays.
    pub still_at : has_failed new ≡ false → IsInState g new s
    still_at still =
        let sound = at.sound works in
        stays_in g old new keeps.root keeps.size s at still (is_working g old works s at) (λ image may. at.images image (none_new image may)) sound
        (keeps.at honest sound.stored sound.tree still) (keeps.staged honest ∙ sound.nothing_staged) (keeps.sinks ∙ sound.none_declared)

    -- If a read was refused, the store has failed.
    pub failing_at : has_failed new ≡ true → IsInState g new (failing s None)
    failing_at fails = reads_fail g old new keeps.root keeps.size s at fails (at.sound works).no_doubt none_new

    pub fails_so : Fails s None (failing s None)
    fails_so = record { working = is_working g old works s at; fails = refl }

    pub still_readable : IsReadable g new
    still_readable = readable_still g old new keeps honest (readable_at g old works s at (keeps.honest honest))
