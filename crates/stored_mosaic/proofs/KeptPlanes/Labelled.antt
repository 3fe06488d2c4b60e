-- That kept labellings are right if the tree is known to be right (`IsSure`). Also: reads of the tree one after another.
use Rattle.std.proofs.Common.{rules}
use Rattle.std.proofs.Common.{◌≡◌, ◌≢◌, ◌⊎◌, inl, inr, ℕ, ℤ, ◌≤ℤ◌, false, true, List, Contains, Option, Some, None, Result, Ok, Err, refl, sym, ap, ◌∙◌, subst, true≢false, arith, IsOk, IfOk, IfErr, IfSome, IsErrOf, IsErrAnd, OnOk, OnErr, option_map, slice_index, slice_index_or}
use Rattle.stored_mosaic.proofs.Prelude.{All-contains, AreRight, Corner, Damaged, Device, Failed, Ghosts, HasOnlyRead, HasPlane, HasRisen, Image, IsFlooded, IsInState, IsLabelling, IsMosaic, IsTileOf, KeepRight, KeptPlanes, MayRefuse, Mosaic, NoMemory, Reads, Refusal, State, StoredTile, TileLocation, Tree, contains-map, disk_of, has_failed, mosaic_of, read_again, read_nothing, reads_of, refused_as, root_of, sinks_of, staged_in, void}
use Rattle.page_map.specs.declared.locations.KeptLocations.{KeptLocations}
use Rattle.page_map.specs.Locations.{PlaneLocation}
use Rattle.page_map.specs.declared.plane.Plane.TheVariants.{Levels}
use Rattle.tile_labellings.specs.Spots.{IsLabelledAt, StandsAt}
use Rattle.labelling.specs.Blocks.{LabelledGround}
use Rattle.tile_flood.specs.Kept.{AreKeptOf, labels_in, levels_in}
use Rattle.labelling.proofs.Heights.{lowest_height}
use Rattle.cow_tree.specs.Layout.{tile_in, kept_in}
use Rattle.cow_tree.proofs.TreeReads.{same_mosaic, was_readable}
use Rattle.stored_mosaic.specs.Labelling.{IsSure, Consults}
use Rattle.stored_mosaic.proofs.Reading.Finding.{rising_staged}
use Rattle.stored_mosaic.proofs.Reading.Querying.{mosaic_at, readable_at, still_readable}
use Rattle.stored_mosaic.proofs.Reading.QueryingPages.{one_tile}

-- ---- when the tree is known to be right

module _ {D : Type 0} (g : Ghosts D) where
  -- If the tree is known to be right after reads, it was before.
  pub was_sure : (old new : Tree D g) → HasOnlyRead g old new → IsSure g new → IsSure g old
  was_sure old new keeps sure = record {
    readable = was_readable g old new keeps sure.readable;
    kept = subst (λ (ts : List StoredTile). KeepRight (mosaic_of g old) ts) (keeps.staged sure.readable.honest)
        (subst (λ (m : Mosaic). KeepRight m (staged_in g new)) (same_mosaic g old new keeps sure.readable.honest) sure.kept);
  }

  module _ (tree : Tree D g) (works : has_failed tree ≡ false) (s : State) (at : IsInState g tree s) where
    -- A tree in a state is known to be right.
    pub sure_at : g.honest (disk_of tree) → IsSure g tree
    sure_at honest = record {
      readable = readable_at g tree works s at honest;
      kept = subst (λ (m : Mosaic). KeepRight m (staged_in g tree)) (sym (mosaic_at g tree works s at))
          (subst (λ (ts : List StoredTile). KeepRight s.contents.mosaic ts) (sym (at.sound works).nothing_staged) (at.sound works).holds.kept);
    }

  -- It still is after reads.
  pub still_sure : (old new : Tree D g) (works : has_failed old ≡ false) (keeps : HasOnlyRead g old new) → g.honest (disk_of new) → (s : State) → IsInState g old s → IsSure g new
  still_sure old new works keeps honest s at =
      let was = sure_at old works s at (keeps.honest honest) in
      record {
        readable = still_readable g old new works keeps honest s at;
        kept = subst (λ (ts : List StoredTile). KeepRight (mosaic_of g new) ts) (sym (keeps.staged honest))
            (subst (λ (m : Mosaic). KeepRight m (staged_in g old)) (sym (same_mosaic g old new keeps honest)) was.kept);
      }

-- ---- the tile whose planes are kept

-- the corner's only tile, with its kept planes
pub record KeepsThere {D : Type 0} (g : Ghosts D) (tree : Tree D g) (c : Corner) : Type 0 where
  pub tile : StoredTile
  pub kept : KeptPlanes
  pub is : IsTileOf (staged_in g tree) c tile
  pub keeps : tile.kept ≡ Some kept
  pub right : AreRight (mosaic_of g tree) c kept

right_there : (m : Mosaic) (c : Corner) (t : StoredTile) (kept : KeptPlanes) → t.kept ≡ Some kept → IfSome t.kept (AreRight m c) → AreRight m c kept
right_there m c t kept is right = subst (λ (o : Option KeptPlanes). IfSome o (AreRight m c)) is right

kept_at : (o : Option KeptLocations) (p : PlaneLocation) → option_map (λ (k : KeptLocations). k.levels) o ≡ Some p → (k : KeptLocations) × (o ≡ Some k)
kept_at None p is = cc
kept_at (Some k) p is = (k, refl)

pub keeps_there : {D : Type 0} (g : Ghosts D) (tree : Tree D g) (c : Corner) → HasPlane tree.page_map.staged c Levels → IsSure g tree → KeepsThere g tree c
keeps_there g tree c held sure =
    let image = g.seen tree.roots.disk in
    let place : TileLocation = held.1.0 in
    let tile : StoredTile = tile_in image place in
    let there : Contains (staged_in g tree) tile = contains-map (tile_in image) tree.page_map.staged place held.1.1.0 in
    let corner : tile.corner ≡ c = held.1.1.1.0 in
    let has = ap (kept_in image) (kept_at place.kept held.0 held.1.1.1.1).1 in
    let right = All-contains (λ (t : StoredTile). IfSome t.kept (AreRight (mosaic_of g tree) t.corner)) (staged_in g tree) tile sure.kept there in
    record {
      tile = tile;
      kept = _;
      is = record {
        there = there;
        corner = corner;
        only = λ other has same. one_tile (staged_in g tree) tile other (rising_staged (root_of tree).side (sinks_of tree) (staged_in g tree) sure.readable.valid) there has (same ∙ sym corner);
      };
      keeps = has;
      right = right_there (mosaic_of g tree) c tile _ has (subst (λ (d : Corner). IfSome tile.kept (AreRight (mosaic_of g tree) d)) corner right);
    }

-- ---- the labelling in the kept bytes

module _ (m : Mosaic) (c : Corner) (levels labels : List ℕ) (kept : AreKeptOf m c levels labels) where
  flooded_as_kept : (labelled : LabelledGround) → labelled.side ≡ m.side → labelled.levels ≡ levels_in levels → labelled.labels ≡ labels_in labels → IsFlooded m c labelled
  flooded_as_kept labelled side are_levels are_labels = record {
    side = side;
    valid = (
      kept.block,
      (
        kept.ground,
        subst (λ (ls : List ℤ). IsLabelling kept.block ls labelled.labels) (sym are_levels) (subst (λ (ks : List ℕ). IsLabelling kept.block (levels_in levels) ks) (sym are_labels) kept.labelling),
      ),
    );
  }

  pub flooded_by_bytes : (result : Result LabelledGround Refusal) → IfOk result (λ l. l.side ≡ m.side) → IfOk result (λ l. l.levels ≡ levels_in levels) → IfOk result (λ l. l.labels ≡ labels_in labels)
      → IfOk result (IsFlooded m c)
  flooded_by_bytes (Ok labelled) side are_levels are_labels = flooded_as_kept labelled side are_levels are_labels
  flooded_by_bytes (Err r) side are_levels are_labels = tt

  -- the level and label of one point in the kept bytes
  pub labelled_by_bytes : (e : ℕ) (level label : List ℕ) → StandsAt levels e level → StandsAt labels e label → (result : Result (ℤ × ℕ) Refusal)
      → IfOk result (λ s. (bytes : List ℕ) (z : ℕ) → StandsAt bytes z level → slice_index_or (levels_in bytes) z void ≡ s.0)
      → IfOk result (λ s. (bytes : List ℕ) (z : ℕ) → StandsAt bytes z label → slice_index (labels_in bytes) z ≡ s.1) → IfOk result (λ s. IsLabelledAt m c e s.0 s.1)
  labelled_by_bytes e level label at_level at_label (Ok s) is_level is_label =
      (record { side = m.side; levels = levels_in levels; labels = labels_in labels }, (flooded_as_kept _ refl refl refl, (sym (is_level levels e at_level), sym (is_label labels e at_label))))
  labelled_by_bytes e level label at_level at_label (Err r) is_level is_label = tt

  pub least_height : IsMosaic m → (e : ℕ) → void ≤ℤ slice_index_or kept.block.heights e void
  least_height is = lowest_height m is c kept.block.heights kept.ground.heights

-- ---- reads one after another

-- a refusal of a read
pub may_refuse : (before now : ℕ) (read : Result (Unit {0}) Refusal) → IfErr read (λ why. (why ≡ Device) ⊎ (why ≡ Failed)) → (IsErrOf read Device → HasRisen before now) → IfErr read (MayRefuse before now)
may_refuse before now (Ok u) refused device = tt
may_refuse before now (Err r) (inl is) device = subst (MayRefuse before now) (sym is) (device (ap (λ (x : Refusal). Err x) is))
may_refuse before now (Err r) (inr is) device = subst (MayRefuse before now) (sym is) tt

pub not_ready : (read : Result (Unit {0}) Refusal) {D : Type 0} {g : Ghosts D} (tree : Tree D g) → OnErr read (has_failed tree ≡ true) → OnErr read (¬ (has_failed tree ≡ false))
not_ready (Ok u) tree failed = tt
not_ready (Err r) tree failed = λ works. true≢false (sym failed ∙ works)

module _ {D : Type 0} (g : Ghosts D) where
  -- A tree that had failed isn't read.
  pub failed_before : {T : Type 0} → ((disk : D) (image : Image) → g.honest disk → g.since disk (g.moment disk) image → g.may disk image) → (tree : Tree D g) → has_failed tree ≡ true → Consults {T = T} g tree tree (Err Failed)
  failed_before only_now tree fails = record {
    read = Err Failed;
    reads = record {
      keeps = read_nothing g only_now tree;
      refused = inr refl;
      device = λ e. absurd (cc);
      only_device = λ works. absurd (true≢false (sym fails ∙ works));
      not_failed = tt;
      failed = fails;
    };
    passed = refl;
    own = λ e. absurd (cc);
  }

  -- After an answer the tree hasn't failed.
  pub answered_works : {T : Type 0} (old new : Tree D g) (x : T) → Consults g old new (Ok x) → has_failed new ≡ false
  answered_works {T} old new x h = by h.read h.reads.not_failed h.passed
    where
      by : (read : Result (Unit {0}) Refusal) → OnOk read (has_failed new ≡ false) → IfErr read (λ r. ◌≡◌ {A = Result T Refusal} (Ok x) (Err r)) → has_failed new ≡ false
      by (Ok u) works passed = works
      by (Err r) works passed = absurd (cc)

  -- Reads were made, and none was refused.
  pub read_so_far : (old new : Tree D g) → HasOnlyRead g old new → has_failed new ≡ false → Reads {T = Unit {0}} g old new (Ok tt)
  read_so_far old new keeps works = search rules

  pub reads_then : {T : Type 0} (a b c : Tree D g) (result : Result T Refusal) → Reads {T = Unit {0}} g a b (Ok tt) → Reads g b c result → Reads g a c result
  reads_then a b c result first second = record {
    keeps = read_again g a b c first.keeps second.keeps;
    refused = second.refused;
    device = λ is. let risen = second.device is in let later = first.keeps.later in omega (arith, risen, later);
    only_device = λ _. second.only_device first.not_failed;
    not_failed = second.not_failed;
    failed = second.failed;
  }

  -- A caller passes on the refusal of a read, which is Device.
  pub reads_refused : {T : Type 0} (a b : Tree D g) (result : Result T Refusal) (r : Refusal) → IsErrAnd result (λ why. why ≡ r) → r ≡ Device → Reads {T = Unit {0}} g a b (Err r) → Reads g a b (reads_of result)
  reads_refused a b result r ended device read = rw (refused_as result r ended ∙ ap (λ (x : Refusal). Err x) device) (subst (λ (x : Refusal). Reads {T = Unit {0}} g a b (Err x)) device read)

-- The call was answered, so the tree isn't Damaged.
pub answered_whole : {T : Type 0} (result : Result T Refusal) → IsOk result → result ≢ Err Damaged
answered_whole (Ok x) ok e = absurd (cc)
answered_whole (Err r) ok e = absurd (cc)

-- The only refusal is NoMemory, so the tree isn't Damaged.
pub not_damaged : {T : Type 0} (result : Result T Refusal) → IfErr result (λ r. r ≡ NoMemory) → result ≢ Err Damaged
not_damaged (Ok x) h e = absurd (cc)
not_damaged (Err r) h e = absurd (cc)
