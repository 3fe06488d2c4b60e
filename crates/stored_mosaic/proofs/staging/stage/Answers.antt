use Rattle.stored_mosaic.proofs.Prelude.{AreTilesOf, AreVoidTiles, Contains, Corner, Device, Edit, FindsVoids, FitsIn, Ghosts, IsMade, IsTrue, KeepsBut, List, MakesPages, NewHeight, Ok, OnOk, OnlyNow, Patch, Point, Refusal, Result, StagesFew, StagesPages, Stored, StoredTile, Tree, ℕ, ℤ, and_parts, ap, arith, box_meets, edit_made, false, filled, heightened, in_memory, int_le, ints, keepers, le_true, length, length-map, mosaic_of, mosaic_of_tiles, negsuc, never_refused, on_ok, pages_met, pages_of, pages_of_bytes, pages_with, points_of, pos, refl, stale_tile, subst, sym, with_heights, ◌∙◌, ◌≡◌}
use mir.Syntax.{w16}
use mir.Val.{to_z, of_z}
use Rattle.stored_mosaic.proofs.Edits.VoidPages.{sample_passed}
use Rattle.lattice.specs.Mosaic.{Mosaic, AreSinks, IsMosaic, IsSample}
use Rattle.lattice.proofs.Rising.{rising_from}
use Rattle.edits.specs.declared.edit.Edit.TheVariants.{Add, Drop, Heights, Voids}
use Rattle.edits.specs.Effect.{edited, patched, is_height}
use Rattle.edits.specs.Sinks.{with_point, without_point}
use Rattle.edits.proofs.SinkLists.{length_with, sinks_without}
use Rattle.cow_tree.specs.Trees.{disk_of, root_of, has_failed, corners_of, sinks_of, staged_in, IsAt}
use Rattle.cow_tree.specs.Uncommitted.{CommitsNothing, MakesNoCall}
use Rattle.stored_mosaic.proofs.Reading.HeldTiles.{imported, removed}
use Rattle.stored_mosaic.proofs.Reading.Nearby.{there_listed}
use Rattle.stored_mosaic.proofs.Calls.Made.{kept_as, kept_left, kept_with}
use Rattle.stored_mosaic.proofs.Edits.NewHeights.{heights_made, sinks_kept}
use Rattle.stored_mosaic.proofs.Edits.PagesMet.{pages_few}
use Rattle.stored_mosaic.proofs.Calls.Underway.{all_settled, underway_first}
use Rattle.stored_mosaic.proofs.staging.stage.Goals as goal

-- A height fits 16 bits.
height_sample : (h : ℤ) → IsTrue (is_height h) → IsSample h
height_sample h is =
    let parts = and_parts (int_le (negsuc 32766) h) (int_le h (pos 32767)) is in
    let low = le_true (negsuc 32766) h parts.0 in
    let high = le_true h (pos 32767) parts.1 in
    (omega (arith, ints, low), high)

-- An edit of pages that has visited all tiles has made its changes.
made_tiles : {D T : Type 0} {result : Result T Refusal} (d : Ghosts D) (old new : Tree D d) (n : ℕ) (made : Mosaic → Point → ℤ → ℤ) (fits : Mosaic → Type 0) (p : ℕ)
    → MakesPages d n made fits (λ c i. Contains (corners_of old) c) p p old new result → d.honest (disk_of new) → (s : Stored) (m : Mosaic) → IsAt d old s → fits m → IsMosaic m → AreTilesOf n (staged_in d old) m
    → OnOk result (AreTilesOf n (staged_in d new) (edited (made m) m) × (keepers (staged_in d new) ≡ keepers (staged_in d old)))
made_tiles {result} d old new n made fits p done honest s m at fit valid are =
    on_ok result
    (λ so. (
      all_settled n (made m) m (staged_in d new) so.0.underway (λ t there i. so.1 t.corner i (subst (λ (cs : List Corner). Contains cs t.corner) done.pages.corners (there_listed d new new (corners_of new) refl t there))),
      so.0.kept,
    ))
    (done.set honest s m at fit (underway_first n (made m) m (staged_in d old) valid are))

-- A call that makes no call of the disk commits nothing.
done_in_memory : {D : Type 0} (d : Ghosts D) → OnlyNow d → (old new : Tree D d) → MakesNoCall old new → has_failed old ≡ false → ((s : Stored) → IsAt d old s → IsAt d new s) → CommitsNothing {T = Unit {0}} d old new (Ok tt)
done_in_memory d only_now old new makes works at = in_memory d old new (Ok tt) only_now makes works (λ _. at) (λ refused. never_refused (tt {0}) Device refused)

pub drop_plane-requires-clause-settled : goal.drop_plane-requires-clause-settled
drop_plane-requires-clause-settled g c = c.requires.unstaged c.in-Drop.corner

pub with_point-sinks-requires : goal.with_point-sinks-requires
with_point-sinks-requires g c =
    let old = c.args.tree.now in
    let p : Point = c.in-Sink.point in
    let are : AreSinks (root_of old).side (with_point p (sinks_of old)) = subst (FitsIn (root_of old).side (corners_of old) (sinks_of old)) c.in-Sink.is c.requires.fits in
    let few = are.few in
    let more = length_with p (sinks_of old) in
    let same = ap (λ (l : List Point). length l) c.sinks.ensures.value in
    omega (arith, few, more, same)

pub declare-requires-in-Unsink : goal.declare-requires-in-Unsink
declare-requires-in-Unsink g c =
    let old = c.args.tree.now in
    let n : ℕ = (root_of old).side in
    let p : Point = c.in-Unsink.point in
    let sinks = c.sinks-in-Unsink.result.now in
    let are : AreSinks n (without_point p sinks) = sinks_without n p sinks (subst (AreSinks n) (sym c.sinks-in-Unsink.ensures.value) c.sinks-in-Unsink.ensures.valid) in
    subst (AreSinks n) (sym (c.deref-in-Unsink.ensures.0 ∙ c.without_point-sinks.ensures)) are

pub returns-in-Add-clause-made : goal.returns-in-Add-clause-made
returns-in-Add-clause-made g c honest s m at valid are sinks finds =
    let d = g.D.Disk in
    let old = c.args.tree.now in
    let new = c.stage_plane.new.self in
    let n : ℕ = (root_of old).side in
    let corner : Corner = c.in-Add.corner in
    let bytes = c.in-Add.bytes.now in
    let made : Edit = Add corner c.in-Add.bytes in
    let fits : FitsIn n (corners_of old) (sinks_of old) made = subst (FitsIn n (corners_of old) (sinks_of old)) c.in-Add.is c.requires.fits in
    let tile : StoredTile = stale_tile corner (pages_of_bytes (pages_of n) bytes) in
    subst (λ (e : Edit). OnOk c.stage_plane.result (IsMade d e m old new)) (sym c.in-Add.is)
    (on_ok c.stage_plane.result
    (λ staged. record {
      tiles = subst (λ (ts : List StoredTile). AreTilesOf n ts (edit_made made m)) (sym staged) (imported n (staged_in d old) m corner bytes are fits.1 c.bytes_in_range.ensures);
      sinks = c.stage_plane.ensures.sinks ∙ sinks;
      kept = subst (KeepsBut made (staged_in d old)) (sym staged) (kept_with made tile (staged_in d old) refl refl);
    })
    (c.stage_plane.ensures.staged honest s at))

pub returns-in-Drop-clause-uncommitted : goal.returns-in-Drop-clause-uncommitted
returns-in-Drop-clause-uncommitted g c = let is = c.drop_plane.ensures in done_in_memory g.D.Disk g.met.D.Disk.only_now c.args.tree.now c.drop_plane.new.self is.no_call c.requires.works is.at

pub returns-in-Drop-clause-made : goal.returns-in-Drop-clause-made
returns-in-Drop-clause-made g c honest s m at valid are sinks finds =
    let d = g.D.Disk in
    let old = c.args.tree.now in
    let new = c.drop_plane.new.self in
    let n : ℕ = (root_of old).side in
    let corner : Corner = c.in-Drop.corner in
    let made : Edit = Drop corner in
    let is = c.drop_plane.ensures in
    subst (λ (e : Edit). IsMade d e m old new) (sym c.in-Drop.is)
    (record {
      tiles = subst (λ (ts : List StoredTile). AreTilesOf n ts (edit_made made m)) (sym is.staged) (removed n (staged_in d old) m corner are);
      sinks = is.sinks ∙ sinks;
      kept = subst (KeepsBut made (staged_in d old)) (sym is.staged) (kept_left made corner (staged_in d old));
    })

-- the number of pages with points, at most four a point
pub returns-in-Heights-clause-few : goal.returns-in-Heights-clause-few
returns-in-Heights-clause-few g c =
    let d = g.D.Disk in
    let old = c.args.tree.now in
    let new = c.stage_pages.new.tree in
    let n : ℕ = (root_of old).side in
    let is = c.stage_pages.ensures in
    let heights = c.in-Heights.heights.items in
    let pages = pages_with n (corners_of old) (points_of heights) in
    let same : c.as_slice.result.now ≡ heights = c.as_slice.ensures.value in
    let few = pages_few n (corners_of old) is.side (rising_from (λ e. e) (corners_of old) is.in_order) is.whole_degrees (points_of heights) in
    subst (λ (e : Edit). StagesFew d e old new c.stage_pages.result) (sym c.in-Heights.is) (
      subst (λ (l : List NewHeight). StagesPages d (pages_with n (corners_of old) (points_of l)) (pages_with n (corners_of old) (points_of l)) old new c.stage_pages.result) same is.makes.pages,
      let long = length-map heights (λ (h : NewHeight). h.point) in omega (arith, few, long),
    )

pub returns-in-Heights-clause-made : goal.returns-in-Heights-clause-made
returns-in-Heights-clause-made g c honest s m at valid are sinks finds =
    let d = g.D.Disk in
    let old = c.args.tree.now in
    let new = c.stage_pages.new.tree in
    let n : ℕ = (root_of old).side in
    let heights = c.as_slice.result.now in
    let made : Edit = Heights c.in-Heights.heights in
    subst (λ (e : Edit). OnOk c.stage_pages.result (IsMade d e m old new)) (sym c.in-Heights.is)
    (on_ok c.stage_pages.result
    (λ so. record {
      tiles = subst (AreTilesOf n (staged_in d new)) (sym (heights_made heights m) ∙ ap (λ (l : List NewHeight). with_heights l m) c.as_slice.ensures.value) so.0;
      sinks = c.stage_pages.ensures.makes.pages.sinks ∙ sinks ∙ sym (sinks_kept c.in-Heights.heights.items m);
      kept = kept_as made (staged_in d old) (staged_in d new) so.1;
    })
    (made_tiles d old new n (λ x. heightened heights) (λ x. Unit {0}) (pages_with n (corners_of old) (points_of heights)) c.stage_pages.ensures.makes honest s m at tt valid are))

pub returns-in-Voids-clause-made : goal.returns-in-Voids-clause-made
returns-in-Voids-clause-made g c honest s m at valid are sinks finds =
    let d = g.D.Disk in
    let old = c.args.tree.now in
    let new = c.stage_voids.new.tree in
    let n : ℕ = (root_of old).side in
    let h : ℤ = c.in-Voids.height in
    let h_passed : ℤ = to_z w16 (of_z w16 h) in
    let patch : Patch = record { from = c.in-Voids.from; to = c.in-Voids.to; height = h_passed } in
    let made : Edit = Voids c.in-Voids.from c.in-Voids.to c.in-Voids.height c.in-Voids.tiles in
    let found : AreVoidTiles m patch.from patch.to c.as_slice-in-Voids.result.now =
    subst (λ (cs : List Corner). AreVoidTiles m patch.from patch.to cs) (sym c.as_slice-in-Voids.ensures.value) (let known : FindsVoids m made = subst (FindsVoids m) c.in-Voids.is finds in known) in
    let fits : FitsIn n (corners_of old) (sinks_of old) made = subst (FitsIn n (corners_of old) (sinks_of old)) c.in-Voids.is c.requires.fits in
    let passes : h_passed ≡ h = sample_passed h (height_sample h fits.0) in
    let same : mosaic_of d old ≡ m = ap (λ (l : List Point). mosaic_of_tiles n l (staged_in d old)) sinks ∙ sym are.mosaic in
    subst (λ (e : Edit). OnOk c.stage_voids.result (IsMade d e m old new)) (sym c.in-Voids.is)
    (on_ok c.stage_voids.result
    (λ so. record {
      tiles = subst (λ (k : ℤ). AreTilesOf n (staged_in d new) (patched c.in-Voids.from c.in-Voids.to k m)) passes so.0;
      sinks = c.stage_voids.ensures.makes.pages.sinks ∙ sinks;
      kept = kept_as made (staged_in d old) (staged_in d new) so.1;
    })
    (made_tiles d old new n (λ x. filled x patch) (λ x. (mosaic_of d old ≡ x) × AreVoidTiles x patch.from patch.to c.as_slice-in-Voids.result.now)
    (pages_met (box_meets n patch c.as_slice-in-Voids.result.now) (pages_of n) (corners_of old)) c.stage_voids.ensures.makes honest s m at (same, found) valid are))

pub returns-in-Sink-clause-uncommitted : goal.returns-in-Sink-clause-uncommitted
returns-in-Sink-clause-uncommitted g c = let is = c.declare.ensures in done_in_memory g.D.Disk g.met.D.Disk.only_now c.args.tree.now c.declare.new.self is.no_call c.requires.works is.at

pub returns-in-Unsink-clause-uncommitted : goal.returns-in-Unsink-clause-uncommitted
returns-in-Unsink-clause-uncommitted g c = let is = c.declare-in-Unsink.ensures in done_in_memory g.D.Disk g.met.D.Disk.only_now c.args.tree.now c.declare-in-Unsink.new.self is.no_call c.requires.works is.at
