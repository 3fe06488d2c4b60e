use Rattle.std.proofs.Common.{◌≡◌, ◌*◌, ◌<◌, ℕ, List, All, length, sym, ap, ◌∙◌, subst, arith}
use Rattle.std.specs.Prelude.{Ok, Contains}
use Rattle.lattice.specs.Corners.{Corner}
use Rattle.lattice.specs.Mosaic.{Mosaic}
use Rattle.lattice.specs.declared.refusal.Refusal.TheVariants.{Device}
use Rattle.page_codec.specs.Roots.{RootValue}
use Rattle.tile_flood.specs.Kept.{AreKeptOf}
use Rattle.cow_tree.specs.Kept.{planes_of_bytes, with_kept}
use Rattle.cow_tree.specs.Reading.{mosaic_of}
use Rattle.cow_tree.specs.Stored.{KeptPlanes as KeptPages}
use Rattle.cow_tree.specs.Trees.{root_of}
use Rattle.cow_tree.specs.Uncommitted.{CommitsNothing}
use Rattle.cow_tree.specs.declared.tree.Tree.{Tree}
use Rattle.cow_tree.proofs.ReadOnly.{never_refused}
use Rattle.cow_tree.proofs.Steps.{on_ok}
use Rattle.cow_tree.proofs.TreeReads.{still_readable}
use Rattle.cow_tree.proofs.Uncommitted.{reading, uncommitted_on}
use Rattle.derived.specs.Kept.{AreRight}
use Rattle.derived.proofs.KeptTiles.{planes_right, stale_present}
use Rattle.derived.proofs.stepping.stage_planes.Goals as goal
use Rattle.derived.proofs.stepping.stage_planes.Goals.{After-stage_kept}

pub tile_planes-requires-clause-present : goal.tile_planes-requires-clause-present
tile_planes-requires-clause-present g c =
    subst (λ (cs : List Corner). Contains cs c.args.corner) (sym c.requires.clean.corners) (stale_present (root_of c.args.tree.now).entries c.args.corner c.requires.stale)

pub stage_kept-requires-clause-present : goal.stage_kept-requires-clause-present
stage_kept-requires-clause-present g c =
    subst (λ (cs : List Corner). Contains cs c.args.corner) (sym (c.tile_planes.ensures.reads.corners ∙ c.requires.clean.corners)) (stale_present (root_of c.args.tree.now).entries c.args.corner c.requires.stale)

-- the planes that are passed to `stage_kept`
module _ (g : _) (c : After-stage_kept g) where
  abbrev old : Tree _ g.D.Disk
  old = c.args.tree.now

  abbrev mid : Tree _ g.D.Disk
  mid = c.tile_planes.new.tree

  abbrev side : ℕ
  side = (root_of c.tile_planes.new.tree).side

  levels_whole : length c.deref-3.result.now ≡ 2 * (side * side)
  levels_whole = subst (λ (r : RootValue). length c.deref-3.result.now ≡ 2 * (r.side * r.side)) (sym c.tile_planes.ensures.reads.root) (omega (arith, c.deref-3.ensures.len, c.in_ok-planes.ensures.levels))

  labels_whole : length c.deref-4.result.now ≡ 2 * (side * side)
  labels_whole = subst (λ (r : RootValue). length c.deref-4.result.now ≡ 2 * (r.side * r.side)) (sym c.tile_planes.ensures.reads.root) (omega (arith, c.deref-4.ensures.len, c.in_ok-planes.ensures.labels))

  right : AreKeptOf (mosaic_of g.D.Disk c.args.tree.now) c.args.corner c.in_ok-planes.planes.levels.items c.in_ok-planes.planes.labels.items
      → AreRight (mosaic_of g.D.Disk c.args.tree.now) c.args.corner (planes_of_bytes (root_of c.tile_planes.new.tree).side c.deref-3.result.now c.deref-4.result.now)
  right are =
      let m : Mosaic = mosaic_of g.D.Disk c.args.tree.now in
      planes_right side m c.args.corner c.deref-3.result.now c.deref-4.result.now (ap (λ (r : RootValue). r.side) (sym c.tile_planes.ensures.reads.root))
      (subst (λ (bs : List ℕ). AreKeptOf m c.args.corner bs c.deref-4.result.now) (sym c.deref-3.ensures.value)
      (subst (λ (bs : List ℕ). AreKeptOf m c.args.corner c.in_ok-planes.planes.levels.items bs) (sym c.deref-4.ensures.value) are))
      levels_whole labels_whole
      (subst (All (λ b. b < 256)) (c.deref.ensures.value ∙ sym c.deref-3.ensures.value) c.bytes_in_range.ensures) (subst (All (λ b. b < 256)) (c.deref-2.ensures.value ∙ sym c.deref-4.ensures.value) c.bytes_in_range-2.ensures)

  done : CommitsNothing g.D.Disk old mid (Ok c.in_ok-planes.planes)
  done =
      let planes = c.in_ok-planes.planes in
      reading g.D.Disk old mid c.tile_planes.ensures.reads (Ok planes) (λ is. never_refused planes Device is) (λ is. never_refused planes Device is) c.in_ok-planes.ensures.works

pub returns-clause-uncommitted : goal.returns-clause-uncommitted
returns-clause-uncommitted g c =
    uncommitted_on g.D.Disk c.args.tree.now c.tile_planes.new.tree c.stage_kept.new.self c.in_ok-planes.planes c.stage_kept.result (done g (goal.at.returns-clause-uncommitted g c).After-stage_kept) c.stage_kept.ensures.uncommitted

pub returns-clause-staged : goal.returns-clause-staged
returns-clause-staged g c honest s at readable flooded =
    let after = (goal.at.returns-clause-staged g c).After-stage_kept in
    let d = g.D.Disk in
    let keeps = c.tile_planes.ensures.reads in
    let mid_honest = c.stage_kept.ensures.uncommitted.returns.honest honest in
    let are = c.in_ok-planes.ensures.right (still_readable d c.args.tree.now c.tile_planes.new.tree keeps mid_honest readable) flooded in
    let kept : KeptPages = planes_of_bytes (root_of c.tile_planes.new.tree).side c.deref-3.result.now c.deref-4.result.now in
    on_ok c.stage_kept.result (λ staged. (kept, right g after are, staged ∙ ap (with_kept c.args.corner kept) (keeps.staged mid_honest)))
    (c.stage_kept.ensures.staged honest s (keeps.at mid_honest s at c.in_ok-planes.ensures.works))
