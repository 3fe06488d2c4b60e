use Rattle.std.proofs.Common.{rules, ◌≡◌, ◌<◌, ◌≤◌, ℤ, Ok, length, get_or, refl, ◌∙◌, ap, subst, false, SFits, w16}
use Rattle.std.specs.Prelude.{IfSome}
use Rattle.std.proofs.lemmas.Int.{to_z-of_z}
use Rattle.lattice.specs.Block.{Block}
use Rattle.lattice.specs.Ground.{metres}
use Rattle.lattice.specs.Height.{height_of}
use Rattle.lattice.specs.Lattice.{point_of}
use Rattle.lattice.specs.Mosaic.{Mosaic, void}
use Rattle.tile_labellings.specs.Updating.{IsUpdated, IsListedUnlessBelow}
use Rattle.catalogue.proofs.Reading.{reads_on, reads_as}
use Rattle.tile_labellings.proofs.Mended.{one_read, all_read, updated_before}
use Rattle.tile_labellings.proofs.flooded_block.read_changed.Goals as goal

pub loop-k-preserved : goal.loop-k-preserved
loop-k-preserved g c =
    let so = c.loop-k.invariant in
    let read = c.in_ok-was.ensures in
    let changed = c.args.changed.now in
    let k = c.loop-k.k in
    let e = get_or changed k 0 in
    let was = c.in-Some.was in
    let updated = subst (λ found. IfSome found (λ was. (was ≡ get_or c.loop-k.block.heights e void) × ((h : ℤ) × (IsUpdated c.loop-k.block e h c.read_height.new.block × (g.S.Samples.is_honest c.read_height.new.samples → h ≡ metres (height_of (g.S.Samples.mosaic c.loop-k.samples) (point_of c.loop-k.block.side c.args.corner e))))))) c.in-Some.is read.updated in
    let below : k < length changed = c.loop-k-test.true in
    let fits : SFits w16 was = search rules in
    record {
      reads = reads_on g.S.Samples g.met.S.Samples.keeps_on c.args.samples.now c.loop-k.samples c.read_height.new.samples tt (Ok tt) so.reads (reads_as g.S.Samples c.loop-k.samples c.read_height.new.samples c.in_ok-was.field-0 tt read.reads);
      before = updated_before c.loop-k.block c.read_height.new.block e was updated.1.0 c.loop-k.points.items c.list_unless_below.new.points.items c.args.labelled.now.levels c.args.labelled.now.labels updated.0 updated.1.1.0 (subst (λ v. IsListedUnlessBelow c.args.labelled.now.levels c.read_height.new.block.heights e v c.loop-k.points.items c.list_unless_below.new.points.items) (to_z-of_z w16 was fits) (c.list_unless_below.ensures c.if-not-list_unless_below.false)) so.before;
      side = ap (λ (b : Block). b.side) updated.1.1.0.is ∙ so.side;
      right = λ honest but.
          let mid = read.reads.honest honest in
          one_read (g.S.Samples.mosaic c.args.samples.now) c.args.corner changed k c.loop-k.block c.read_height.new.block e updated.1.0 0 below refl updated.1.1.0
          (updated.1.1.1 honest ∙ ap (λ (m : Mosaic). metres (height_of m (point_of c.loop-k.block.side c.args.corner e))) (so.reads.mosaic mid)) (so.right mid but);
    }

pub returns-clause-right : goal.returns-clause-right
returns-clause-right g c honest but done =
    let end : length c.args.changed.now ≤ c.loop-k.k = search rules in
    all_read (g.S.Samples.mosaic c.args.samples.now) c.args.corner c.args.changed.now c.loop-k.k c.loop-k.block end (c.loop-k.invariant.right honest but)

pub returns-in_err-was-clause-reads : goal.returns-in_err-was-clause-reads
returns-in_err-was-clause-reads g c =
    reads_on g.S.Samples g.met.S.Samples.keeps_on c.args.samples.now c.loop-k.samples c.read_height.new.samples tt c.from_residual.result c.loop-k.invariant.reads search rules

pub returns-in_default-clause-reads : goal.returns-in_default-clause-reads
returns-in_default-clause-reads g c =
    reads_on g.S.Samples g.met.S.Samples.keeps_on c.args.samples.now c.loop-k.samples c.read_height.new.samples tt (Ok false) c.loop-k.invariant.reads
    (reads_as g.S.Samples c.loop-k.samples c.read_height.new.samples c.in_ok-was.field-0 false c.in_ok-was.ensures.reads)

pub returns-then-not-list_unless_below-clause-reads : goal.returns-then-not-list_unless_below-clause-reads
returns-then-not-list_unless_below-clause-reads g c =
    reads_on g.S.Samples g.met.S.Samples.keeps_on c.args.samples.now c.loop-k.samples c.read_height.new.samples tt (Ok false) c.loop-k.invariant.reads
    (reads_as g.S.Samples c.loop-k.samples c.read_height.new.samples c.in_ok-was.field-0 false c.in_ok-was.ensures.reads)
