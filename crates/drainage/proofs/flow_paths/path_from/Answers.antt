use Rattle.std.proofs.Common.{◌≡◌, ◌⊎◌, ◌≤◌, ◌*◌, ℕ, inl, inr, ⊎_elim, arith, ap₂, IsTrue, Ok, Option, List, [], length, sym, ap, ◌∙◌, subst}
use Rattle.drainage.proofs.Prelude.{Contains, Corner, Mosaic, OnLevels, Point, corners_of, is_ground, mosaic_is_grid, reads_nothing, reads_on, terrain}
use Rattle.water.specs.FlowSteps.{IsNext, IsFollowed}
use Rattle.water.proofs.Following.{followed_first, followed_more, followed_end}
use Rattle.flow_d8.proofs.Paths.OnePath.{goes_on}
use Rattle.flow_d8.specs.PresentTiles.{sample_count}
use Rattle.drainage.proofs.Questions.LevelFunctions.{level_function}
use Rattle.catalogue.proofs.Questioned.{answered, asked_reads, own_ended, refused_after, refused_by}
use Rattle.drainage.proofs.flow_paths.path_from.Goals as goal

pub add-requires : goal.add-requires
add-requires g c =
    let nothing : length c.new-path.result.items ≡ 0 = ap (λ (l : List Point). length l) c.new-path.ensures.items in
    record {
      once = λ i j d before within. absurd (omega (arith, nothing, before, within));
      on_path = λ p marked. absurd (c.new-marks.ensures.none p marked);
      is_marked = λ p at. absurd (nowhere p (subst (λ (l : List Point). Contains l p) c.new-path.ensures.items at));
      indexed = c.new-marks.ensures.indexed;
    }
  where
    nowhere : (p : Point) → Contains [] p → ⊥
    nowhere p at = omega (arith, at.1)

pub next_point-requires : goal.next_point-requires
next_point-requires g c =
    let a = c.args.samples.now in
    let inv = c.steps.invariant in
    record {
      held = inv.held;
      ground = λ honest.
          let first = inv.reads.honest honest in
          let m = g.S.Samples.mosaic a in
          let levels = level_function m (g.met.S.Samples.is_mosaic a first) in
          subst (λ (n : Mosaic). IsTrue (is_ground n c.steps.last)) (sym (inv.reads.mosaic honest)) (inv.followed honest levels.0 levels.1).solid;
    }

pub steps-preserved : goal.steps-preserved
steps-preserved g c =
    let a = c.args.samples.now in
    let inv = c.steps.invariant in
    let e = c.in_ok-to.ensures in
    record {
      reads = reads_on g.S.Samples g.met.S.Samples.keeps_on a c.steps.samples c.next_point.new.samples tt (Ok tt) inv.reads (asked_reads g.S.Samples c.steps.samples c.next_point.new.samples _ e.asked);
      held = e.held;
      marked_once = c.in_ok-add-2.ensures.once;
      short = c.in_ok-add-2.ensures.short;
      followed = λ honest level filled.
          let before = e.asked.reads.honest honest in
          let m = g.S.Samples.mosaic a in
          let is = g.met.S.Samples.is_mosaic a (inv.reads.honest before) in
          let next = subst (λ (n : Mosaic). OnLevels n (λ level. IsNext (terrain n) level c.steps.last c.in_ok-to.field-0)) (inv.reads.mosaic before) (e.next honest) level filled in
          subst (λ (l : List Point). IsFollowed (terrain m) level c.args.point c.in-Some.to l) (sym c.in_ok-add-2.ensures.path)
          (followed_more (terrain m) (mosaic_is_grid m is) level c.args.point c.steps.last c.in-Some.to c.steps.path.items (subst (λ (o : Option Point). IsNext (terrain m) level c.steps.last o) c.in-Some.is next) (inv.followed before level filled));
    }

-- honest samples belong to a mosaic with `most` samples
module _ (m : Mosaic) (n : ℕ) (corners : List Corner) (side : n ≡ m.side) (all : corners_of m ≡ corners) (most : ℕ) (is : most ≡ length corners * (n * n)) where
  few : sample_count m ≡ most
  few = ap₂ (λ k a. k * (a * a)) (ap length all) (sym side) ∙ sym is

pub returns-in_err-add-clause-asked : goal.returns-in_err-add-clause-asked
returns-in_err-add-clause-asked g c =
    let a = c.args.samples.now in
    let laws = g.met.S.Samples in
    refused_by g.S.Samples a a c.from_residual.result c.in_err-add.field-0.0 c.from_residual.ensures.1
    (own_ended g.S.Samples a a c.in_err-add.field-0.0 (Contains c.new-path.result.items c.args.point ⊎ (c.args.most ≤ length c.new-path.result.items)) (reads_nothing g.S.Samples laws.keeps_itself a (tt {0})) c.in_err-add.ensures.refusal
    (λ honest why.
    let m = g.S.Samples.mosaic a in
    let is = laws.is_mosaic a honest in
    let by = level_function m is in
    let solid = c.requires.ground honest in
    let many = few m (g.S.Samples.side_of a) (g.S.Samples.corners a) (sym (laws.same_side a honest)) (laws.same_corners a honest) c.args.most c.requires.most in
    goes_on m is by.0 by.1 c.args.point c.args.point [] solid (followed_first (terrain m) (mosaic_is_grid m is) by.0 c.args.point solid)
    (⊎_elim (λ has. inl (subst (λ (l : List Point). Contains l c.args.point) c.new-path.ensures.items has)) (λ full. inr (omega (arith, full, many, ap length c.new-path.ensures.items))) why)))

pub returns-in_err-to-clause-asked : goal.returns-in_err-to-clause-asked
returns-in_err-to-clause-asked g c =
    refused_after g.S.Samples g.met.S.Samples.keeps_on c.args.samples.now c.steps.samples c.next_point.new.samples c.from_residual-in_err-to.result c.in_err-to.field-0.0 c.from_residual-in_err-to.ensures.1 c.steps.invariant.reads c.in_err-to.ensures.asked

pub returns-in_err-add-2-clause-asked : goal.returns-in_err-add-2-clause-asked
returns-in_err-add-2-clause-asked g c =
    let a = c.args.samples.now in
    let b = c.next_point.new.samples in
    let laws = g.met.S.Samples in
    let inv = c.steps.invariant in
    let e = c.in_ok-to.ensures in
    let path = c.steps.path.items in
    let to = c.in-Some.to in
    let reads = reads_on g.S.Samples laws.keeps_on a c.steps.samples b tt (Ok tt) inv.reads (asked_reads g.S.Samples c.steps.samples b _ e.asked) in
    refused_by g.S.Samples a b c.from_residual-in_err-add-2.result c.in_err-add-2.field-0.0 c.from_residual-in_err-add-2.ensures.1
    (own_ended g.S.Samples a b c.in_err-add-2.field-0.0 (Contains path to ⊎ (c.args.most ≤ length path)) reads c.in_err-add-2.ensures.refusal
    (λ honest why.
    let m = g.S.Samples.mosaic a in
    let before = e.asked.reads.honest honest in
    let first = inv.reads.honest before in
    let is = laws.is_mosaic a first in
    let by = level_function m is in
    let next = subst (λ (n : Mosaic). OnLevels n (λ level. IsNext (terrain n) level c.steps.last c.in_ok-to.field-0)) (inv.reads.mosaic before) (e.next honest) by.0 by.1 in
    let many = few m (g.S.Samples.side_of a) (g.S.Samples.corners a) (sym (laws.same_side a first)) (laws.same_corners a first) c.args.most c.requires.most in
    goes_on m is by.0 by.1 c.args.point to path (c.requires.ground first)
    (followed_more (terrain m) (mosaic_is_grid m is) by.0 c.args.point c.steps.last to path (subst (λ (o : Option Point). IsNext (terrain m) by.0 c.steps.last o) c.in-Some.is next) (inv.followed before by.0 by.1))
    (⊎_elim inl (λ full. inr (omega (arith, full, many))) why)))

pub returns-clause-path : goal.returns-clause-path
returns-clause-path g c honest level filled =
    let a = c.args.samples.now in
    let inv = c.steps.invariant in
    let e = c.in_ok-to.ensures in
    let before = e.asked.reads.honest honest in
    let m = g.S.Samples.mosaic a in
    let is = g.met.S.Samples.is_mosaic a (inv.reads.honest before) in
    let next = subst (λ (n : Mosaic). OnLevels n (λ level. IsNext (terrain n) level c.steps.last c.in_ok-to.field-0)) (inv.reads.mosaic before) (e.next honest) level filled in
    followed_end (terrain m) (mosaic_is_grid m is) level c.args.point c.steps.last c.steps.path.items (subst (λ (o : Option Point). IsNext (terrain m) level c.steps.last o) c.in_default.is next) (inv.followed before level filled)

pub returns-clause-asked : goal.returns-clause-asked
returns-clause-asked g c =
    answered g.S.Samples c.args.samples.now c.next_point.new.samples _
    (reads_on g.S.Samples g.met.S.Samples.keeps_on c.args.samples.now c.steps.samples c.next_point.new.samples tt (Ok tt) c.steps.invariant.reads (asked_reads g.S.Samples c.steps.samples c.next_point.new.samples _ c.in_ok-to.ensures.asked))
