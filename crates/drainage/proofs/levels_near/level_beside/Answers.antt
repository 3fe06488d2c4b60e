use Rattle.std.proofs.Common.{◌≡◌, IsTrue, IsFalse, Option, ℤ, sym, ◌∙◌, subst}
use Rattle.drainage.proofs.Prelude.{IfOk-weaker, IsLevelAt, OnLevels, beside_of, share_tile, step, terrain}
use Rattle.flow_d8.proofs.Steps.Nearby.{beside_unfit, beside_apart, told}
use Rattle.catalogue.proofs.Questioned.{answered_here}
use Rattle.drainage.proofs.levels_near.level_beside.Goals as goal

pub returns-in_default-clause-beside : goal.returns-in_default-clause-beside
returns-in_default-clause-beside g c honest level filled =
    let a = c.args.samples.now in
    beside_unfit (g.S.Samples.mosaic a) level c.args.point (g.met.S.Samples.is_mosaic a honest) c.args.direction c.in_default.ensures

pub returns-in_default-clause-asked : goal.returns-in_default-clause-asked
returns-in_default-clause-asked g c = answered_here g.S.Samples g.met.S.Samples.keeps_itself c.args.samples.now _

pub returns-then-not-share_tile-clause-beside : goal.returns-then-not-share_tile-clause-beside
returns-then-not-share_tile-clause-beside g c honest level filled =
    let a = c.args.samples.now in
    let m = g.S.Samples.mosaic a in
    beside_apart m level c.args.point (g.met.S.Samples.is_mosaic a honest) c.args.direction
    (subst (λ q. IsFalse (share_tile m c.args.point q)) c.in-Some.ensures.1 (sym (c.share_tile.ensures honest) ∙ c.if-not-share_tile.true))

pub returns-then-not-share_tile-clause-asked : goal.returns-then-not-share_tile-clause-asked
returns-then-not-share_tile-clause-asked g c = answered_here g.S.Samples g.met.S.Samples.keeps_itself c.args.samples.now _

pub returns-clause-beside : goal.returns-clause-beside
returns-clause-beside g c honest =
    let a = c.args.samples.now in
    let m = g.S.Samples.mosaic a in
    let before = c.level.ensures.asked.reads.honest honest in
    let share : IsTrue (share_tile m c.args.point (step c.args.direction c.args.point)) =
    subst (λ q. IsTrue (share_tile m c.args.point q)) c.in-Some.ensures.1 (sym (c.share_tile.ensures before) ∙ c.if-not-share_tile.false) in
    IfOk-weaker c.level.result (IsLevelAt m c.in-Some.to) (λ (found : Option ℤ). OnLevels m (λ level. found ≡ beside_of (terrain m) level c.args.point c.args.direction))
    (λ found is level filled. told m level c.args.point (g.met.S.Samples.is_mosaic a before) c.args.direction filled (c.requires.ground before) share found
    (subst (λ q. IsLevelAt m q found) c.in-Some.ensures.1 is))
    (c.level.ensures.level honest)
