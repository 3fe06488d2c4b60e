use Rattle.std.proofs.Common.{rules, SFits, w16, ◌≡◌, Option, ℤ, sym, ◌∙◌, subst}
use Rattle.drainage.proofs.Prelude.{IsFilledLevel, Mosaic, level_is_unique, terrain, to_z-of_z}
use Rattle.flow_d8.specs.LevelsAround.{IsLevelAt, OnLevels, around_of}
use Rattle.catalogue.proofs.Questioned.{answered_here, asked_reads, refused_after}
use Rattle.drainage.proofs.levels_near.near_levels.Goals as goal

pub returns-in-Some-clause-asked : goal.returns-in-Some-clause-asked
returns-in-Some-clause-asked g c = answered_here g.S.Samples g.met.S.Samples.keeps_itself c.args.samples.now _

pub returns-in_err-around-clause-asked : goal.returns-in_err-around-clause-asked
returns-in_err-around-clause-asked g c =
    let a = c.args.samples.now in
    let b = c.level.new.samples in
    refused_after g.S.Samples g.met.S.Samples.keeps_on a b c.levels_around.new.samples c.from_residual-in_err-around.result c.in_err-around.field-0.0 c.from_residual-in_err-around.ensures.1 (asked_reads g.S.Samples a b _ c.in_ok-height.ensures.asked) c.in_err-around.ensures.asked

pub returns-clause-near : goal.returns-clause-near
returns-clause-near g c honest =
    let a = c.args.samples.now in
    let m = g.S.Samples.mosaic a in
    let p = c.args.point in
    let height = c.in-Some-2.height in
    let mid = c.in_ok-around.ensures.asked.reads.honest honest in
    let first = c.in_ok-height.ensures.asked.reads.honest mid in
    let fits : SFits w16 height = search rules in
    let at_point : IsFilledLevel (terrain m) p height = subst (λ (o : Option ℤ). IsLevelAt m p o) c.in-Some-2.is (c.in_ok-height.ensures.level mid) in
    let solid = c.requires.ground first in
    record {
      solid = solid;
      here = λ level filled. level_is_unique (terrain m) p (level p) height (filled p solid) at_point ∙ sym (to_z-of_z w16 height fits);
      around_it = subst (λ (n : Mosaic). OnLevels n (λ level. c.in_ok-around.around ≡ around_of (terrain n) level p)) (c.in_ok-height.ensures.asked.reads.mosaic mid) (c.in_ok-around.ensures.around honest);
    }
