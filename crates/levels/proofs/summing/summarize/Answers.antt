use Rattle.levels.proofs.Prelude.{AreRimPointsIn, AreSpills, HasOtherRimHeight, IsCurrent, IsSummaryOf, IsTileLabelling, LabelledGround, MatchOption, ap, labelled_of, rules, subst, sym, ◌*◌, ◌-◌, ◌∙◌}
use Rattle.catalogue.proofs.Questioned.{answered, short_here, stopped}
use Rattle.levels.proofs.Tiles.Summed.{rim_holds, summary_is}
use Rattle.levels.proofs.summing.summarize.Goals as goal

pub returns-clause-border : goal.returns-clause-border
returns-clause-border g c honest current is =
    let old = c.args.samples.now in
    let m = g.S.Samples.mosaic old in
    let labelled = c.labelled-labelled.result.now in
    let same = sym c.in_ok-spills.ensures.same in
    let flooded = c.labelled-labelled.ensures.flooded m c.args.corner (subst IsCurrent same current) (subst (IsTileLabelling m c.args.corner) same is) in
    let first = c.in_ok-rim.ensures.reads.honest honest in
    let found : AreRimPointsIn m c.args.corner labelled.labels c.in-Some.rim.items (4 * (g.S.Samples.side_of old - 1)) =
    subst (λ found. MatchOption found (HasOtherRimHeight m c.args.corner labelled.levels)
    (λ rim. AreRimPointsIn m c.args.corner labelled.labels rim.items (4 * (g.S.Samples.side_of old - 1)))) c.in-Some.is (c.in_ok-rim.ensures.rim honest flooded) in
    let points : AreRimPointsIn m c.args.corner labelled.labels c.in-Some.rim.items (4 * (m.side - 1)) =
    subst (λ n. AreRimPointsIn m c.args.corner labelled.labels c.in-Some.rim.items (4 * (n - 1))) (sym (g.met.S.Samples.same_side old first)) found in
    let spills : AreSpills labelled.side labelled.levels labelled.levels labelled.labels c.in_ok-spills.spills.items =
    subst (λ (l : LabelledGround). AreSpills l.side l.levels l.levels l.labels c.in_ok-spills.spills.items) (sym (c.labelled-labelled.ensures.value ∙ ap labelled_of c.in_ok-spills.ensures.same)) c.in_ok-spills.ensures.spills in
    subst (IsSummaryOf m) (sym c.new.ensures)
    (summary_is m (g.met.S.Samples.is_mosaic old first) c.args.corner labelled flooded c.in-Some.rim.items points c.in_ok-spills.spills.items spills)

pub returns-clause-asked : goal.returns-clause-asked
returns-clause-asked g c current is = answered g.S.Samples c.args.samples.now c.rim_of.new.samples _ c.in_ok-rim.ensures.reads

pub returns-in_default-clause-asked : goal.returns-in_default-clause-asked
returns-in_default-clause-asked g c current is =
    let a = c.args.samples.now in
    let d = c.rim_of.new.samples in
    let m = g.S.Samples.mosaic a in
    let labelled = c.labelled-labelled.result.now in
    let same = sym c.in_ok-spills.ensures.same in
    stopped g.S.Samples a d c.in_ok-rim.ensures.reads (λ honest.
    let flooded = c.labelled-labelled.ensures.flooded m c.args.corner (subst IsCurrent same current) (subst (IsTileLabelling m c.args.corner) same (is honest)) in
    let other : HasOtherRimHeight m c.args.corner labelled.levels =
    subst (λ found. MatchOption found (HasOtherRimHeight m c.args.corner labelled.levels)
    (λ rim. AreRimPointsIn m c.args.corner labelled.labels rim.items (4 * (g.S.Samples.side_of a - 1)))) c.in_default.is (c.in_ok-rim.ensures.rim honest flooded) in
    rim_holds m c.args.corner labelled flooded other)

pub returns-in_err-spills-clause-asked : goal.returns-in_err-spills-clause-asked
returns-in_err-spills-clause-asked g c current is = short_here g.S.Samples g.met.S.Samples.keeps_itself c.args.samples.now c.from_residual.result (search rules)
