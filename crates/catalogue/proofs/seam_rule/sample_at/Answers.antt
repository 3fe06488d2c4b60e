use Rattle.std.proofs.Common.{ℤ, ap, sym, ◌∙◌, subst, rules, Some, List}
use Rattle.catalogue.proofs.Prelude.{Contains, Corner, Holds, IsIndexOf, false≢true, to_z-of_z}
use mir.Syntax.{w16}
use mir.Val.{SFits}
use Rattle.catalogue.proofs.OneTile.{corner_is, sample_in-absent, sample_in-outside, sample_in-read}
use Rattle.catalogue.proofs.seam_rule.sample_at.Goals as goal

pub returns-then-not-present-clause-value : goal.returns-then-not-present-clause-value
returns-then-not-present-clause-value g c honest =
    let now = c.args.samples.now in
    let same = g.met.S.Samples.same_corners now honest in
    sym (sample_in-absent (g.S.Samples.mosaic now) c.args.corner c.args.point (λ there.
    false≢true (sym c.if-not-present.true ∙ c.present.ensures.answer.1 (subst (λ (cs : List Corner). Contains cs c.args.corner) same there))))

pub returns-in_default-clause-value : goal.returns-in_default-clause-value
returns-in_default-clause-value g c honest =
    let laws = g.met.S.Samples in
    let now = c.args.samples.now in
    let m = g.S.Samples.mosaic now in
    let there = subst (λ (cs : List Corner). Contains cs c.args.corner) (sym (laws.same_corners now honest)) (c.present.ensures.answer.0 (search rules)) in
    let side = laws.same_side now honest ∙ sym c.side.ensures in
    let valid = laws.is_mosaic now honest in
    sym (sample_in-outside m c.args.corner c.args.point valid (corner_is m c.args.corner valid there) (λ held.
    false≢true (c.in_default.ensures.held.1 (subst (λ n. Holds n c.args.corner c.args.point) side held))))

pub returns-clause-value : goal.returns-clause-value
returns-clause-value g c honest_after =
    let laws = g.met.S.Samples in
    let now = c.args.samples.now in
    let m = g.S.Samples.mosaic now in
    let honest = c.sample.ensures.honest honest_after in
    let side = laws.same_side now honest ∙ sym c.side.ensures in
    let index = subst (λ n. IsIndexOf n c.args.corner c.args.point c.in-Some.index) (sym side) c.in-Some.ensures.index in
    let fits : SFits w16 c.in_ok-sample.sample = search rules in
    ap (λ (s : ℤ). Some s) (to_z-of_z w16 c.in_ok-sample.sample fits)
    ∙ sym (sample_in-read m c.args.corner c.args.point c.in-Some.index c.in_ok-sample.sample (laws.is_mosaic now honest) index (c.in_ok-sample.ensures.sample honest_after))
