use Rattle.std.proofs.Common.{◌≡◌, ap, sym, ◌∙◌, subst, IsTrue, Some, true}
use Rattle.catalogue.proofs.Prelude.{All-contains, Corner, false_from_ne_true, false≢true, is_corner, is_listed}
use Rattle.catalogue.proofs.Presence.{listed_from, listed_says}
use Rattle.catalogue.proofs.Rows.{corner_at, named_present, named_absent, corner_at_is}
use Rattle.catalogue.proofs.listing.present_at.Goals as goal

pub returns-in_err-corner-clause-answer : goal.returns-in_err-corner-clause-answer
returns-in_err-corner-clause-answer g c corners =
    let cs = g.S.Samples.corners c.args.samples.now in
    let at = corner_at_is c.args.lat c.args.lon c.ranges.lat c.ranges.lon in
    let absent = false_from_ne_true (is_listed (corner_at c.args.lat c.args.lon) cs) (λ there.
    c.in_err-corner.ensures (subst (λ (p : Corner). IsTrue (is_corner p)) (sym at) (All-contains (λ (d : Corner). IsTrue (is_corner d)) cs (corner_at c.args.lat c.args.lon) corners (listed_says (corner_at c.args.lat c.args.lon) cs there)))) in
    c.from_residual.ensures ∙ named_absent cs c.args.lat c.args.lon absent

pub returns-then-present-clause-answer : goal.returns-then-present-clause-answer
returns-then-present-clause-answer g c corners =
    let cs = g.S.Samples.corners c.args.samples.now in
    let at = c.in_ok-corner.ensures.1 ∙ corner_at_is c.args.lat c.args.lon c.ranges.lat c.ranges.lon in
    let there = listed_from c.in_ok-corner.corner cs (c.present.ensures.answer.0 c.if-present.true) in
    ap (λ (p : Corner). Some p) at ∙ named_present cs c.args.lat c.args.lon (subst (λ (p : Corner). is_listed p cs ≡ true) at there)

pub returns-else-present-clause-answer : goal.returns-else-present-clause-answer
returns-else-present-clause-answer g c corners =
    let cs = g.S.Samples.corners c.args.samples.now in
    let at = c.in_ok-corner.ensures.1 ∙ corner_at_is c.args.lat c.args.lon c.ranges.lat c.ranges.lon in
    let absent = false_from_ne_true (is_listed (corner_at c.args.lat c.args.lon) cs) (λ there.
    false≢true (sym c.if-present.false ∙ c.present.ensures.answer.1 (listed_says c.in_ok-corner.corner cs (subst (λ (p : Corner). is_listed p cs ≡ true) (sym at) there)))) in
    named_absent cs c.args.lat c.args.lon absent
