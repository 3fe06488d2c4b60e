use Rattle.stored_mosaic.proofs.Prelude.{IfNone, IsTrue, None, Option, Some, ℕ, arith, eqb-true, false, false_from_ne_true, false≢true, is_corner, nat_eq, rules, ◌/◌, ◌<◌, ◌∙◌, ◌≡◌, ◌≤◌}
use Rattle.lattice.proofs.Samples.{index_below}
use Rattle.stored_mosaic.proofs.Edits.NewHeights.{in_no_page, in_own_page}
use Rattle.stored_mosaic.proofs.heights.page_from.Goals as goal

-- The page of an index isn't a later one.
apart : (page i : ℕ) → page < i → nat_eq page i ≡ false
apart page i before = false_from_ne_true (nat_eq page i) (λ e. let same : page ≡ i = eqb-true page i e in omega (arith, same, before))

if_none : {P : Type 0} (found : Option ℕ) → P → IfNone found P
if_none None so = so
if_none (Some k) so = tt

pub returns-in_err-index-clause-none : goal.returns-in_err-index-clause-none
returns-in_err-index-clause-none c =
    let side : 3 ≤ c.args.side = search rules in
    let corner : IsTrue (is_corner c.args.corner) = search rules in
    if_none c.from_residual.result (λ i from. in_no_page c.args.side c.args.corner c.args.point side corner (λ held. false≢true (c.in_err-index.ensures.held.1 held)) i)

pub returns-then-page-from-clause-none : goal.returns-then-page-from-clause-none
returns-then-page-from-clause-none c i from =
    let side : 3 ≤ c.args.side = search rules in
    let below = c.if-page-from.true in
    in_own_page c.args.side c.args.corner c.args.point c.in_ok-index.index side c.in_ok-index.ensures.index i ∙ apart (c.in_ok-index.index / 2048) i (omega (arith, below, from))

pub returns-clause-some : goal.returns-clause-some
returns-clause-some c =
    let side : 3 ≤ c.args.side = search rules in
    let at = c.in_ok-index.ensures.index in
    let inside = index_below c.args.side c.args.corner c.args.point c.in_ok-index.index at in
    let from = c.if-page-from.false in
    (omega (arith, from), omega (arith, inside), in_own_page c.args.side c.args.corner c.args.point c.in_ok-index.index side at)
