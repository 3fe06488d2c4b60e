use Rattle.watershed.proofs.Prelude.{Branch, Dir, East, IfOk-weaker, IsCounted, IsTour, IsTrue, Point, arith, directions, false, get_or, ground_fits, is_ground, order_at, order_below, order_of, refl, step, subst, sym, terrain, true, ⊎_elim, ◌≡◌}
use Rattle.watershed.proofs.Tours.{begun, passed, added, waits, tour_stays, tour_enters}
use Rattle.watershed.proofs.counting.enter.Goals as goal

pub returns-in_default-clause-tour : goal.returns-in_default-clause-tour
returns-in_default-clause-tour g c m level tells filled known first tour =
    let at = c.args.at in
    let d : Dir = get_or directions at.looked East in
    let place : order_of d ≡ at.looked = order_at at.looked East c.requires.looked in
    let is = g.met.F.FlowSource.is_mosaic c.args.flows.now m level tells in
    tour_stays m is level filled first at _ c.args.waiting.now.items refl tour (passed m is level filled at d place tour.counting
    (λ drains. c.in_default.ensures (ground_fits m is (step d at.point) drains.0)))

pub returns-then-count-gt0-clause-tour : goal.returns-then-count-gt0-clause-tour
returns-then-count-gt0-clause-tour g c = IfOk-weaker c.with.result _ _
    (λ next is_next m level tells filled known first tour.
    let at = c.args.at in
    let d : Dir = get_or directions at.looked East in
    let place : order_of d ≡ at.looked = order_at at.looked East c.requires.looked in
    let is = g.met.F.FlowSource.is_mosaic c.args.flows.now m level tells in
    let drains = (tour.counting.branch.donors d (order_below d)).0 (subst (λ k. get_or at.donors k false ≡ true) (sym place) c.requires.donor) in
    let count = c.at-count.result in
    let counted : IsCounted (terrain m) level c.in-Some.donor count = ⊎_elim (λ none. absurd (omega (arith, none, c.if-count-gt0.true))) (λ some. some) (c.at-count.ensures.right (terrain m) level known) in
    subst (λ (b : Branch). IsTour (terrain m) level first b c.args.waiting.now.items) (sym is_next)
    (tour_stays m is level filled first at _ c.args.waiting.now.items refl tour
    (added m is level filled at d place tour.counting count drains (subst (λ (q : Point). IsCounted (terrain m) level q count) c.in-Some.ensures.1 counted))))
    c.with.ensures.counted

pub returns-clause-tour : goal.returns-clause-tour
returns-clause-tour g c m level tells filled known first tour =
    let laws = g.met.F.FlowSource in
    let at = c.args.at in
    let d : Dir = get_or directions at.looked East in
    let place : order_of d ≡ at.looked = order_at at.looked East c.requires.looked in
    let is = laws.is_mosaic c.donors.new.flows m level tells in
    let drains = (tour.counting.branch.donors d (order_below d)).0 (subst (λ k. get_or at.donors k false ≡ true) (sym place) c.requires.donor) in
    let donor = c.in-Some.donor in
    let leads : step d at.point ≡ donor = sym c.in-Some.ensures.1 in
    let solid : IsTrue (is_ground m donor) = subst (λ (q : Point). IsTrue (is_ground m q)) leads drains.0 in
    subst (λ (b : Branch). IsTour (terrain m) level first b c.push.new.items.items) (sym c.of.ensures)
    (subst (IsTour (terrain m) level first _) (sym c.in_ok-push.ensures.pushed)
    (tour_enters m is level filled first at _ _ c.args.waiting.now.items refl tour (waits m is level filled at d place tour.counting donor leads drains)
    (begun m is level filled donor solid c.in_ok-donors.donors (c.in_ok-donors.ensures.donors m level tells))))
