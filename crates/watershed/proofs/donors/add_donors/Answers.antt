use Rattle.watershed.proofs.Prelude.{Dir, DrainsBack, East, IsTrue, directions, false, get_or, order_at, order_below, order_of, subst, sym, terrain, ◌+◌, ◌↔◌, ◌≡◌}
use Rattle.watershed.proofs.Feeding.{AreDonorsBy, one_more, all_donors}
use Rattle.watershed.proofs.donors.add_donors.Goals as goal

pub loop-i-preserved : goal.loop-i-preserved
loop-i-preserved g c m level tells =
    let i = c.loop-i.i in
    let d : Dir = get_or directions i East in
    let place : order_of d ≡ i = order_at i East c.loop-i-test.true in
    let p = c.args.point in
    let Drains = DrainsBack (terrain m) level p in
    let start = c.args.found.now.items in
    let old = c.loop-i.found.items in
    let new = c.add_donor.new.found.items in
    subst (λ k. AreDonorsBy Drains p start new (k + 1)) place
    (one_more Drains p start old new d (subst (AreDonorsBy Drains p start old) (sym place) (c.loop-i.invariant m level tells))
    (c.in_ok-add_donor.ensures m level (g.met.F.FlowSource.is_mosaic c.donors.new.flows m level tells)
    (subst (λ k. IsTrue (get_or c.in_ok-donors.donors k false) ↔ Drains d) place (c.in_ok-donors.ensures.donors m level tells d (order_below d)))))

pub returns-clause-donors : goal.returns-clause-donors
returns-clause-donors g c m level tells = all_donors (terrain m) level c.args.point c.args.found.now.items c.loop-i.found.items c.loop-i.i c.loop-i-test.false (c.loop-i.invariant m level tells)
