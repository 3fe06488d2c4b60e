use Rattle.std.proofs.Common.{rules}
use Rattle.watershed.proofs.Prelude.{AreToldBy, Bool, Dir, DrainsBack, East, IsTrue, List, arith, directions, get_or, get_or-set_other, get_or-set_same, length, length-set, order_at, order_below, order_of, same_order, set, subst, sym, terrain, ◌+◌, ◌↔◌, ◌∙◌, ◌≡◌}
use Rattle.watershed.proofs.donors.donors.Goals as goal

-- the answers for the first directions, with one more
told_more : (Has : Dir → Type 0) (told : List Bool) (d : Dir) (is : Bool) → length told ≡ 8 → AreToldBy Has told (order_of d) → IsTrue is ↔ Has d → AreToldBy Has (set told (order_of d) is) (order_of d + 1)
told_more Has told d is whole so_far here = search (rules, order_of, set, same_order, get_or-set_same, order_below, get_or-set_other)

pub loop-i-preserved : goal.loop-i-preserved
loop-i-preserved g c =
    let laws = g.met.F.FlowSource in
    let inv = c.loop-i.invariant in
    let told = c.in_ok-donors.ensures in
    let is = c.in_ok-donors.field-0 in
    let i = c.loop-i.i in
    let d : Dir = get_or directions i East in
    let place : order_of d ≡ i = order_at i East c.loop-i-test.true in
    let now = c.args.flows.now in
    let mid = c.loop-i.flows in
    let end = c.is_donor.new.flows in
    record {
      ready = told.ready;
      follows = laws.follows_on now mid end inv.follows told.follows;
      keeps = laws.keeps_on now mid end inv.keeps told.keeps;
      whole = length-set c.loop-i.donors i is ∙ inv.whole;
      told = λ m level tells.
          let Drains = DrainsBack (terrain m) level c.args.point in
          let before = inv.told m level (laws.told_before mid end m level told.follows tells) in
          subst (λ k. AreToldBy Drains (set c.loop-i.donors k is) (k + 1)) place
          (told_more Drains c.loop-i.donors d is inv.whole (subst (AreToldBy Drains c.loop-i.donors) (sym place) before) (told.donor m level tells));
    }

pub returns-clause-donors : goal.returns-clause-donors
returns-clause-donors g c m level tells d below = c.loop-i.invariant.told m level tells d (omega (arith, c.loop-i-test.false, below))
