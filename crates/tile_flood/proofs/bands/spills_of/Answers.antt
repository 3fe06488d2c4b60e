use Rattle.tile_flood.proofs.Prelude.{AreFirsts, IsInOrder, arith, mul-le-mul_right, subst, sym, ◌*◌, ◌≤◌, length}
use Rattle.labelling.proofs.Passages.{rises}
use Rattle.tile_flood.proofs.RowBands.{spills_of_points}
use Rattle.tile_flood.proofs.bands.spills_of.Goals as goal

pub first_of_each-requires : goal.first_of_each-requires
first_of_each-requires c =
    let sorted = c.sort.new.self.items in
    let in_order : IsInOrder sorted = λ k d small. rises _ _ (c.in_ok-sort.ensures.sorted k d (omega arith) small) in
    subst IsInOrder (sym c.deref.ensures.value) in_order

pub returns-clause-spills : goal.returns-clause-spills
returns-clause-spills c n levels labels are =
    let whole : n * n ≤ (length c.args.bands.now * 32) * n = mul-le-mul_right n are.whole in
    spills_of_points n levels labels ((length c.args.bands.now * 32) * n) c.in_ok-found.found.items c.sort.new.self.items c.in_ok-first_of_each.field-0.items whole (c.in_ok-found.ensures n levels labels are) c.in_ok-sort.ensures.permutation
    (subst (λ l. AreFirsts l c.in_ok-first_of_each.field-0.items) c.deref.ensures.value c.in_ok-first_of_each.ensures)
