use Rattle.page_map.proofs.Prelude.{false, false≢true, get_or, length, sym, ◌<◌, ◌∙◌, ◌≡◌, ◌≢◌}
use Rattle.page_map.proofs.GivenSoFar.{given_same, can_give, given_more}
use Rattle.page_map.proofs.pages.give_differing.Goals as goal
use Rattle.page_map.proofs.pages.give_differing.Goals.{then-not-stands_at, else-not-stands_at, After-stands_at}

apart : (c : After-stands_at) → c.stands_at.result ≡ false → c.loop-i.i < length c.args.others.now → get_or c.args.pages.now c.loop-i.i 0 ≢ get_or c.args.others.now c.loop-i.i 0
apart c differs within same = false≢true (sym differs ∙ c.stands_at.ensures.1 (within, sym same))

pub give-requires : goal.give-requires
give-requires c = can_give _ _ _ _ _ c.loop-i.invariant c.loop-i-test.true c.requires (apart (goal.at.give-requires c).After-stands_at c.if-not-stands_at.true)

pub loop-i-preserved : goal.loop-i-preserved
loop-i-preserved c = elim c.if-not-stands_at.branch [
  | then-not-stands_at w ↦
      rw w.free-is (given_more _ _ _ _ _ c.loop-i.invariant c.loop-i-test.true c.requires (apart (goal.at.loop-i-preserved c).After-stands_at w.if-not-stands_at.true) _ w.give.ensures)
  | else-not-stands_at w ↦
      let there = c.stands_at.ensures.0 w.if-not-stands_at.false in
      rw w.free-is (given_same _ _ _ _ _ c.loop-i.invariant c.loop-i-test.true there.0 there.1)
]
