use Rattle.page_map.proofs.Prelude.{AreGiven, [], differing, pages_behind, ◌∷◌}
use Rattle.page_map.proofs.FreeTimes.{rest_in_use_still, given-append}
use Rattle.page_map.proofs.pages.give_replaced.Goals as goal
use Rattle.page_map.proofs.pages.give_replaced.Goals.{After-give}

record_given : (c : After-give) → AreGiven (c.args.plane.now.record_page ∷ []) c.args.free.now c.give.new.self
record_given c = rw c.record_page.ensures at c.give.ensures

pub give_differing-requires : goal.give_differing-requires
give_differing-requires c =
    let rest = rest_in_use_still (c.args.plane.now.record_page ∷ []) [] (differing (pages_behind c.args.plane.now) c.args.others.now) _ _ (record_given (goal.at.give_differing-requires c).After-give) c.requires in
    rw c.behind.ensures rest

pub returns : goal.returns
returns c =
    let rest : AreGiven (differing (pages_behind c.args.plane.now) c.args.others.now) c.give.new.self c.give_differing.new.free = rw c.behind.ensures at c.give_differing.ensures in
    given-append (c.args.plane.now.record_page ∷ []) (differing (pages_behind c.args.plane.now) c.args.others.now) _ _ _ (record_given (goal.at.returns c).After-give) rest
