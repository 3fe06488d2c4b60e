use Rattle.page_map.proofs.Prelude.{Entry, List, subst, ◌∙◌}
use Rattle.page_map.proofs.Ending.{IsGivenBack, given_next, next_in_use}
use Rattle.page_map.proofs.page_map.give_back.Goals as goal

pub give_back-requires : goal.give_back-requires
give_back-requires c =
    next_in_use c.args.ending c.args.entries.now.entries (c.in-Some.field-0-0.now, c.in-Some.entry.now) c.next.new.self c.loop-entry.free
    (subst (λ (l : List Entry). IsGivenBack c.args.ending c.args.entries.now.entries l c.loop-entry.free) c.in-Some.ensures.steps c.loop-entry.invariant.given)

pub loop-entry-preserved : goal.loop-entry-preserved
loop-entry-preserved c = record {
  range = c.give_back.ensures.same_range ∙ c.loop-entry.invariant.range;
  given = given_next c.args.ending c.args.entries.now.entries (c.in-Some.field-0-0.now, c.in-Some.entry.now) c.next.new.self c.loop-entry.free
      (subst (λ (l : List Entry). IsGivenBack c.args.ending c.args.entries.now.entries l c.loop-entry.free) c.in-Some.ensures.steps c.loop-entry.invariant.given) c.give_back.new.free c.give_back.ensures;
}
