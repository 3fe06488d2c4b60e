use Rattle.page_map.proofs.Prelude.{Entry, IsKept, List, ap, ended_entry, ended_page_map, filter, map, page_map_of, rules, ◌∙◌, ◌≡◌}
use Rattle.page_map.proofs.PageMapRules.{mapped}
use Rattle.page_map.proofs.Ending.{ended_left, is_left, kept_left, page_map_left}
use Rattle.page_map.proofs.page_map.PageMap.end.Goals as goal
use Rattle.page_map.proofs.page_map.PageMap.end.Goals.{After-retain}

module _ (c : After-retain) where
  left_is : c.retain.new.self.entries ≡ filter is_left (map (ended_entry c.args.ending) c.self.inside.entries.entries)
  left_is = ended_left _ c.args.ending _ (λ k s b w f t. search rules) _ _ c.retain.ensures.filtered

  kept_now : IsKept c.self.inside.format c.retain.new.self.entries c.give_back.new.free
  kept_now = rw left_is (kept_left c.args.ending c.self.inside.format c.self.inside.entries.entries c.self.inside.free c.give_back.new.free c.self.invariant c.give_back.ensures.range c.give_back.ensures.counted)

pub invariant_of-self : goal.invariant_of-self
invariant_of-self c = kept_now (goal.at.invariant_of-self c).After-retain

pub returns-clause-ended : goal.returns-clause-ended
returns-clause-ended c =
    ap (λ (l : List Entry). page_map_of c.self.inside.format l c.give_back.new.free) (left_is (goal.at.returns-clause-ended c).After-retain)
    ∙ (page_map_left c.args.ending c.self.inside.format c.self.inside.entries.entries c.self.inside.free c.give_back.new.free c.self.invariant c.give_back.ensures.range c.give_back.ensures.counted
    ∙ ap (ended_page_map c.args.ending) c.self.view_is)

pub returns-clause-rules : goal.returns-clause-rules
returns-clause-rules c = mapped c.self.inside.format _ c.give_back.new.free (kept_now (goal.at.returns-clause-rules c).After-retain)
