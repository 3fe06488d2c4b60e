use Rattle.page_map.proofs.Prelude.{IsPageMap, PageMapValue, subst}
use Rattle.page_map.proofs.PageMapRules.{mapped}
use Rattle.page_map.proofs.page_map.PageMap.rules.Goals as goal

pub returns : goal.returns
returns c = subst (λ (v : PageMapValue). IsPageMap v) c.self.view_is (mapped c.self.inside.format c.self.inside.entries.entries c.self.inside.free c.self.invariant)
