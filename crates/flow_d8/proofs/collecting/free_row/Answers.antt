use Rattle.flow_d8.proofs.Prelude.{arith, cases_eq, inl, inr}
use Rattle.flow_d8.proofs.Waves.Runs.{flat_small}
use Rattle.flow_d8.proofs.collecting.free_row.Goals as goal

pub short-requires-2 : goal.short-requires-2
short-requires-2 c = elim (cases_eq c.last_free-last.result c.args.to) [
  | inl same ↦ omega (arith, same, c.requires.to)
  | inr other ↦ omega (arith, c.args.known.now.whole, flat_small c.args.known.now.flows.now c.last_free-last.result (c.last_free-last.ensures.flat c.last_free-last.result (omega (arith, other, c.last_free-last.ensures.from)) (omega arith)))
]
