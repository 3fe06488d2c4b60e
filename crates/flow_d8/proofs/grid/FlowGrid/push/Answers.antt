use Rattle.flow_d8.proofs.Prelude.{ap, arith, length, ◌∙◌}
use Rattle.std.proofs.lemmas.List.{length-append}
use Rattle.flow_d8.proofs.Samples.Slots.{flows_push, here_push, keeps_push, whole_push}
use Rattle.flow_d8.proofs.grid.FlowGrid.push.Goals as goal

pub invariant_of-self-in-Ok-clause-few : goal.invariant_of-self-in-Ok-clause-few
invariant_of-self-in-Ok-clause-few c =
    let long = ap length c.in_ok-extend_from_slice.ensures.items ∙ length-append c.args.self.now.flows.items c.args.flows.now in
    omega (arith, long)

pub invariant_of-self-in-Ok-clause-whole : goal.invariant_of-self-in-Ok-clause-whole
invariant_of-self-in-Ok-clause-whole c =
    let s = c.args.self.now in
    let e = c.in-Ok.ensures in
    whole_push s.tiles c.tiles-valid.ensures.valid s.flows.items s.whole c.push.new.self c.args.corner c.args.flows.now c.extend_from_slice.new.self.items e.side e.pushed c.requires.whole c.in_ok-extend_from_slice.ensures.items

pub returns-in-Ok-clause-here : goal.returns-in-Ok-clause-here
returns-in-Ok-clause-here c known p holds off =
    let s = c.args.self.now in
    let e = c.in-Ok.ensures in
    here_push s.tiles c.tiles-valid.ensures.valid s.flows.items s.whole c.push.new.self c.args.corner c.args.flows.now c.extend_from_slice.new.self.items e.side e.pushed c.requires.whole c.in_ok-extend_from_slice.ensures.items known p holds off

pub returns-in-Ok-clause-kept : goal.returns-in-Ok-clause-kept
returns-in-Ok-clause-kept c p known =
    let s = c.args.self.now in
    let e = c.in-Ok.ensures in
    keeps_push s.tiles c.tiles-valid.ensures.valid s.flows.items s.whole c.push.new.self c.args.corner c.args.flows.now c.extend_from_slice.new.self.items e.side e.pushed c.requires.whole c.in_ok-extend_from_slice.ensures.items p known

pub returns-in-Ok-clause-flows : goal.returns-in-Ok-clause-flows
returns-in-Ok-clause-flows c t level all are =
    let s = c.args.self.now in
    let e = c.in-Ok.ensures in
    flows_push s.tiles c.tiles-valid.ensures.valid s.flows.items s.whole c.push.new.self c.args.corner c.args.flows.now c.extend_from_slice.new.self.items e.side e.pushed c.requires.whole c.in_ok-extend_from_slice.ensures.items t level all are
