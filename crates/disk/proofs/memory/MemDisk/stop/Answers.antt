use Rattle.std.proofs.Common.{◌≡◌, ◌++◌, [], ◌∷◌, length, map, rules, arith, ap, ◌∙◌}
use Rattle.std.proofs.lemmas.Grind.{common_steps}
use Rattle.std.proofs.lemmas.List.{with_items_is, length-map}
use Rattle.std.specs.Vec.{with_items}
use Rattle.disk.specs.Record.{settled_with, left_content}
use Rattle.disk.specs.Memory.{State}
use Rattle.disk.specs.declared.sector.Sector.{Sector}
use Rattle.disk.specs.declared.memory.Call.TheVariants.{Stopped}
use Rattle.disk.proofs.Replay.{unmoved_elapses, replay_last, stopped_only, stopped_stays, stopped_none, stopped_elapses}
use Rattle.disk.proofs.Sectors.{stopped_replays}
use Rattle.disk.proofs.memory.MemDisk.stop.Goals as goal

pub returns-in_err-push-clause-time : goal.returns-in_err-push-clause-time
returns-in_err-push-clause-time c = unmoved_elapses c.args.self.now.calls.items c.push.new.self.items _ (search rules)

pub invariant_of-self-2-clause-replays : goal.invariant_of-self-2-clause-replays
invariant_of-self-2-clause-replays c =
    let held = c.args.self.now in
    let same : c.push.new.self.items ≡ held.calls.items ++ Stopped c.args.torn ∷ [] = search rules in
    let settle : Sector → Sector = λ sector. settled_with (left_content c.args.torn held.synced sector) in
    let here : c.settle_each.new.sectors ≡ map settle held.sectors.items = grind (arith, common_steps) in
    let long : length c.settle_each.new.sectors ≡ held.sectors.len = omega (arith, ap length here, length-map held.sectors.items settle, held.sectors.ok.0) in
    let made : (with_items held.sectors c.settle_each.new.sectors).items ≡ map settle held.sectors.items = with_items_is held.sectors c.settle_each.new.sectors long ∙ here in
    stopped_replays held.sectors.items _ held.synced c.args.torn held.calls.items c.push.new.self.items same held.replays made

pub returns-clause-left : goal.returns-clause-left
returns-clause-left c = ap (λ (u : State). u.seen) (replay_last c.args.self.now.calls.items c.push.new.self.items (Stopped c.args.torn) (search rules))

pub returns-clause-settled : goal.returns-clause-settled
returns-clause-settled c = stopped_only c.args.self.now.calls.items c.push.new.self.items c.args.torn (search rules)

pub returns-clause-state : goal.returns-clause-state
returns-clause-state c = replay_last c.args.self.now.calls.items c.push.new.self.items (Stopped c.args.torn) (search rules)

pub returns-clause-may : goal.returns-clause-may
returns-clause-may c = stopped_none c.args.self.now.calls.items c.push.new.self.items c.args.torn (search rules)

pub returns-clause-time : goal.returns-clause-time
returns-clause-time c = stopped_elapses c.args.self.now.calls.items c.push.new.self.items c.args.torn (search rules)

pub returns-clause-stays : goal.returns-clause-stays
returns-clause-stays c = stopped_stays c.args.self.now.calls.items c.push.new.self.items c.args.torn (search rules)
