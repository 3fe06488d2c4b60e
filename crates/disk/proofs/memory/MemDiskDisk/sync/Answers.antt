use Rattle.std.proofs.Common.{◌≡◌, ◌++◌, [], ◌∷◌, length, rules, arith}
use Rattle.std.proofs.lemmas.Grind.{common_steps}
use Rattle.disk.specs.declared.memory.Call.TheVariants.{Synced}
use Rattle.disk.proofs.Replay.{unmoved_elapses, replay_last, synced_only, synced_none, synced_elapses}
use Rattle.disk.proofs.Sectors.{synced_replays}
use Rattle.disk.proofs.memory.MemDiskDisk.sync.Goals as goal

pub returns-then-is_err-clause-time : goal.returns-then-is_err-clause-time
returns-then-is_err-clause-time c = unmoved_elapses c.args.self.now.calls.items c.push.new.self.items _ (search rules)

pub invariant_of-self-2-clause-replays : goal.invariant_of-self-2-clause-replays
invariant_of-self-2-clause-replays c =
    let held = c.args.self.now in
    let same : c.push.new.self.items ≡ held.calls.items ++ Synced ∷ [] = search rules in
    let last : c.len-self.result ≡ length c.push.new.self.items = grind (arith, common_steps) in
    synced_replays held.sectors.items held.synced c.len-self.result held.calls.items c.push.new.self.items same last held.replays

pub returns-clause-durable : goal.returns-clause-durable
returns-clause-durable c = synced_only c.args.self.now.calls.items c.push.new.self.items (search rules)

pub returns-clause-may : goal.returns-clause-may
returns-clause-may c = synced_none c.args.self.now.calls.items c.push.new.self.items (search rules)

pub returns-clause-time : goal.returns-clause-time
returns-clause-time c = synced_elapses c.args.self.now.calls.items c.push.new.self.items (search rules)

pub returns-clause-state : goal.returns-clause-state
returns-clause-state c = replay_last c.args.self.now.calls.items c.push.new.self.items Synced (search rules)
