use Rattle.std.proofs.Common.{◌≡◌, ◌++◌, [], ◌∷◌, rules, arith, get_or}
use Rattle.std.proofs.lemmas.Grind.{common_steps}
use Rattle.disk.specs.Record.{blank, settled_with, left_content}
use Rattle.disk.specs.declared.memory.Call.TheVariants.{StoppedAt}
use Rattle.disk.proofs.Replay.{unmoved_elapses, replay_last, stopped_at_here, stopped_at_others, stopped_at_none, stopped_at_elapses}
use Rattle.disk.proofs.Sectors.{stopped_at_replays}
use Rattle.disk.proofs.memory.MemDisk.stop_at.Goals as goal

pub returns-in_err-push-clause-time : goal.returns-in_err-push-clause-time
returns-in_err-push-clause-time c = unmoved_elapses c.args.self.now.calls.items c.push.new.self.items _ (search rules)

pub invariant_of-self-2-clause-replays : goal.invariant_of-self-2-clause-replays
invariant_of-self-2-clause-replays c =
    let held = c.args.self.now in
    let same : c.push.new.self.items ≡ held.calls.items ++ StoppedAt c.args.s c.args.torn ∷ [] = search rules in
    let made : c.settled_with.result ≡ settled_with (left_content c.args.torn held.synced (get_or held.sectors.items c.args.s blank)) = grind (arith, common_steps) in
    stopped_at_replays held.sectors.items held.synced c.args.s c.args.torn held.calls.items c.push.new.self.items same (omega (arith, held.sized)) held.replays c.settled_with.result made

pub returns-clause-left : goal.returns-clause-left
returns-clause-left c = stopped_at_here c.args.self.now.calls.items c.push.new.self.items c.args.s c.args.torn (search rules)

pub returns-clause-others : goal.returns-clause-others
returns-clause-others c = stopped_at_others c.args.self.now.calls.items c.push.new.self.items c.args.s c.args.torn (search rules)

pub returns-clause-state : goal.returns-clause-state
returns-clause-state c = replay_last c.args.self.now.calls.items c.push.new.self.items (StoppedAt c.args.s c.args.torn) (search rules)

pub returns-clause-may : goal.returns-clause-may
returns-clause-may c = stopped_at_none c.args.self.now.calls.items c.push.new.self.items c.args.s c.args.torn (search rules)

pub returns-clause-time : goal.returns-clause-time
returns-clause-time c = stopped_at_elapses c.args.self.now.calls.items c.push.new.self.items c.args.s c.args.torn (search rules)
