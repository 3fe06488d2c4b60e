use Rattle.std.proofs.Common.{◌≡◌, ◌++◌, [], ◌∷◌, length, rules, arith, get_or}
use Rattle.std.proofs.lemmas.Grind.{common_steps}
use Rattle.disk.specs.Record.{blank, settled_content}
use Rattle.disk.specs.declared.sector.Sector.{Sector}
use Rattle.disk.specs.declared.sector.Content.TheVariants.{Written}
use Rattle.disk.specs.declared.memory.Call.TheVariants.{Wrote}
use Rattle.disk.proofs.Replay.{unmoved_elapses, unmoved_torn, replay_last, wrote_here, wrote_others, wrote_torn, wrote_elapses}
use Rattle.disk.proofs.Sectors.{wrote_replays}
use Rattle.disk.proofs.memory.MemDiskDisk.write.Goals as goal

pub returns-then-is_err-clause-may : goal.returns-then-is_err-clause-may
returns-then-is_err-clause-may c = unmoved_torn c.args.self.now.calls.items c.push.new.self.items c.args.s (search rules)

pub returns-then-is_err-clause-time : goal.returns-then-is_err-clause-time
returns-then-is_err-clause-time c = unmoved_elapses c.args.self.now.calls.items c.push.new.self.items _ (search rules)

pub invariant_of-self-2-clause-replays : goal.invariant_of-self-2-clause-replays
invariant_of-self-2-clause-replays c =
    let held = c.args.self.now in
    let same : c.push.new.self.items ≡ held.calls.items ++ Wrote c.args.s c.args.from.now ∷ [] = search rules in
    let made : Sector = record { seen = Written c.len-call.result; settled = c.settled_content.result; written = c.len.result } in
    let kept : c.settled_content.result ≡ settled_content held.synced (get_or held.sectors.items c.args.s blank) = grind (arith, common_steps) in
    let first : c.len-call.result ≡ length held.calls.items = grind (arith, common_steps) in
    let last : c.len.result ≡ length c.push.new.self.items = grind (arith, common_steps) in
    wrote_replays held.sectors.items held.synced c.args.s c.args.from.now held.calls.items c.push.new.self.items same (omega (arith, held.sized)) held.replays made (cc (kept, first, last))

pub returns-clause-written : goal.returns-clause-written
returns-clause-written c = wrote_here c.args.self.now.calls.items c.push.new.self.items c.args.s c.args.from.now (search rules)

pub returns-clause-others : goal.returns-clause-others
returns-clause-others c = wrote_others c.args.self.now.calls.items c.push.new.self.items c.args.s c.args.from.now (search rules)

pub returns-clause-may : goal.returns-clause-may
returns-clause-may c = wrote_torn c.args.self.now.calls.items c.push.new.self.items c.args.s c.args.from.now (search rules)

pub returns-clause-time : goal.returns-clause-time
returns-clause-time c = wrote_elapses c.args.self.now.calls.items c.push.new.self.items c.args.s c.args.from.now (search rules)

pub returns-clause-state : goal.returns-clause-state
returns-clause-state c = replay_last c.args.self.now.calls.items c.push.new.self.items (Wrote c.args.s c.args.from.now) (search rules)
