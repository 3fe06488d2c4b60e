use Rattle.flow_d8.proofs.Waves.Listing.{longer_of}
use Rattle.flow_d8.proofs.Waves.Starting.{begun_at}
use Rattle.flow_d8.proofs.spreading.begin_at.Goals as goal

pub returns-clause-begins : goal.returns-clause-begins
returns-clause-begins c = rw c.set.ensures (begun_at c.args.flows.now c.args.marks.now c.args.wave.now.items c.push.new.self.items c.args.k (c.is_beside.ensures.0 c.if-not-is_beside.false) c.requires.member (longer_of c.args.wave.now.items c.push.new.self.items c.args.k c.in_ok-push.ensures.items))
