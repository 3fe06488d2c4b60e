use Rattle.stored_mosaic.proofs.Reading.Querying.{still_clean}
use Rattle.store.proofs.Reading.Tested.{tested, still_held}
use Rattle.store.proofs.store.Store.confirm.Goals as goal

pub invariant_of-self : goal.invariant_of-self
invariant_of-self g c =
    let old = c.args.self.now in
    record { clean = still_clean g.D.Disk old.tree c.confirm.new.self c.in_ok-check_working.ensures.works c.confirm.ensures.reads.keeps old.clean }

pub returns-clause-tests : goal.returns-clause-tests
returns-clause-tests g c =
    let d = g.D.Disk in
    let old = c.args.self.now in
    let new = c.confirm.new.self in
    let works = c.in_ok-check_working.ensures.works in
    let reads = c.confirm.ensures.reads in
    record {
      reads = tested d old.tree new works c.confirm.result reads;
      refused = reads.refused;
      works = reads.not_failed;
      yes = λ honest s at. c.confirm.ensures.yes honest (at.in_state.sound works).stored (at.in_state.sound works).tree;
      state = λ honest s at. still_held d old.tree new works old.held c.confirm.result reads honest s at;
      says = c.confirm.ensures.stands;
    }
