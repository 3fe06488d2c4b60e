use Rattle.stored_mosaic.proofs.Reading.Querying.{still_clean}
use Rattle.store.proofs.Reading.Tested.{tested, still_held}
use Rattle.store.proofs.store.Store.is_current.Goals as goal

pub invariant_of-self : goal.invariant_of-self
invariant_of-self g c =
    let old = c.args.self.now in
    record { clean = still_clean g.D.Disk old.tree c.is_current.new.self c.in_ok-check_working.ensures.works c.is_current.ensures.reads.keeps old.clean }

pub returns : goal.returns
returns g c =
    let d = g.D.Disk in
    let old = c.args.self.now in
    let new = c.is_current.new.self in
    let works = c.in_ok-check_working.ensures.works in
    let reads = c.is_current.ensures.reads in
    record {
      reads = tested d old.tree new works c.is_current.result reads;
      refused = reads.refused;
      works = reads.not_failed;
      yes = λ honest s at. c.is_current.ensures.yes honest (at.in_state.sound works).stored (at.in_state.sound works).tree;
      state = λ honest s at. still_held d old.tree new works old.held c.is_current.result reads honest s at;
      says = c.is_current.ensures.greatest;
    }
