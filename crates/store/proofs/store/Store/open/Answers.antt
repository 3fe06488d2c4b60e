use Rattle.std.proofs.Common.{⊎_elim}
use Rattle.stored_mosaic.proofs.Calls.Opened.{in_one, refused_for, found_one}
use Rattle.store.proofs.Reading.WaterHeld.{one_holding}
use Rattle.store.proofs.store.Store.open.Goals as goal

pub returns-in-Err-clause-sure : goal.returns-in-Err-clause-sure
returns-in-Err-clause-sure g c honest side capacity a b each =
    let d = g.D.Disk in
    let seen = d.seen c.args.disk in
    let n = d.size c.args.disk in
    let was_honest = (c.in-Err.ensures.nothing honest).honest in
    let refused = c.in-Err.ensures.refused honest in
    ⊎_elim (λ is. refused_for n seen is.0 c.in-Err.refused.refusal is.1 refused) (λ is. refused_for n seen is.0 c.in-Err.refused.refusal is.1 refused)
    (each seen (g.met.D.Disk.seen_may c.args.disk was_honest))

pub returns-in-Ok-clause-at : goal.returns-in-Ok-clause-at
returns-in-Ok-clause-at g c honest side capacity a b each =
    let d = g.D.Disk in
    let tree = c.in-Ok.tree in
    let seen = d.seen c.args.disk in
    let was_honest = (c.in-Ok.ensures.nothing honest).honest in
    let at = c.in-Ok.ensures.at honest in
    let (n, (m, one)) = in_one d tree at.0 at.1.1.0 at.1.1.1 (g.met.D.Disk.seen_may tree.roots.disk honest) side capacity c.in-Ok.ensures.sinks a b
    (found_one (d.size c.args.disk) seen side capacity at.0 a b at.1.0 (each seen (g.met.D.Disk.seen_may c.args.disk was_honest))) in
    (n, (m, one_holding d tree c.new.result c.new.ensures a b one))
