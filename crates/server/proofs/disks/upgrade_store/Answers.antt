use Rattle.std.proofs.Common.{Err, [], ◌∷◌, inl, inr, refl, sym}
use Rattle.store.specs.Sessions.{Upgraded, Unopened, Ended}
use Rattle.server.specs.OnDisks.{done_of}
use Rattle.server.proofs.disks.upgrade_store.Goals as goal

pub returns-in-Err : goal.returns-in-Err
returns-in-Err g c = (Unopened c.args.disk (Err c.in-Err.refused) ∷ [], inl (c.in-Err.refused, refl, c.in-Err.ensures, refl, c.refuse.ensures))

pub returns : goal.returns
returns g c =
    let store = c.in-Ok.store in
    let result = c.upgrade_counted-upgraded.result in
    let upgraded = c.upgrade_counted-upgraded.ensures in
    let calls = record { call = Upgraded (done_of result); store = c.upgrade_counted-upgraded.new.store } ∷ [] in (
      Ended c.args.disk store calls ∷ [],
      inr (store, calls, refl, c.in-Ok.ensures, (upgraded.upgraded, tt), sym c.into_disk.ensures, (result, refl, upgraded.count, c.end_command.ensures)),
    )
