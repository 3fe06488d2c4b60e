use Rattle.store.proofs.Prelude.{EntryValue, NoMemory, RootValue, ap, map, refl, sym, ◌∙◌}
use Rattle.std.proofs.lemmas.List.{take_all}
use Rattle.engine.proofs.Questions.{tiles_asked}
use Rattle.stored_mosaic.proofs.Reading.InMemory.{corners_are}
use Rattle.stored_mosaic.proofs.Reading.Querying.{stays_at}
use Rattle.store.proofs.Calls.StoreCalls.{refused_it, told_it}
use Rattle.store.proofs.store.Store.tiles.Goals as goal

pub returns-then-is_err : goal.returns-then-is_err
returns-then-is_err g c =
    let store = c.args.self.now in
    let works = c.in_ok-check_working.ensures.works in
    refused_it g.D.Disk g.met.D.Disk.only_now store tiles_asked works NoMemory (λ e. cc) (λ e. cc) refl (λ honest s at. stays_at g.D.Disk store.tree works s at.in_state)

pub returns : goal.returns
returns g c =
    let d = g.D.Disk in
    let store = c.args.self.now in
    let works = c.in_ok-check_working.ensures.works in
    let entries_are = c.entries-entry-items.ensures.value ∙ ap (λ (r : RootValue). r.entries) c.current.ensures in
    told_it d g.met.D.Disk.only_now store tiles_asked works c.loop-entry.corners
    (λ honest s at. (
      stays_at d store.tree works s at.in_state,
      c.loop-entry.invariant ∙ ap (map (λ (e : EntryValue). e.corner)) (take_all c.loop-entry.entry-index c.entries-entry-items.result.now c.loop-entry-test.false ∙ entries_are)
          ∙ sym (store.clean works).corners ∙ corners_are d store.tree works s at.in_state,
    ))
