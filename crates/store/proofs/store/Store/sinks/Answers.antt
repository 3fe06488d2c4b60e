use Rattle.store.proofs.Prelude.{◌∙◌}
use Rattle.engine.specs.declared.event.Event.TheVariants as ask
use Rattle.engine.specs.declared.event.Reply.TheVariants as reply
use Rattle.engine.proofs.Questions.{sinks_asked}
use Rattle.stored_mosaic.proofs.Reading.Querying.{stays_at}
use Rattle.store.proofs.Calls.StoreCalls.{told_it}
use Rattle.store.proofs.store.Store.sinks.Goals as goal

pub returns : goal.returns
returns g c =
    let store = c.args.self.now in
    let works = c.in_ok-check_working.ensures.works in
    told_it g.D.Disk g.met.D.Disk.only_now store sinks_asked works c.in_ok-from_slice.field-0
    (λ honest s at.
    let sound = at.in_state.sound works in
    (stays_at g.D.Disk store.tree works s at.in_state, c.in_ok-from_slice.ensures.items ∙ c.sinks.ensures.value ∙ sound.none_declared ∙ sound.holds.sinks))
