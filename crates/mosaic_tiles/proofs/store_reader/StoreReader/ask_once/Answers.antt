use Rattle.mosaic_tiles.proofs.Confirming.{confirmed, one_more}
use Rattle.mosaic_tiles.proofs.store_reader.StoreReader.ask_once.Goals as goal

pub invariant_of-self : goal.invariant_of-self
invariant_of-self g c = record {
  confirmed = one_more g.D.Disk c.in_ok-store.store c.confirm.new.self c.args.event.now c.answer-reply.result c.in_ok-store.ensures
      (confirmed g.D.Disk c.in_ok-store.store c.is_current.new.self c.answer-reply.new.self c.confirm.new.self c.args.event.now c.answer-reply.result c.in-Ok.current c.in-Ok-confirm.stands c.in-Ok.ensures c.if-not-current.false c.answer-reply.ensures c.in-Ok-confirm.ensures.tests c.in-Ok-confirm.ensures.tested c.if-not-stands.false);
}

pub returns : goal.returns
returns g c = (
  c.in_ok-store.store,
  c.confirm.new.self,
  c.in_ok-store.ensures,
  confirmed g.D.Disk c.in_ok-store.store c.is_current.new.self c.answer-reply.new.self c.confirm.new.self c.args.event.now c.answer-reply.result c.in-Ok.current c.in-Ok-confirm.stands c.in-Ok.ensures c.if-not-current.false c.answer-reply.ensures c.in-Ok-confirm.ensures.tests c.in-Ok-confirm.ensures.tested c.if-not-stands.false,
)
