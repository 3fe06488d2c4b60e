use Rattle.page_map.proofs.Prelude.{arith}
use Rattle.page_map.proofs.Owning.{owned_alone, owned_listed}
use Rattle.page_map.proofs.plane_entry.own_listed.Goals as goal
use Rattle.page_map.proofs.plane_entry.own_listed.Goals.{then-index_page-count, else-index_page-count}

pub returns : goal.returns
returns c = elim c.if-index_page-count.branch [
  | then-index_page-count w ↦
      owned_listed c.args.committed.now c.args.i w.make_writable.result c.make_writable-2.result c.args.location.now w.make_writable.new.location c.make_writable-2.new.location c.args.free.now w.make_writable.new.free c.make_writable-2.new.free
      (omega (arith, w.if-index_page-count.true, c.index_count-count.ensures.value)) w.make_writable.ensures.moved w.make_writable.ensures.owned
      (rw (w.location-is, c.index_count-count.ensures.value) at c.make_writable-2.ensures.moved) (rw (w.location-is, w.free-is) at c.make_writable-2.ensures.owned)
  | else-index_page-count w ↦
      owned_alone c.args.committed.now c.args.i c.make_writable-2.result c.args.location.now c.make_writable-2.new.location c.args.free.now c.make_writable-2.new.free
      (omega (arith, w.if-index_page-count.false, c.index_count-count.ensures.value))
      (rw (w.location-is, c.index_count-count.ensures.value) at c.make_writable-2.ensures.moved) (rw (w.location-is, w.free-is) at c.make_writable-2.ensures.owned)
]
