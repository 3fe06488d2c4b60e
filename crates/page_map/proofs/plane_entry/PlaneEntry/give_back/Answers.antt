use Rattle.page_map.proofs.Prelude.{AsCommitted, fresh_in, pages_at, refl}
use Rattle.page_map.proofs.FreeTimes.{in_use-last}
use Rattle.page_map.proofs.PlaneChanges.{given_balanced}
use Rattle.page_map.proofs.plane_entry.PlaneEntry.give_back.Goals as goal

pub give_staged-requires : goal.give_staged-requires
give_staged-requires c = in_use-last (pages_at c.args.self.now.committed) (fresh_in c.args.self.now) c.args.free.now c.requires

pub returns-in-RolledBack : goal.returns-in-RolledBack
returns-in-RolledBack c = rw c.in-RolledBack.is (given_balanced c.args.self.now AsCommitted c.args.free.now c.give_staged.new.free refl c.give_staged.ensures)
