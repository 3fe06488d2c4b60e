use Rattle.page_map.proofs.Prelude.{AreBalanced, None, Some, Staged, ap, fresh_as, settled_plane, staged_as, subst, sym, used_in}
use Rattle.page_map.proofs.PlaneChanges.{replaced_in_use, settled_balanced}
use Rattle.page_map.proofs.plane_entry.PlaneEntry.give_committed.Goals as goal

pub give_location-requires : goal.give_location-requires
give_location-requires c = replaced_in_use c.args.self.now None (ap (fresh_as c.args.self.now.committed) c.in-Dropped.is) c.args.free.now c.requires

pub give_location-requires-in-Fresh : goal.give_location-requires-in-Fresh
give_location-requires-in-Fresh c =
    rw c.behind.ensures (replaced_in_use c.args.self.now (Some c.in-Fresh.location) (ap (fresh_as c.args.self.now.committed) c.in-Fresh.is) c.args.free.now c.requires)

pub returns-in-Dropped : goal.returns-in-Dropped
returns-in-Dropped c =
    subst (λ (g : Staged). AreBalanced (used_in c.args.self.now) (used_in (settled_plane (staged_as c.args.self.now.committed g))) c.args.free.now c.give_location.new.free) (sym c.in-Dropped.is)
    (settled_balanced c.args.self.now None (ap (fresh_as c.args.self.now.committed) c.in-Dropped.is) c.args.free.now c.give_location.new.free c.give_location.ensures)

pub returns-in-Fresh : goal.returns-in-Fresh
returns-in-Fresh c =
    subst (λ (g : Staged). AreBalanced (used_in c.args.self.now) (used_in (settled_plane (staged_as c.args.self.now.committed g))) c.args.free.now c.give_location-in-Fresh.new.free) (sym c.in-Fresh.is)
    (settled_balanced c.args.self.now (Some c.in-Fresh.location) (ap (fresh_as c.args.self.now.committed) c.in-Fresh.is) c.args.free.now c.give_location-in-Fresh.new.free (rw c.behind.ensures at c.give_location-in-Fresh.ensures))
