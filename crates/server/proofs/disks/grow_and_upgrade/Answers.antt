use Rattle.std.proofs.Common.{rules, ℕ, List, Err, [], ◌∷◌, inl, inr, refl, subst}
use Rattle.page_codec.specs.Sizes.{sectors_asked}
use Rattle.store.specs.Formatted.{format_2}
use Rattle.store.specs.Sessions.{Session, Unopened, Ended}
use Rattle.store.specs.Stores.{disk_of, side_of, capacity_of}
use Rattle.server.specs.OnDisks.{RunsGrown}
use Rattle.server.specs.Places.{HasGrown, HasNotGrown}
use Rattle.server.proofs.disks.grow_and_upgrade.Goals as goal
use Rattle.server.proofs.disks.grow_and_upgrade.Goals.{After-into_disk-disk}

pub returns-in-Err : goal.returns-in-Err
returns-in-Err g c = (Unopened c.args.disk (Err c.in-Err.refused) ∷ [], inl (c.in-Err.refused, refl, c.in-Err.ensures, refl, c.refuse.ensures))

-- A first session measured the disk.
module _ (g : _) (c : After-into_disk-disk g) where
  measured : (left : _) (more : List (Session g.D.Disk)) (written now : _) (status : ℕ) → RunsGrown g.D.Disk c.sectors_to_upgrade-sectors.result c.into_disk-disk.result left more written now status
      → RunsGrown g.D.Disk (sectors_asked (format_2 (side_of c.in-Ok.store) (capacity_of c.in-Ok.store))) (disk_of c.in-Ok.store) left more written now status
  measured left more written now status runs =
      subst (λ disk. RunsGrown g.D.Disk (sectors_asked (format_2 (side_of c.in-Ok.store) (capacity_of c.in-Ok.store))) disk left more written now status) c.into_disk-disk.ensures
      (subst (λ (n : ℕ). RunsGrown g.D.Disk n c.into_disk-disk.result left more written now status) c.sectors_to_upgrade-sectors.ensures runs)

pub returns-then-is_err : goal.returns-then-is_err
returns-then-is_err g c =
    let short : HasNotGrown g.D.Disk c.into_disk-disk.result c.lengthen.new.self = search rules in
    (Ended c.args.disk c.in-Ok.store [] ∷ [], inr (c.in-Ok.store, [], refl, c.in-Ok.ensures, measured g (goal.at.returns-then-is_err g c).After-into_disk-disk _ _ _ _ _ (inl (refl, short, c.refuse-then-is_err.ensures))))

pub returns : goal.returns
returns g c =
    let longer : HasGrown g.D.Disk c.sectors_to_upgrade-sectors.result c.into_disk-disk.result c.lengthen.new.self = search rules in
    let (sessions, upgrades) = c.upgrade_store.ensures in
    (Ended c.args.disk c.in-Ok.store [] ∷ sessions, inr (c.in-Ok.store, sessions, refl, c.in-Ok.ensures, measured g (goal.at.returns g c).After-into_disk-disk _ _ _ _ _ (inr (c.lengthen.new.self, longer, upgrades))))
