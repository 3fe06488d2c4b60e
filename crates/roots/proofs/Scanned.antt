-- A successful sync followed by reads.
use Rattle.std.proofs.Common.{◌≡◌}
use Rattle.disk.specs.Disk.{Only}
use Rattle.disk.specs.declared.disk.Disk.{Ghosts}

module _ {D : Type 0} (g : Ghosts D) (old mid : D) (only : Only (g.seen old) (g.may mid)) (seen_may : g.may mid (g.seen mid)) where
  pub seen_old : g.seen mid ≡ g.seen old
  seen_old = only (g.seen mid) seen_may
