use Rattle.store.proofs.Prelude.{IsHeldOf, mosaic_of}
use Rattle.store.proofs.store.Store.direction.Given as goal

-- The cache is right now.
abbrev pub ghosts-ask_direction : goal.ghosts-ask_direction
ghosts-ask_direction g a = record { holds = IsHeldOf (mosaic_of g.D.Disk a.tree.now) a.held.now }
