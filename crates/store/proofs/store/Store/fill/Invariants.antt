use Rattle.store.proofs.Prelude.{IsHeldOf, mosaic_of}
use Rattle.store.proofs.store.Store.fill.Given as goal

-- The cache is right now.
abbrev pub ghosts-ask_fill : goal.ghosts-ask_fill
ghosts-ask_fill g a = record { holds = IsHeldOf (mosaic_of g.D.Disk a.tree.now) a.held.now }
