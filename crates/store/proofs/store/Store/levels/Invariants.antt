use Rattle.store.proofs.Prelude.{IsHeldOf, mosaic_of}
use Rattle.store.proofs.store.Store.levels.Given as goal

-- The cache is right now.
abbrev pub ghosts-ask_levels : goal.ghosts-ask_levels
ghosts-ask_levels g a = record { holds = IsHeldOf (mosaic_of g.D.Disk a.tree.now) a.held.now }
