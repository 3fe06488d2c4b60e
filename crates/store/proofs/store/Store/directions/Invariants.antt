use Rattle.store.proofs.Prelude.{IsHeldOf, mosaic_of}
use Rattle.store.proofs.store.Store.directions.Given as goal

-- The cache is right now.
abbrev pub ghosts-ask_directions : goal.ghosts-ask_directions
ghosts-ask_directions g a = record { holds = IsHeldOf (mosaic_of g.D.Disk a.tree.now) a.held.now }
