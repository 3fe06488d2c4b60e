use Rattle.store.proofs.Prelude.{IsHeldOf, mosaic_of}
use Rattle.store.proofs.store.Store.watershed.Given as goal

-- The cache is right now.
abbrev pub ghosts-ask_watershed : goal.ghosts-ask_watershed
ghosts-ask_watershed g a = record { holds = IsHeldOf (mosaic_of g.D.Disk a.tree.now) a.held.now }
