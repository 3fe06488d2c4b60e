use Rattle.store.proofs.Prelude.{IsHeldOf, mosaic_of}
use Rattle.store.proofs.store.Store.upstream.Given as goal

-- The cache is right now.
abbrev pub ghosts-ask_upstream : goal.ghosts-ask_upstream
ghosts-ask_upstream g a = record { holds = IsHeldOf (mosaic_of g.D.Disk a.tree.now) a.held.now }
