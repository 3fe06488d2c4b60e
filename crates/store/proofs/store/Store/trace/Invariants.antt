use Rattle.store.proofs.Prelude.{IsHeldOf, mosaic_of}
use Rattle.store.proofs.store.Store.trace.Given as goal

-- The cache is right now.
abbrev pub ghosts-ask_trace : goal.ghosts-ask_trace
ghosts-ask_trace g a = record { holds = IsHeldOf (mosaic_of g.D.Disk a.tree.now) a.held.now }
