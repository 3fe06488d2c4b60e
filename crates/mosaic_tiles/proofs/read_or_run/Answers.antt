use Rattle.std.proofs.Common.{inl, inr, refl}
use Rattle.mosaic_tiles.proofs.read_or_run.Goals as goal

pub returns-in-Some : goal.returns-in-Some
returns-in-Some g c = inl (c.in-Some.path.now, c.in-Some.ensures, refl, c.read_store.ensures)

pub returns-in-None : goal.returns-in-None
returns-in-None g c = inr (c.in-None.ensures, c.program_in.ensures)
