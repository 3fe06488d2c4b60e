use Rattle.std.proofs.Common.{inl, inr, refl}
use Rattle.mosaic_tiles.proofs.run.Goals as goal

pub returns-in-Some : goal.returns-in-Some
returns-in-Some g c =
    let did = c.write_tiles.ensures in
    inl (c.in-Some.asked, c.in-Some.ensures, (refl, refl), (did.0, did.1.0, did.1.1))

pub returns-in-None : goal.returns-in-None
returns-in-None g c = inr (c.in-None.ensures, c.read_or_run.ensures)
