use Rattle.std.proofs.Common.{inl, inr, refl}
use Rattle.mosaic_tiles.proofs.Confirming.{just_opened}
use Rattle.mosaic_tiles.proofs.store_reader.StoreReader.open.Goals as goal

pub loop-init : goal.loop-init
loop-init g c = inl refl

pub loop-preserved : goal.loop-preserved
loop-preserved g c = inr (c.in-Some.disk, c.in-Err.refused, c.in-Err.ensures, refl)

pub returns-in-Ok : goal.returns-in-Ok
returns-in-Ok g c = just_opened g.D.Disk c.in-Some.disk c.in-Ok.store c.in-Ok.ensures
