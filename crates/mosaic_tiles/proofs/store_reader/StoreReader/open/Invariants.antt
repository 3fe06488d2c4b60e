use Rattle.mosaic_tiles.specs.Reading.{IsUnopened}
use Rattle.mosaic_tiles.proofs.store_reader.StoreReader.open.Given as goal

-- why the last opening was refused
abbrev pub invariant-loop : goal.invariant-loop
invariant-loop g l = IsUnopened g.D.Disk l.why
