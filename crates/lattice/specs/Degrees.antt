-- The corner at some degrees, if there is one.
use Rattle.lattice.specs.Corners.{Corner}
use Rattle.lattice.specs.declared.holding.Degrees.{Degrees}

abbrev pub corner_at : Degrees → Corner
corner_at d = record { lat = d.lat; lon = d.lon }
