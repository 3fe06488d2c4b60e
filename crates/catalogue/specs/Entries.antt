-- A map from corners to samples, as tiles.
use Rattle.std.specs.Prelude.{ℤ, List, map}
use Rattle.std.specs.Global.{Vec}
use Rattle.lattice.specs.Corners.{Corner}
use Rattle.lattice.specs.Mosaic.{Tile}

-- the tiles of the entries, in the map's order
abbrev pub tiles_in : List (Corner × Vec ℤ) → List Tile
tiles_in entries = map (λ e. record { corner = e.0; samples = e.1.items }) entries
