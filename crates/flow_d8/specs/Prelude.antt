-- Re-exports the names of the lattice and of flows.
pub use Rattle.lattice.specs.Corners.{Corner, is_corner, same_corner}
pub use Rattle.lattice.specs.Ground.{degree_of, is_adjacent, is_ground, is_height, is_near, is_sink, metres, same_point, share_tile, terrain}
pub use Rattle.lattice.specs.Height.{by_seam_rule, first_height, height_of, sample_at, samples_at}
pub use Rattle.lattice.specs.Lattice.{Holds, IsBefore, IsIndexOf, holds, index_of, is_along, point_of}
pub use Rattle.lattice.specs.Limits.{largest_side}
pub use Rattle.lattice.specs.Mosaic.{IsMosaic, IsSample, IsTile, Mosaic, Tile, is_present, is_void, void}
pub use Rattle.lattice.specs.Stepping.{fits_number, fits_point}
pub use Rattle.lattice.specs.Steps.{directions, east_of, is_steeper, north_of, order_of, slope_of, step}
pub use Rattle.lattice.specs.Terrain.{IsFilledLevel, IsLawful, IsPath, LeadsOut, Terrain, crest}
pub use Rattle.lattice.specs.declared.direction.Dir.{Dir}
pub use Rattle.lattice.specs.declared.direction.Dir.TheVariants.{East, North, NorthEast, NorthWest, South, SouthEast, SouthWest, West}
pub use Rattle.lattice.specs.declared.height.Height.TheVariants.{At}
pub use Rattle.lattice.specs.declared.point.Point.{Point}
pub use Rattle.lattice.specs.declared.refusal.Refusal.{Refusal}
pub use Rattle.lattice.specs.declared.refusal.Refusal.TheVariants.{Damaged, NoMemory}
pub use Rattle.water.specs.declared.flow.Flow.{Flow}
pub use Rattle.water.specs.declared.flow.Flow.TheVariants.{Beside, Flat, FlatTo, NoGround, Outlet, To, Unknown}
