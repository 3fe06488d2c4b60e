-- What the cache shows of a point where a sink comes or goes (defined by this product).
use Rattle.std.specs.Prelude.{ℤ, pos, Bool, true, false, Option, Some, None}
use Rattle.flow_cache.specs.declared.flow_cache.FlowCache.{FlowCache}
use Rattle.flow_d8.specs.FlowGrids.{flow_of}
use Rattle.lattice.specs.declared.point.Point.{Point}
use Rattle.water.specs.declared.flow.Flow.{Flow}
use Rattle.water.specs.declared.flow.Flow.TheVariants.{Unknown, NoGround, Outlet, Flat, To, Beside, FlatTo}

-- no level is higher
abbrev pub highest_level : ℤ
highest_level = pos 32767

-- whether the flow leads to a lower level
abbrev pub is_down : Flow → Bool
is_down Unknown = false
is_down NoGround = false
is_down Outlet = false
is_down Flat = false
is_down (To d) = true
is_down (Beside d) = false
is_down (FlatTo d) = false

-- whether the cached flow of the point does
abbrev pub is_known_down : Option FlowCache → Point → Bool
is_known_down None p = false
is_known_down (Some cache) p = is_down (flow_of cache.grid.tiles cache.grid.flows.items p)
