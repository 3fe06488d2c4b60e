-- The numbers of nodes: the outlet node first, then the rim points tile by tile.
use Rattle.std.specs.Prelude.{ℕ, ◌+◌, ◌-◌, ◌*◌}
use Rattle.border_graph.specs.Joining.{Node, Outlet, Rim}

abbrev pub node_number : ℕ → Node → ℕ
node_number n Outlet = 0
node_number n (Rim t k) = 1 + t * (4 * (n - 1)) + k
