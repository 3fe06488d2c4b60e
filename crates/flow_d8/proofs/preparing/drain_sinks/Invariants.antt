use Rattle.flow_d8.proofs.Prelude.{Flat, HasSink, IsSinkPlace, Outlet, Point, ℕ, flow_in, get_or, length, ◌<◌, ◌≡◌, ◌⊎◌}
use Rattle.flow_d8.proofs.preparing.drain_sinks.Given as goal

abbrev pub invariant-loop-i : goal.invariant-loop-i
invariant-loop-i l = record {
  whole : length l.flows ≡ length l.fn.flows;
  each : (k : ℕ) → (flow_in l.flows k ≡ flow_in l.fn.flows k) ⊎ ((flow_in l.fn.flows k ≡ Flat) × (flow_in l.flows k ≡ Outlet) × HasSink l.side l.corner l.sinks k);
  sunk : (u k : ℕ) (d : Point) → u < l.i → IsSinkPlace l.side l.corner (get_or l.sinks u d) k → flow_in l.flows k ≡ Flat → ⊥;
}
