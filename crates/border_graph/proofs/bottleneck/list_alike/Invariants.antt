use Rattle.border_graph.proofs.Prelude.{All, Contains, HasLevel, Settled, ℕ, take, ◌≡◌, ◌⊎◌}
use Rattle.border_graph.proofs.bottleneck.list_alike.Given as goal

abbrev pub invariant-loop-one : goal.invariant-loop-one
invariant-loop-one l = record {
  only : (x : ℕ) → Contains l.into.items x → Contains l.fn.into.items x ⊎ ((one : Settled) × (Contains l.settled one × ((one.node ≡ x) × HasLevel one l.level)));
  all : All (λ (one : Settled). HasLevel one l.level → Contains l.into.items one.node) (take l.one-index l.settled);
}
