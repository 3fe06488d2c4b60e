use Rattle.flow_d8.proofs.Prelude.{ℕ, length, mark_at, slice_index_or, sum, ◌+◌, ◌≡◌}
use Rattle.water.specs.declared.flow.Flow.TheVariants.{Unknown}
use Rattle.flow_d8.specs.Rounds.{IsRound, AreWavesOf, OnTerrains, Tells}
use Rattle.flow_d8.specs.Tiles.{by_of}
use Rattle.flow_d8.proofs.resolving.spread.Given as goal

abbrev pub invariant-waves : goal.invariant-waves
invariant-waves l = record {
  tells : Tells l.fn.flows l.flows;
  kept : (k : ℕ) → mark_at l.fn.marks k ≡ 3 → slice_index_or l.flows k Unknown ≡ slice_index_or l.fn.flows k Unknown;
  round : IsRound (by_of l.tiles) l.fn.marks l.marks l.wave.items;
  told : OnTerrains l.fn.flows (by_of l.tiles) (λ t level place. AreWavesOf t level place l.fn.marks l.marks l.flows);
}

abbrev pub decreases-waves : goal.decreases-waves
decreases-waves l = sum l.marks + length l.wave.items
