use Rattle.tile_flood.proofs.Prelude.{ℕ, [], bucket, map, ◌<◌, ◌≡◌, ◌≤◌}
use Rattle.tile_flood.proofs.queue.first_in_use.Given as goal

abbrev pub invariant-loop-number : goal.invariant-loop-number
invariant-loop-number l = (b : ℕ) → l.from ≤ b → b < l.number → bucket (map (λ v. v.items) l.buckets) b ≡ []
