use Rattle.tile_flood.proofs.Prelude.{AreEmpty, length, map, ◌≡◌}
use Rattle.tile_flood.proofs.queue.empty_buckets.Given as goal

abbrev pub invariant-loop : goal.invariant-loop
invariant-loop l = record {
  whole : length l.buckets.items ≡ l.counter;
  empty : AreEmpty (map (λ v. v.items) l.buckets.items);
}
