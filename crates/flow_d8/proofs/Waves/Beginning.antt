-- How a collected flat gets its first wave.
use Rattle.std.proofs.Common.{rules}
use Rattle.flow_d8.proofs.Prelude.{AreBegun, AreMarked, Connects, Dir, Flow, List, SampleRun, Unknown, ℕ, arith, inl, inr, length, slice_index_or, subst, suc, sym, zero, ⊎_elim, ◌<◌, ◌∙◌, ◌≡◌, ◌⊎◌}
use Rattle.flow_d8.specs.Marks.{mark_at, IsMember, IsSettled, AreCollected, IsFirstWave, IsBack}
use Rattle.flow_d8.specs.Filled.{number_of}
use Rattle.flow_d8.specs.Tiles.{Tiles, AreTiles, count_of, place_of, by_of}
use Rattle.flow_d8.proofs.Waves.Marking.{in_range}
use Rattle.flow_d8.proofs.Samples.TilePlaces.{back}
use Rattle.flow_d8.proofs.Sayings.Said.{decide_beside, is_known}

module _ (t : Tiles) (valid : AreTiles t) (flows : List Flow) (size : length flows ≡ count_of t) (marks : List ℕ) (runs : List SampleRun) (seed : ℕ) (new wave : List ℕ) (is : AreCollected t flows marks runs seed) (first : IsFirstWave flows marks new wave) where
  pub was_member : (k : ℕ) → IsMember new k → IsMember marks k
  was_member k member out = member (first.outside k out)

  two_ways : (k : ℕ) → IsMember marks k → (mark_at new k ≡ 0) ⊎ (mark_at new k ≡ 2)
  two_ways k member = ⊎_elim (λ yes. inl (first.beside k member yes)) (λ no. inr (first.others k member no)) (decide_beside (slice_index_or flows k Unknown))

  still_member : (k : ℕ) → IsMember marks k → IsMember new k
  still_member k member out = ⊎_elim (λ at_zero. absurd (omega arith)) (λ two. absurd (omega arith)) (two_ways k member)

  pub seed_member : IsMember new seed
  seed_member = still_member seed is.begun

  pub marked : AreMarked flows (by_of t) new
  marked = record {
    whole = first.whole ∙ is.found.whole;
    back = λ k member.
        let old = was_member k member in
        let at : number_of t.side t.corners (place_of t k) ≡ k = is.found.first k old in
        subst (λ n. IsBack (by_of t) n k) (sym size) (subst (λ n. IsBack (by_of t) (count_of t) n) at (back t valid (place_of t k) (subst (λ n. n < count_of t) (sym at) (small k old))));
    flat = λ k member. is.found.flat k (was_member k member);
    closed = λ k d member. let around = is.closed k d (was_member k member) in record { known = around.known; member = λ flat. still_member (by_of t k d) (around.member flat) };
  }
    where
      small : (k : ℕ) → IsMember marks k → k < count_of t
      small k member = omega (arith, size, is.found.whole, in_range marks k 2 (is.found.two k member) (omega arith))

  pub begun : AreBegun flows new
  begun = search rules

-- a place that steps over the flat reach from a member has a known flow; it is a member if it lies inside a flat
pub connected : (flows : List Flow) (by : ℕ → Dir → ℕ) (marks : List ℕ) → AreMarked flows by marks → (seed : ℕ) → IsMember marks seed → (n k : ℕ) → Connects flows by seed n k → IsSettled flows marks k
connected flows by marks is seed member zero k joins = subst (IsSettled flows marks) joins (record { known = is_known (slice_index_or flows seed Unknown) (is.flat seed member); member = λ flat. member })
connected flows by marks is seed member (suc n) k joins =
    let before = connected flows by marks is seed member n joins.0 joins.2.0 in
    subst (IsSettled flows marks) joins.2.1.1 (is.closed joins.0 joins.1 (before.member joins.2.1.0))
