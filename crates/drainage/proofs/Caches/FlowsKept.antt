-- Flows near levels that none of the new heights moves stay, height after height.
use Rattle.std.proofs.Common.{◌≡◌, ◌⊎◌, ℕ, ◌*◌, ◌/◌, ◌<◌, true, inl, inr, Option, Some, None, List, length, get_or, refl, sym, ap, ◌∙◌, subst}
use Rattle.drainage.proofs.Prelude.{All-get_or, AreFlowsKept, AreFlowsLeft, DrainageCache, FlowCache, IsCovered, IsSparedFrom, IsUnchanged, LevelRange, NewHeight, Tiles, are_spared, if◌then◌else◌, is_range_spared, slot_ranges, spared_of}
use Rattle.drainage.specs.FlowsKept.{IsKeptFrom, are_flows_kept}
use Rattle.flow_cache.specs.LevelRanges.{block_of, range_at}

none_some : (r : LevelRange) → ◌≡◌ {A = Option LevelRange} None (Some r) → ⊥
none_some r e = cc

-- before the first height all flows stay
pub flows_kept : (heights : List NewHeight) (cache : Option FlowCache) → are_flows_kept heights cache cache
flows_kept heights None = refl
flows_kept heights (Some cache) = (cache, (refl, record { tiles = refl; ranges = λ i b range known all. known; flows = λ k around. refl }))

module _ (heights : List NewHeight) (i : ℕ) (h : NewHeight) (below : i < length heights) (is_h : h ≡ get_or heights i h) (changes : IsUnchanged h → ⊥) where
  -- a range that this height doesn't move stays
  spared_kept : (range : LevelRange) → (IsUnchanged h ⊎ (is_range_spared h.was h.metres range ≡ true)) → spared_of h.was h.metres (Some range) ≡ Some range
  spared_kept range (inl same) = absurd (changes same)
  spared_kept range (inr spared) = ap (λ b. if b then Some range else None) spared

  one_kept : (first mid left : FlowCache) → IsKeptFrom heights first mid → IsSparedFrom h.was h.metres mid left → IsKeptFrom heights first left
  one_kept first mid left before spared =
      let kept : (j b : ℕ) (range : LevelRange) → range_at (slot_ranges first.slots.items j) b ≡ Some range → _ → range_at (slot_ranges left.slots.items j) b ≡ Some range =
      λ j b range known all.
      (spared.slots.each j).each b ∙ (ap (spared_of h.was h.metres) (before.ranges j b range known all)
      ∙ spared_kept range (subst (λ (k : NewHeight). IsUnchanged k ⊎ (is_range_spared k.was k.metres range ≡ true)) (sym is_h) (All-get_or (λ (k : NewHeight). IsUnchanged k ⊎ (is_range_spared k.was k.metres range ≡ true)) heights i h below all))) in
      record {
        tiles = spared.tiles ∙ before.tiles;
        ranges = kept;
        flows = λ k around. spared.kept k
            (subst (λ (t : Tiles). IsCovered t left.slots.items k) (sym (spared.tiles ∙ before.tiles))
            (λ r c up down left_of right_of none.
            let n = first.grid.tiles.side in
            let at = around r c up down left_of right_of in
            none_some at.0 (sym none ∙ kept (k / (n * n)) (block_of r c) at.0 at.1.0 at.1.1)))
            ∙ before.flows k around;
      }

  later_kept : (first held left : Option FlowCache) → are_flows_kept heights first held → are_spared h.was h.metres held left → are_flows_kept heights first left
  later_kept None held left before spared = subst (λ (o : Option FlowCache). are_spared h.was h.metres o left) before spared
  later_kept (Some first) held left (mid, (at, kept)) spared =
      let now = subst (λ (o : Option FlowCache). are_spared h.was h.metres o left) at spared in
      (now.0, (now.1.0, one_kept first mid now.0 kept now.1.1))

  -- setting the next height keeps flows near levels that this height doesn't move
  pub one_flows_kept : (first held left : DrainageCache) → AreFlowsLeft h.was h.metres held left → AreFlowsKept heights first held → AreFlowsKept heights first left
  one_flows_kept first held left flows before = later_kept first.flow_cache held.flow_cache left.flow_cache before flows
