use Rattle.drainage.proofs.Prelude.{All-get_or, AreEarlier, AreFlowsKept, AreLevelsKept, AreSparing, At, DrainageCache, IsHeldOf, IsKeptBeyondHeights, IsKeptUnchanged, IsMosaic, IsSample, IsUnchanged, List, Mosaic, NewHeight, SFits, ℕ, ℤ, ap, arith, flow_cache_right, get_or, inr, ints, is_height, length, levels_pass, of_z, pos, refl, rules, subst, sym, take, take_all, to_z, to_z-of_z, true≢false, void, w16, with_heights, ◌+◌, ◌<◌, ◌∙◌, ◌≡◌, ◌≢◌}
use Rattle.edits.proofs.EditStale.{read_within}
use Rattle.drainage.proofs.Changes.Beyond.{all_kept, all_levels_kept, all_pass, all_unchanged, levels_kept, levels_kept_still, levels_spared, one_kept, pass_still, spared_by, tiles_kept}
use Rattle.drainage.proofs.Changes.EditedBox.{differ_more, earlier_at, set_more, valid_more}
use Rattle.drainage.specs.FarTiles.{are_listed}
use Rattle.drainage.specs.FlowsKept.{are_flows_kept}
use Rattle.drainage.proofs.Caches.FlowsKept.{flows_kept, one_flows_kept}
use Rattle.drainage.proofs.Changes.HeldUnchanged.{held_unchanged}
use Rattle.edits.proofs.PointEditing.{height_not_void}
use Rattle.drainage.proofs.invalidating.invalidate_heights.Goals as goal
use Rattle.drainage.proofs.invalidating.invalidate_heights.Goals.{then-height, else-height, then-is_any_changed, else-is_any_changed}

abbrev none : NewHeight
none = record { point = record { y = pos 0; x = pos 0 }; was = pos 0; metres = pos 0 }

-- the loop's result after the first k heights
abbrev IsSoFar : DrainageCache → List NewHeight → ℕ → DrainageCache → Type 0
IsSoFar before heights k held = record {
  still : (m : Mosaic) → IsMosaic m → IsHeldOf m before → IsHeldOf m held;
  changed : (m : Mosaic) → IsMosaic m → AreEarlier heights m → IsHeldOf m before → IsHeldOf (with_heights (take k heights) m) held;
  kept : IsKeptBeyondHeights heights before held;
  levels : AreLevelsKept heights before held;
  flows : AreFlowsKept heights before held;
  unchanged : IsKeptUnchanged heights before held;
  pass : levels_pass (AreSparing heights) held.tile_cache;
  valid : (m : Mosaic) → IsMosaic m → IsMosaic (with_heights (take k heights) m);
}

sample : (h : ℤ) → SFits w16 h → IsSample h
sample h fits = (omega (arith, ints), omega (arith, ints))

pub loop-height-init : goal.loop-height-init
loop-height-init c =
    let heights = c.args.heights.now in
    let held = c.args.held.now in
    elim c.if-is_any_changed.branch [
      | then-is_any_changed w ↦
          let left = w.retain_spared_levels.new.self in
          let spared = w.retain_spared_levels.ensures in
          let still : (m : Mosaic) → IsHeldOf m held → IsHeldOf m left = λ m right. record {
            tile_cache = levels_spared heights m held.tile_cache left.tile_cache spared.tile_cache right.tile_cache;
            flow_cache = subst (flow_cache_right m) (sym spared.flow_cache) right.flow_cache;
            corners = subst (are_listed m) (sym spared.corners) right.corners;
          } in
          subst (IsSoFar held heights 0) (sym w.held-is) (record {
            still = λ m valid. still m;
            changed = λ m valid earlier. still m;
            kept = tiles_kept heights held.tile_cache left.tile_cache spared.tile_cache;
            levels = levels_kept heights held.tile_cache left.tile_cache spared.tile_cache;
            flows = subst (are_flows_kept heights held.flow_cache) (sym spared.flow_cache) (flows_kept heights held.flow_cache);
            unchanged = λ all. absurd (true≢false (sym w.if-is_any_changed.true ∙ c.is_any_changed.ensures.1 all));
            pass = all_pass heights held.tile_cache left.tile_cache spared.tile_cache;
            valid = λ m valid. valid;
          })
      | else-is_any_changed w ↦ subst (IsSoFar held heights 0) (sym w.held-is) (record {
        still = λ m valid right. right;
        changed = λ m valid earlier right. right;
        kept = all_kept heights held.tile_cache;
        levels = all_levels_kept heights held.tile_cache;
        flows = flows_kept heights held.flow_cache;
        unchanged = λ all. refl;
        pass = all_unchanged heights held.tile_cache (c.is_any_changed.ensures.0 w.if-is_any_changed.false);
        valid = λ m valid. valid;
      })
    ]

pub loop-height-preserved : goal.loop-height-preserved
loop-height-preserved c =
    let heights = c.args.heights.now in
    let i = c.loop-height.height-index in
    let h = get_or heights i none in
    let inside : i < length heights = c.loop-height-test.true in
    let read = read_within heights i none h inside in
    let so = c.loop-height.invariant in
    let fits : SFits w16 (get_or c.args.heights.now c.loop-height.height-index none).metres = search rules in
    elim c.if-height.branch [
      | then-height w ↦
          let noted = w.note_changed.ensures in
          let changes : IsUnchanged h → ⊥ = λ same. w.if-height.true (ap (of_z w16) same) in
          subst (IsSoFar c.args.held.now heights (i + 1)) (sym w.held-is) (record {
            still = λ m valid right. noted.still m (so.still m valid right);
            changed = λ m valid earlier right. noted.right (with_heights (take i heights) m) (with_heights (take (i + 1) heights) m) (so.valid m valid)
                (differ_more heights i h m valid inside read) (earlier_at heights i h m inside read earlier) (inr (set_more heights i h m valid inside read))
                (spared_by heights i h c.loop-height.held.tile_cache inside read changes so.pass) (so.changed m valid earlier right);
            kept = one_kept heights i h c.args.held.now.tile_cache c.loop-height.held.tile_cache w.note_changed.new.self.tile_cache inside read changes noted.left so.kept;
            levels = levels_kept_still heights h c.args.held.now.tile_cache c.loop-height.held.tile_cache w.note_changed.new.self.tile_cache noted.left so.levels;
            flows = one_flows_kept heights i h inside read changes c.args.held.now c.loop-height.held w.note_changed.new.self noted.flows so.flows;
            unchanged = λ all. absurd (changes (All-get_or IsUnchanged heights i none inside all));
            pass = pass_still heights h c.loop-height.held.tile_cache w.note_changed.new.self.tile_cache noted.left so.pass;
            valid = λ m valid. valid_more heights i h m (so.valid m valid) inside read (sample h.metres fits);
          })
      | else-height w ↦
          let had : SFits w16 (get_or c.args.heights.now c.loop-height.height-index none).was = search rules in
          let same : h.was ≡ h.metres = sym (to_z-of_z w16 h.was had) ∙ (ap (to_z w16) w.if-height.false ∙ to_z-of_z w16 h.metres fits) in
          subst (IsSoFar c.args.held.now heights (i + 1)) (sym w.held-is) (record {
            still = so.still;
            changed = λ m valid earlier right.
                let mid = with_heights (take i heights) m in
                let before = earlier_at heights i h m inside read earlier in
                let full : h.metres ≢ void = subst (λ v. v ≢ void) same (height_not_void mid h.point h.was before) in
                let after = set_more heights i h m valid inside read full (ap is_height before) in
                held_unchanged mid (with_heights (take (i + 1) heights) m) h.point (differ_more heights i h m valid inside read) (after ∙ (ap At (sym same) ∙ sym before)) c.loop-height.held (so.changed m valid earlier right);
            kept = so.kept;
            levels = so.levels;
            flows = so.flows;
            unchanged = so.unchanged;
            pass = so.pass;
            valid = λ m valid. valid_more heights i h m (so.valid m valid) inside read (sample h.metres fits);
          })
    ]

pub returns-clause-changed : goal.returns-clause-changed
returns-clause-changed c m valid earlier right =
    subst (λ (l : List NewHeight). IsHeldOf (with_heights l m) c.loop-height.held) (take_all c.loop-height.height-index c.args.heights.now c.loop-height-test.false) (c.loop-height.invariant.changed m valid earlier right)
