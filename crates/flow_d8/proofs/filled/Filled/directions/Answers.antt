use Rattle.flow_d8.proofs.Prelude.{AreCrossed, AreDirectionsOf, AreFilledLevels, AreLevels, Directions, Filled, IsAtHand, IsFilledOf, List, Point, Tiles, ℤ, ap, ap₂, filled_of, inr, refl, subst, sym, terrain, void, ◌∙◌, ◌≡◌}
use Rattle.flow_d8.specs.Surface.{level_at}
use Rattle.water.proofs.Exists.{distance_exists}
use Rattle.flow_d8.proofs.Mosaics.FilledOf.{filled_at}
use Rattle.water.proofs.MosaicGrid.{mosaic_is_grid}
use Rattle.flow_d8.proofs.Paths.Crossing.{are_directions}
use Rattle.flow_d8.proofs.Mosaics.FullTerrain.{mosaic_is_full}
use Rattle.flow_d8.proofs.Mosaics.LevelsOf.{hand_in, crossed_in}
use Rattle.flow_d8.proofs.filled.Filled.directions.Goals as goal

-- `filled_of` of a record's parts gives the record
as_one : (f : Filled) (t : Tiles) (levels : List ℤ) (sinks : List Point) → t ≡ record { side = f.side; corners = f.corners } → levels ≡ f.levels → sinks ≡ f.sinks → filled_of t levels sinks ≡ f
as_one f t levels sinks tiles_are levels_are sinks_are =
    ap (λ (s : Tiles). filled_of s levels sinks) tiles_are ∙ ap₂ (λ (l : List ℤ) (s : List Point). filled_of (record { side = f.side; corners = f.corners }) l s) levels_are sinks_are

pub returns-then-not-branch-clause-refusal : goal.returns-then-not-branch-clause-refusal
returns-then-not-branch-clause-refusal c = inr (
  refl,
  λ m is of.
      let t = c.tiles-tiles.result.now in
      let levels = c.levels.result.now in
      let sinks = c.sinks.result.now in
      let f = filled_of t levels sinks in
      let same = as_one c.args.self.now t levels sinks c.tiles-tiles.ensures.value c.levels.ensures c.sinks.ensures in
      let here = subst (IsFilledOf m) (sym same) of in
      let whole = subst AreLevels (sym same) c.tiles-tiles.ensures.valid in
      let level : Point → ℤ = level_at f in
      let filled : AreFilledLevels (terrain m) level = λ x solid. filled_at m f is whole here x solid in
      let told = (c.in_ok-prepare_all.ensures.told m is here).told level filled in
      c.in_ok-resolve_all.ensures.failed c.if-not-branch.true (terrain m) level (mosaic_is_full m is) told
      (subst (λ (s : Tiles). AreCrossed s (terrain m) level) (sym c.in_ok-prepare_all.ensures.tiles) (crossed_in t c.side.ensures.valid levels sinks m is whole here level filled)),
)

pub returns-clause-found : goal.returns-clause-found
returns-clause-found c m level is filled of =
    let t = c.tiles-tiles.result.now in
    let levels = c.levels.result.now in
    let sinks = c.sinks.result.now in
    let same = as_one c.args.self.now t levels sinks c.tiles-tiles.ensures.value c.levels.ensures c.sinks.ensures in
    let here = subst (IsFilledOf m) (sym same) of in
    let whole = subst AreLevels (sym same) c.tiles-tiles.ensures.valid in
    let told = (c.in_ok-prepare_all.ensures.told m is here).told level filled in
    let d : Directions = record { tiles = c.resolve_all.new.self.tiles; drains = c.resolve_all.new.self.flows.items } in
    subst (AreDirectionsOf m level) (sym c.new.ensures.value)
    (are_directions d c.new.ensures.whole m is level filled (c.in_ok-resolve_all.ensures.flows (terrain m) level (mosaic_is_full m is) told)
    (λ p solid. subst (λ (s : Tiles). IsAtHand s p) (sym (c.in_ok-resolve_all.ensures.tiles ∙ c.in_ok-prepare_all.ensures.tiles)) (hand_in t c.side.ensures.valid levels sinks m is whole here p solid))
    (λ p solid. distance_exists (terrain m) void (mosaic_is_grid m is) level filled p solid))
