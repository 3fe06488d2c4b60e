use Rattle.flow_d8.proofs.Prelude.{AreFlows, List, is_deep, true, ℤ, subst, ◌%◌, ◌*◌, ◌≡◌}
use Rattle.std.specs.Prelude.{IfNone, IfSome}
use Rattle.lattice.specs.Ground.{terrain}
use Rattle.lattice.specs.Mosaic.{Mosaic}
use Rattle.lattice.specs.declared.point.Point.{Point}
use Rattle.water.specs.Donors.{AreToldBy, DrainsBack}
use Rattle.water.specs.declared.flow.Flow.{Flow}
use Rattle.flow_d8.specs.FlowGrids.{AreResolvedAround}
use Rattle.flow_d8.specs.Tiles.{place_of}
use Rattle.flow_d8.proofs.Sayings.Draining.{IfNone_from, IfNone_then}
use Rattle.flow_d8.proofs.grid.FlowGrid.donors_around.Goals as goal

pub returns-in_err-number-clause-none : goal.returns-in_err-number-clause-none
returns-in_err-number-clause-none c = IfNone_from c.from_residual.result (λ shown. c.in_err-number.ensures.none shown.small shown.sample shown.in_slot shown.here)

pub returns-clause-right : goal.returns-clause-right
returns-clause-right c =
    let tiles = c.args.self.now.tiles in
    let says = λ (flows : List Flow) (p : Point). IfSome c.donors_around.result (λ donors. (m : Mosaic) (level : Point → ℤ) → AreFlows (terrain m) level (place_of tiles) flows → AreToldBy (DrainsBack (terrain m) level p) donors 8) in
    subst (says c.args.self.now.flows.items) c.in_ok-number.ensures.some.0.here (subst (λ (flows : List Flow). says flows (place_of tiles c.in_ok-number.number)) c.deref.ensures.value c.donors_around.ensures.right)

pub returns-clause-none : goal.returns-clause-none
returns-clause-none c =
    let tiles = c.args.self.now.tiles in
    let flows = c.args.self.now.flows.items in
    let number = c.in_ok-number.number in
    let area = tiles.side * tiles.side in
    IfNone_then c.donors_around.result (subst (λ (there : List Flow). IfNone c.donors_around.result (is_deep tiles.side (number % area) ≡ true → AreResolvedAround there tiles.side number → ⊥)) c.deref.ensures.value c.donors_around.ensures.none) (λ unresolved shown.
    let same : shown.sample ≡ number = c.in_ok-number.ensures.some.1 shown.sample shown.in_slot shown.here in
    unresolved (subst (λ k. is_deep tiles.side (k % area) ≡ true) same shown.deep) (subst (AreResolvedAround flows tiles.side) same shown.resolved))
