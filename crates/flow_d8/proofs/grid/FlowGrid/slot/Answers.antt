use Rattle.flow_d8.proofs.Prelude.{ap, arith, count_of, length, subst, sym, ◌*◌, ◌/◌, ◌<◌, ◌∙◌, ◌≡◌}
use Rattle.flow_d8.proofs.Samples.AtHand.{at_hand_below}
use Rattle.flow_d8.proofs.Samples.Numbers.{tile_below}
use Rattle.flow_d8.proofs.Samples.TilePlaces.{square_some}
use Rattle.flow_d8.proofs.grid.FlowGrid.slot.Goals as goal

pub returns-then-number-len-clause-none : goal.returns-then-number-len-clause-none
returns-then-number-len-clause-none c at =
    let tiles = c.args.self.now.tiles in
    omega (arith, at_hand_below tiles c.tiles-valid.ensures.valid c.args.point at, c.number-number.ensures.value, c.if-number-len.true, c.len.ensures, c.args.self.now.whole)

pub returns-clause-some : goal.returns-clause-some
returns-clause-some c =
    let tiles = c.args.self.now.tiles in
    let k = c.number-number.result in
    let area : c.area.result ≡ tiles.side * tiles.side = c.area.ensures.value ∙ ap (λ n. n * n) c.side.ensures.value in
    let small : k < count_of tiles = omega (arith, c.if-number-len.false, c.len.ensures, c.args.self.now.whole) in (
      subst (λ a. k / a < length tiles.corners) (sym area) (tile_below (tiles.side * tiles.side) (length tiles.corners) k (square_some tiles.side c.side.ensures.valid.side_low) small),
      ap (λ n. n / (tiles.side * tiles.side)) (sym c.number-number.ensures.value) ∙ ap (λ a. k / a) (sym area),
    )
