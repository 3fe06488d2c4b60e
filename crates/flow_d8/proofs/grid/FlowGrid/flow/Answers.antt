use Rattle.flow_d8.proofs.Prelude.{Flow, IsFlow, List, Unknown, ap, arith, count_of, get_or, subst, sym, ◌<◌, ◌∙◌, ◌≡◌}
use Rattle.flow_d8.specs.Filled.{number_of}
use Rattle.flow_d8.proofs.Samples.AtHand.{known_so}
use Rattle.flow_d8.proofs.grid.FlowGrid.flow.Goals as goal

pub returns-then-number-len-clause-says : goal.returns-then-number-len-clause-says
returns-then-number-len-clause-says c t level are =
    let tiles = c.args.self.now.tiles in
    let flows = c.args.self.now.flows.items in
    let p = c.args.point in
    let value : c.number-number.result ≡ number_of tiles.side tiles.corners p = c.number-number.ensures.value in
    let small : number_of tiles.side tiles.corners p < count_of tiles = omega (arith, c.if-number-len.true, c.len.ensures, c.args.self.now.whole, value) in
    subst (IsFlow t level p) (sym (c.flow_at.ensures ∙ ap (λ (l : List Flow). get_or l c.number-number.result Unknown) c.deref.ensures.value ∙ ap (λ n. get_or flows n Unknown) value)) (known_so tiles c.tiles-valid.ensures.valid flows p small t level are)
