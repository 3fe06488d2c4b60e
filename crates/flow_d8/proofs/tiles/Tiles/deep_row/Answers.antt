use Rattle.flow_d8.proofs.Prelude.{ap, ap₂, arith, is_deep, sym, true, ◌%◌, ◌*◌, ◌∙◌, ◌≡◌}
use Rattle.flow_d8.proofs.Samples.Beside.{deep_says}
use Rattle.flow_d8.proofs.Samples.DeepSteps.{row_deep}
use Rattle.flow_d8.proofs.tiles.Tiles.deep_row.Goals as goal

pub returns : goal.returns
returns c =
    let n = c.args.self.now.side in
    let k = c.args.k in
    let deep : is_deep n (k % (n * n)) ≡ true = sym c.is_deep.ensures ∙ c.if-not-is_deep.false in
    let said = deep_says n (k % (n * n)) deep in
    let area : c.area.result ≡ n * n = c.area.ensures.value ∙ ap (λ v. v * v) c.side-side.ensures.value in
    let column : c.divide-column.result.remainder ≡ k % (n * n) % n = c.divide-column.ensures.remainder
    ∙ ap₂ (λ a b. a % b) (c.divide-index.ensures.remainder ∙ ap (λ a. k % a) area) (c.samples.ensures.value ∙ c.side-side.ensures.value) in
    let width : c.samples-n.result ≡ n = c.samples-n.ensures.value ∙ c.side-side.ensures.value in
    (omega arith, omega arith, λ j from to. row_deep n k j deep (omega (arith, column, from, said.2)) (omega (arith, column, width, to, said.3)))
