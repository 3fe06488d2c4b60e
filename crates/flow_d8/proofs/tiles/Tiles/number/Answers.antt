use Rattle.flow_d8.proofs.Prelude.{IsFirst, ap₂, count_of, subst, sym, ◌<◌, ◌∙◌, ◌≡◌}
use Rattle.flow_d8.specs.Filled.{number_of}
use Rattle.flow_d8.proofs.Samples.TilePlaces.{first_number}
use Rattle.flow_d8.proofs.tiles.Tiles.number.Goals as goal

pub returns-clause-first : goal.returns-clause-first
returns-clause-first c small =
    let t = c.args.self.now in
    let p = c.args.point in
    let value : c.number.result ≡ number_of t.side t.corners p = c.number.ensures ∙ ap₂ (λ n cs. number_of n cs p) c.side.ensures.value c.corners.ensures in
    subst (IsFirst t) (sym value) (first_number t c.side.ensures.valid p (subst (λ r. r < count_of t) value small))
