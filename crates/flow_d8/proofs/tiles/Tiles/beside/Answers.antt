use Rattle.flow_d8.proofs.Prelude.{IsTrue, ap, fits_point, step, subst, sym, ◌∙◌}
use Rattle.flow_d8.specs.Filled.{number_of}
use Rattle.flow_d8.specs.Tiles.{place_of, by_of}
use Rattle.flow_d8.proofs.Samples.TilePlaces.{unfit_past}
use Rattle.flow_d8.proofs.tiles.Tiles.beside.Goals as goal

pub returns-in-Some-clause-value : goal.returns-in-Some-clause-value
unfolding by_of
returns-in-Some-clause-value c =
    c.number.ensures.value ∙ ap (number_of c.args.self.now.side c.args.self.now.corners) (c.in-Some.ensures.1 ∙ ap (step c.args.direction) c.point.ensures)

pub returns-in-None-clause-value : goal.returns-in-None-clause-value
unfolding by_of
returns-in-None-clause-value c =
    c.count.ensures ∙ unfit_past c.args.self.now c.side-valid.ensures.valid (step c.args.direction (place_of c.args.self.now c.args.k))
    (λ fits. c.in-None.ensures (subst (λ p. IsTrue (fits_point (step c.args.direction p))) (sym c.point.ensures) fits))
