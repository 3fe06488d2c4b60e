use Rattle.drainage.proofs.Prelude.{arith, subst, ◌*◌, ◌+◌, ◌<◌}
use Rattle.drainage.proofs.Tiles.PaddedLevels.{below_product}
use Rattle.drainage.proofs.preparing.padded_place.Goals as goal

pub returns-clause-below : goal.returns-clause-below
returns-clause-below c = subst (λ n. c.args.row * (c.samples.result + 4) + c.args.column < (n + 4) * (n + 4)) c.samples.ensures.value
    (below_product c.args.row c.args.column (c.samples.result + 4) (c.samples.result + 4) (omega (arith, c.requires.row, c.samples.ensures.value)) (omega (arith, c.requires.column, c.samples.ensures.value)))
