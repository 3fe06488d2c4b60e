use Rattle.tile_flood.proofs.Prelude.{IsLabelling, block_of, subst, sym}
use Rattle.labelling.proofs.Passages.{spills_of_ground, no_lower}
use Rattle.tile_flood.specs.Bands.{AreBands}
use Rattle.tile_flood.proofs.passing.spills.Goals as goal

pub returns-clause-of_any : goal.returns-clause-of_any
returns-clause-of_any c =
    let g = c.args.labelled.now in
    c.in_ok-spills_of.ensures.spills g.side g.levels g.labels (subst (AreBands g.side g.levels g.labels) (sym c.deref.ensures.value) c.in_ok-bands.ensures)

pub returns-clause-spills : goal.returns-clause-spills
returns-clause-spills c = λ b samples side is. spills_of_ground c.args.labelled.now.side b.heights b.sinks c.args.labelled.now.levels c.args.labelled.now.labels (no_lower b.heights samples)
    (subst (λ n. IsLabelling (block_of n b.heights b.sinks) c.args.labelled.now.levels c.args.labelled.now.labels) side is)
    c.in_ok-spills_of.field-0.items (returns-clause-of_any c)
