use Rattle.std.proofs.Common.{ap, subst, sym, ◌≡◌}
use Rattle.std.proofs.lemmas.Result.{IfOk-weaker}
use Rattle.labelling.specs.Blocks.{LabelledGround}
use Rattle.tile_flood.specs.Bands.{AreBands}
use Rattle.tile_labellings.specs.Labellings.{FloodedGround}
use Rattle.tile_labellings.proofs.flooded_block.FloodedBlock.spills.Goals as goal

pub returns-clause-spills : goal.returns-clause-spills
returns-clause-spills c =
    let g = c.args.self.now.labelled in
    let same : c.args.self.now.labelled ≡ c.self.inside.labelled = sym (ap (λ (f : FloodedGround). f.labelled) c.self.view_is) in
    let bands = subst (λ (k : LabelledGround). AreBands k.side k.levels k.labels c.in_ok-held.held.bands.items) (sym same) c.in_ok-held.ensures.0 in
    IfOk-weaker c.joined-found.result _ _ (λ spills of. of g.side g.levels g.labels bands) c.joined-found.ensures.spills
