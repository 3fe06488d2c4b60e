use Rattle.std.proofs.Common.{sym, subst}
use Rattle.tile_labellings.specs.Labellings.{IsFlooded}
use Rattle.tile_labellings.specs.TileLabellings.{IsCurrent, IsTileLabelling}
use Rattle.tile_labellings.specs.declared.tile_labelling.TileLabelling.{TileLabelling}
use Rattle.tile_labellings.proofs.tile_labelling.TileLabelling.labelled.Goals as goal

pub returns-in-Flooded-clause-flooded : goal.returns-in-Flooded-clause-flooded
returns-in-Flooded-clause-flooded c m d current is =
    let current' = subst (λ (x : TileLabelling). IsCurrent x) c.in-Flooded.is current in
    let is' = subst (λ (x : TileLabelling). IsTileLabelling m d x) c.in-Flooded.is is in
    subst (IsFlooded m d) (sym c.labelled.ensures.value) (c.labelled.ensures.flooded m d current' is'.block)
