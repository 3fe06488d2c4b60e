use Rattle.catalogue.proofs.Prelude.{ap, corners_of, keys_of, rules, sym, ◌∙◌, ◌≡◌}
use Rattle.catalogue.proofs.Entries.{corners-tiles_in}
use Rattle.catalogue.proofs.table.Table.corners.Goals as goal

pub returns-clause-corners : goal.returns-clause-corners
returns-clause-corners c =
    let collected : c.in_ok-collect.field-0.items ≡ keys_of c.self.inside.tiles.entries = search rules in
    collected ∙ sym (corners-tiles_in c.self.inside.tiles.entries) ∙ ap corners_of c.self.view_is
