use Rattle.catalogue.proofs.Prelude.{IsMosaic, subst, sym, ◌∙◌, ◌≡◌}
use Rattle.catalogue.proofs.Entries.{found-present}
use Rattle.catalogue.proofs.OneTile.{corners_are}
use Rattle.catalogue.proofs.Presence.{present_iff, corners_in_order}
use Rattle.catalogue.proofs.table.TableSamples.present.Goals as goal

pub returns-clause-answer : goal.returns-clause-answer
returns-clause-answer c =
    let tested : c.contains_key.result ≡ _ = c.contains_key.ensures ∙ found-present c.self.inside.side _ c.self.inside.tiles.entries _ c.self.view_is c.args.c in
    let iff = present_iff c.args.self.now c.args.c in
    (λ yes_there. iff.0 (sym tested ∙ yes_there), λ there. tested ∙ iff.1 there)

pub returns-clause-in_order : goal.returns-clause-in_order
returns-clause-in_order c = corners_in_order c.args.self.now (subst IsMosaic c.self.view_is c.self.invariant)

pub returns-clause-whole_degrees : goal.returns-clause-whole_degrees
returns-clause-whole_degrees c = corners_are c.args.self.now (subst IsMosaic c.self.view_is c.self.invariant)

pub returns-clause-tile : goal.returns-clause-tile
returns-clause-tile c = c.contains_key.ensures ∙ found-present c.self.inside.side _ c.self.inside.tiles.entries _ c.self.view_is c.args.c
