use Rattle.catalogue.proofs.Prelude.{Mosaic, Vec, ℤ, ap, option_map, samples_of, ◌∙◌}
use Rattle.catalogue.proofs.Entries.{samples-lookup, removed_is, removed_valid}
use Rattle.catalogue.proofs.table.Table.remove.Goals as goal

pub invariant_of-self : goal.invariant_of-self
invariant_of-self c = removed_valid _ _ _ _ _ c.self.view_is c.self.invariant c.args.corner c.remove.ensures.entries

pub returns-clause-samples : goal.returns-clause-samples
returns-clause-samples c =
    ap (option_map (λ (v : Vec ℤ). v.items)) c.remove.ensures.value
    ∙ samples-lookup c.args.corner c.self.inside.tiles.entries
    ∙ ap (λ (m : Mosaic). samples_of m c.args.corner) c.self.view_is

pub returns-clause-without : goal.returns-clause-without
returns-clause-without c = removed_is _ _ _ _ _ c.self.view_is c.self.invariant c.args.corner c.remove.ensures.entries

pub returns-clause-valid : goal.returns-clause-valid
returns-clause-valid c = removed_valid _ _ _ _ _ c.self.view_is c.self.invariant c.args.corner c.remove.ensures.entries
