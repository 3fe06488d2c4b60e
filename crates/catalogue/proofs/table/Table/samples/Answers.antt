use Rattle.std.proofs.Common.{ℤ, ap, ◌∙◌, Some, List}
use Rattle.catalogue.proofs.Prelude.{Mosaic, Vec, option_map, samples_of}
use Rattle.catalogue.proofs.Entries.{samples-lookup}
use Rattle.catalogue.proofs.table.Table.samples.Goals as goal

pub returns-in_err-samples-clause-samples : goal.returns-in_err-samples-clause-samples
returns-in_err-samples-clause-samples c =
    rw c.from_residual.ensures (
    ap (option_map (λ (v : Vec ℤ). v.items)) c.in_err-samples.ensures.value
    ∙ samples-lookup c.args.corner c.self.inside.tiles.entries
    ∙ ap (λ (m : Mosaic). samples_of m c.args.corner) c.self.view_is)

pub returns-clause-samples : goal.returns-clause-samples
returns-clause-samples c =
    ap (λ (items : List ℤ). Some items) c.as_slice.ensures.value
    ∙ ap (option_map (λ (v : Vec ℤ). v.items)) c.in_ok-samples.ensures.value
    ∙ samples-lookup c.args.corner c.self.inside.tiles.entries
    ∙ ap (λ (m : Mosaic). samples_of m c.args.corner) c.self.view_is
