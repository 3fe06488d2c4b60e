use Rattle.catalogue.proofs.Prelude.{IsSampleOf, ℤ, pos, rules, subst, sym, to_z-of_z, ◌<◌, ◌∙◌}
use mir.Syntax.{w16}
use mir.Val.{SFits}
use Rattle.catalogue.proofs.Entries.{found-present, samples-found, index_within}
use Rattle.catalogue.proofs.Presence.{present_iff}
use Rattle.catalogue.proofs.Sampled.{sample_from}
use Rattle.catalogue.proofs.table.TableSamples.sample.Goals as goal

pub index-samples-requires : goal.index-samples-requires
index-samples-requires c =
    found-present c.self.inside.side _ c.self.inside.tiles.entries _ c.self.view_is c.args.c ∙ (present_iff c.args.self.now c.args.c).1 c.requires.present

pub index-requires : goal.index-requires
index-requires c =
    let samples = c.index-samples.result.now in
    index_within _ _ _ c.self.inside.tiles.entries _ c.self.view_is c.self.invariant c.args.c c.args.i (pos 0) samples samples (sym c.index-samples.ensures) c.requires.index

pub returns-clause-sample : goal.returns-clause-sample
returns-clause-sample c valid =
    let samples = c.index-samples.result.now in
    let within = index_within _ _ _ c.self.inside.tiles.entries _ c.self.view_is c.self.invariant c.args.c c.args.i c.index.result.now samples samples (sym c.index-samples.ensures) c.requires.index in
    let read = sample_from c.args.self.now c.args.c c.args.i c.index.result.now samples.items
    (samples-found _ _ _ _ c.self.view_is c.args.c samples c.index-samples.ensures) (subst (λ n. c.args.i < n) samples.ok.0 within) c.index.ensures in
    let fits : SFits w16 c.index.result.now = search rules in
    subst (λ (s : ℤ). IsSampleOf c.args.self.now c.args.c c.args.i s) (sym (to_z-of_z w16 c.index.result.now fits)) read
