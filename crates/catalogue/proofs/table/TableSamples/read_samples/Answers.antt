use Rattle.std.proofs.Common.{◌≤◌, ◌+◌, ◌-◌, ℤ, sym, ap, ◌∙◌, subst, length, take, drop, List}
use Rattle.catalogue.proofs.Entries.{found-present, samples-found, range_within}
use Rattle.catalogue.proofs.Presence.{present_iff}
use Rattle.catalogue.proofs.Sampled.{samples_from}
use Rattle.catalogue.proofs.table.TableSamples.read_samples.Goals as goal

pub index-samples-requires : goal.index-samples-requires
index-samples-requires c =
    found-present c.self.inside.side _ c.self.inside.tiles.entries _ c.self.view_is c.args.c ∙ (present_iff c.args.self.now c.args.c).1 c.requires.present

pub slice_bounds-copy_from_slice-end : goal.slice_bounds-copy_from_slice-end
slice_bounds-copy_from_slice-end c =
    let samples = c.index-samples.result.now in
    let within = range_within _ _ _ c.self.inside.tiles.entries _ c.self.view_is c.self.invariant c.args.c (c.args.first + length c.args.into.now) samples (sym c.index-samples.ensures) c.requires.range in
    subst (λ (l : List ℤ). c.args.first + length c.args.into.now ≤ length l) (sym c.deref.ensures.value) within

pub returns-clause-samples : goal.returns-clause-samples
returns-clause-samples c valid =
    let samples = c.index-samples.result.now in
    samples_from c.args.self.now c.args.c c.args.first (length c.args.into.now) c.copy_from_slice.new.self samples.items
    (samples-found _ _ _ _ c.self.view_is c.args.c samples c.index-samples.ensures) c.copy_from_slice.ensures.len
    (c.copy_from_slice.ensures.after ∙ ap (λ (l : List ℤ). take (c.args.first + length c.args.into.now - c.args.first) (drop c.args.first l)) c.deref.ensures.value)
