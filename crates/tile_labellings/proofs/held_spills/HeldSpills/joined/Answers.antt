use Rattle.std.proofs.Common.{subst, sym, ◌∙◌}
use Rattle.labelling.specs.Spills.{AreSpills}
use Rattle.tile_flood.specs.Bands.{AreBands}
use Rattle.tile_labellings.specs.HeldSpills.{AreJoined}
use Rattle.tile_labellings.proofs.held_spills.HeldSpills.joined.Goals as goal

pub returns-in-Some-clause-spills : goal.returns-in-Some-clause-spills
returns-in-Some-clause-spills c n levels labels are =
    let held = subst (AreJoined c.args.self.now.bands.items) c.in-Some.is c.requires in
    subst (AreSpills n levels levels labels) (sym (c.in_ok-from_slice.ensures.items ∙ c.deref.ensures.value)) (held n levels labels are)

pub returns-clause-joined : goal.returns-clause-joined
returns-clause-joined c n levels labels are = c.in_ok-found.ensures.spills n levels labels (subst (AreBands n levels labels) (sym c.deref-2.ensures.value) are)

pub returns-clause-spills : goal.returns-clause-spills
returns-clause-spills c n levels labels are =
    subst (AreSpills n levels levels labels) (sym (c.in_ok-copy.ensures.items ∙ c.deref-3.ensures.value))
    (c.in_ok-found.ensures.spills n levels labels (subst (AreBands n levels labels) (sym c.deref-2.ensures.value) are))
