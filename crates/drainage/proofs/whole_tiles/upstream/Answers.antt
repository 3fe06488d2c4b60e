use Rattle.std.specs.Global.{Vec}
use Rattle.drainage.proofs.Prelude.{Err, ℕ, rules, subst, sym, terrain, ◌∙◌, ◌≡◌}
use Rattle.lattice.specs.declared.refusal.Refusal.TheVariants.{Damaged}
use Rattle.catalogue.specs.Asked.{Asked}
use Rattle.drainage.proofs.Questions.LevelFunctions.{level_function}
use Rattle.catalogue.proofs.Questioned.{answered, stopped}
use Rattle.water.specs.Counts.{AreUpstreamCounts}
use Rattle.water.specs.Questions.{AreTileCounts}
use Rattle.drainage.proofs.whole_tiles.upstream.Goals as goal

pub returns-in-Some-clause-counts : goal.returns-in-Some-clause-counts
returns-in-Some-clause-counts g c honest =
    let now = c.args.samples.now in
    let m = g.S.Samples.mosaic now in
    let new = c.upstream_counts.new.flows in
    let told = c.in_ok-counts.ensures in
    let counts = rw c.in-Some.is at told.counts in
    let honest_now : g.S.Samples.is_honest new.samples.now = search rules in
    let is : g.S.Samples.is_honest new.samples.now → AreTileCounts m c.args.corner c.in-Some.counts.items =
    λ sure level filled.
    let side : c.side-side.result ≡ m.side = c.side-side.ensures ∙ sym (g.met.S.Samples.same_side now (told.follows.2 sure)) in
    subst (λ (n : ℕ). AreUpstreamCounts (terrain m) level n c.args.corner c.in-Some.counts.items) side (counts m level (sure, (sym (told.follows.3 sure), filled)) filled) in
    is honest_now

pub returns-in-Some-clause-asked : goal.returns-in-Some-clause-asked
returns-in-Some-clause-asked g c =
    let is = answered g.S.Samples c.args.samples.now c.upstream_counts.new.flows.samples.now c.in-Some.counts c.in_ok-counts.ensures.keeps in
    search rules

pub returns-in-None-clause-asked : goal.returns-in-None-clause-asked
returns-in-None-clause-asked g c =
    let now = c.args.samples.now in
    let m = g.S.Samples.mosaic now in
    let new = c.upstream_counts.new.flows in
    let told = c.in_ok-counts.ensures in
    let none = c.in-None.is in
    let was = c.in_ok-counts.was in
    let dishonest : g.S.Samples.is_honest new.samples.now → ⊥ = λ honest.
    let level = level_function m (g.met.S.Samples.is_mosaic now (told.follows.2 honest)) in
    told.round (cc) m level.0 (honest, (sym (told.follows.3 honest), level.1)) level.1 in
    let is : Asked {T = Vec ℕ} g.S.Samples now new.samples.now (Err Damaged) = stopped g.S.Samples now new.samples.now told.keeps dishonest in
    search rules
