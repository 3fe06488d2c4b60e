use Rattle.std.proofs.lemmas.List.{get_or_past}
use Rattle.flow_d8.proofs.Prelude.{IsFlow, arith, cases_lt, count_of, get_or, inl, inr, length, subst, ◌<◌}
use Rattle.flow_d8.specs.Filled.{number_of}
use Rattle.water.specs.declared.flow.Flow.TheVariants.{Unknown}
use Rattle.flow_d8.specs.Resolution.{IsOutcome, IsMetOnGround}
use Rattle.flow_d8.proofs.Samples.AtHand.{at_hand_below, sample_at_hand}
use Rattle.flow_d8.proofs.Sayings.Draining.{drains_at, resolved_sample, known_at}
use Rattle.flow_d8.proofs.Samples.TilePlaces.{place_number}
use Rattle.flow_d8.proofs.Sayings.Told.{twin_flat}
use Rattle.flow_d8.proofs.grid.resolve_known.Goals as goal

pub returns-in-Meets-clause-met : goal.returns-in-Meets-clause-met
returns-in-Meets-clause-met c =
    let tiles = c.args.tiles.now in
    let seed = number_of tiles.side tiles.corners c.args.point in
    let met = subst (IsOutcome tiles seed c.args.flows.now c.resolve.new.flows) c.in-Meets.is c.in_ok-met.ensures.outcome in (
      met.0.nothing,
      subst (IsMetOnGround tiles c.args.flows.now) c.in-Meets.is c.in_ok-met.ensures.ground,
    )

pub returns-in-Resolved-clause-samples : goal.returns-in-Resolved-clause-samples
returns-in-Resolved-clause-samples c k at some first t level full are ground j crosses =
    let tiles = c.args.tiles.now in
    let valid = c.tiles-valid.ensures.valid in
    let p = c.args.point in
    let seed = number_of tiles.side tiles.corners p in
    let old = c.args.flows.now in
    let new = c.resolve.new.flows in
    let tells = c.resolve.ensures.tells in
    let small : seed < count_of tiles = at_hand_below tiles valid p (sample_at_hand tiles valid p k at) in
    drains_at tiles valid p old new k at (known_at old new k tells some) tells.kept t level (c.resolve.ensures.facts t level full are) ground
    (λ flat. elim c.in-Resolved.is [
      | inl resolved ↦ let came = subst (IsOutcome tiles seed old new) resolved c.in_ok-met.ensures.outcome in resolved_sample tiles valid p old new came.1 small k at t level full are j crosses flat
      | inr not ↦
          let came = subst (IsOutcome tiles seed old new) not c.in_ok-met.ensures.outcome in
          absurd (came.0 (twin_flat t level p (get_or old k Unknown) (get_or old seed Unknown) (subst (λ q. IsFlow t level q (get_or old k Unknown)) at.here (are k))
          (subst (λ q. IsFlow t level q (get_or old seed Unknown)) (place_number tiles valid p small) (are seed)) flat first))
    ])

pub returns-in-Resolved-clause-drains : goal.returns-in-Resolved-clause-drains
returns-in-Resolved-clause-drains c first =
    let tiles = c.args.tiles.now in
    let valid = c.tiles-valid.ensures.valid in
    let seed = number_of tiles.side tiles.corners c.args.point in
    let small : seed < count_of tiles = elim (cases_lt seed (length c.args.flows.now)) [
      | inl below ↦ omega (arith, below, c.requires.whole)
      | inr past ↦ absurd (first (get_or_past c.args.flows.now seed Unknown past))
    ] in
    returns-in-Resolved-clause-samples c seed (record { small = small; here = place_number tiles valid c.args.point small }) first first
