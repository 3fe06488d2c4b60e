use Rattle.flow_d8.proofs.Prelude.{IfSome, IsTrue, LiesInside, Unknown, slice_index_or, step, subst, sym, ◌≡◌}
use Rattle.flow_d8.specs.Filled.{number_of}
use Rattle.flow_d8.specs.Resolution.{IsMissing}
use Rattle.flow_d8.specs.Tiles.{place_of, by_of}
use Rattle.flow_d8.proofs.Sayings.Said.{inside_of, no_outlet}
use Rattle.flow_d8.proofs.grid.search_known.Goals as goal

pub returns-in-Some : goal.returns-in-Some
unfolding by_of
returns-in-Some c =
    let tiles = c.args.tiles.now in
    let flows = c.args.flows.now in
    let q = c.in-Some.met in
    let missing : IsMissing tiles flows q = subst (λ o. IfSome o (IsMissing tiles flows)) c.in-Some.is c.in_ok-met.ensures.met in
    let k = missing.0 in
    let beside = missing.1.1 in
    let x = place_of tiles k in
    let nothing : slice_index_or flows (number_of tiles.side tiles.corners q) Unknown ≡ Unknown = subst (λ p. slice_index_or flows (number_of tiles.side tiles.corners p) Unknown ≡ Unknown) (sym beside.1.0) beside.1.1 in
    record {
      met = (
        nothing,
        λ t level full are.
            let lies : LiesInside t level x = inside_of t level x (slice_index_or flows k Unknown) missing.1.0 (are k) in
            subst (λ p. IsTrue (t.is_ground p)) (sym beside.1.0) (full.stepped.lawful.to_ground x (step beside.0 x) (full.full x lies.ground (no_outlet t level x lies) beside.0)),
      );
    }
