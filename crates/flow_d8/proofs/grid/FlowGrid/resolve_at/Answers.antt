use Rattle.flow_d8.proofs.Prelude.{CrossesFlat, Drains, Flow, IfNone, IfSome, IsOfFlat, IsTrue, LiesInside, OnGround, Unknown, arith, count_of, flow_of, get_or, length, subst, sym, true≢false, ℕ, ◌<◌, ◌∙◌, ◌≡◌}
use Rattle.flow_d8.specs.Tiles.{IsSampleOf, place_of}
use Rattle.flow_d8.specs.Filled.{number_of}
use Rattle.flow_d8.proofs.Samples.AtHand.{at_hand_below, sample_at_hand}
use Rattle.flow_d8.proofs.Sayings.Draining.{drains_all, flat_unless}
use Rattle.flow_d8.proofs.Sayings.Said.{inside_of}
use Rattle.flow_d8.proofs.grid.FlowGrid.resolve_at.Goals as goal

pub returns-in-Some-clause-failed : goal.returns-in-Some-clause-failed
returns-in-Some-clause-failed c _ t level full are crossed =
    let s = c.args.self.now in
    let met = subst (λ o. IfSome o (λ p. (flow_of s.tiles s.flows.items p ≡ Unknown) × OnGround s.tiles s.flows.items (λ t level. IsTrue (t.is_ground p)))) c.in-Some.is c.in_ok-resolve.ensures.met in
    let q = c.in-Some.field-0 in
    let small : number_of s.tiles.side s.tiles.corners q < length s.flows.items =
    omega (arith, at_hand_below s.tiles c.tiles-valid.ensures.valid q (crossed q (met.1 t level full are)).0, s.whole) in
    c.requires.known (number_of s.tiles.side s.tiles.corners q) small met.0

pub returns-in-None-clause-failed : goal.returns-in-None-clause-failed
returns-in-None-clause-failed c off t level full are crossed =
    let s = c.args.self.now in
    let k = c.args.k in
    let p = c.point-point.result in
    let valid = c.tiles-valid.ensures.valid in
    let old : Flow = get_or s.flows.items k Unknown in
    let new : Flow = get_or c.resolve.new.self.flows.items k Unknown in
    let at : IsSampleOf s.tiles p k = record { small = omega (arith, c.requires.inside, s.whole); here = sym c.point-point.ensures } in
    let seed = number_of s.tiles.side s.tiles.corners p in
    let first : seed < count_of s.tiles = at_hand_below s.tiles valid p (sample_at_hand s.tiles valid p k at) in
    let known = c.requires.known k c.requires.inside in
    let known_first = c.requires.known seed (omega (arith, first, s.whole)) in
    let flat : IsOfFlat old = flat_unless old (λ all. true≢false (sym (c.tells_all_at.ensures.1 all) ∙ c.if-tells_all_at.false)) known in
    let lies : LiesInside t level (place_of s.tiles k) = inside_of t level (place_of s.tiles k) old flat (are k) in
    let ground : IsTrue (t.is_ground p) = subst (λ q. IsTrue (t.is_ground q)) at.here lies.ground in
    let crosses = (crossed p ground).1 in
    let samples = subst (λ o. IfNone o ((e : ℕ) → IsSampleOf s.tiles p e → (get_or s.flows.items e Unknown ≡ Unknown → ⊥) → (flow_of s.tiles s.flows.items p ≡ Unknown → ⊥)
    → OnGround s.tiles s.flows.items (λ u l. IsTrue (u.is_ground p) → (j : ℕ) → CrossesFlat u l p j → Drains (get_or c.resolve.new.self.flows.items e Unknown)))) c.in-None.is c.in_ok-resolve.ensures.samples in
    let drains : Drains new = samples k at known known_first t level full are ground crosses.0 crosses.1 in
    true≢false (sym (c.tells_all_at-in-None.ensures.1 (drains_all new drains)) ∙ off)
