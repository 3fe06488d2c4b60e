use Rattle.lattice.specs.Lattice.{IsIndexOf}
use Rattle.watershed.proofs.Prelude.{AreCounted, AreFilledLevels, IsTrue, Mosaic, Point, ℤ, arith, cases_Bool, get_or-set_same, inl, inr, is_ground, subst, sym, terrain, true≢false, ◌*◌, ◌<◌, ◌∙◌}
use Rattle.std.proofs.Common.{subst₂}
use Rattle.watershed.proofs.Known.{counted_some, known_more, still_on}
use Rattle.watershed.proofs.counting.count_sample.Goals as goal
use Rattle.watershed.proofs.counting.count_sample.Goals.{In_default}

pub returns-clause-counted : goal.returns-clause-counted
returns-clause-counted g c m level tells filled known =
    let laws = g.met.F.FlowSource in
    let told = c.in_ok-count.ensures in
    let flow = c.in_ok-flow.ensures.flow m level (laws.told_before c.flow.new.self c.count_from.new.flows m level told.follows tells) in
    let solid : IsTrue (is_ground m c.point_at-point.result) = elim (cases_Bool (is_ground m c.point_at-point.result)) [
      | inl on ↦ on
      | inr off ↦ absurd (true≢false (sym (c.is_no_ground.ensures.1 (flow.elsewhere.1 off)) ∙ c.if-is_no_ground.false))
    ] in
    let so_far = told.counted m level tells filled known solid in
    let count = rw c.in-Some.is at told.count in
    still_on (terrain m) level c.args.counts.now c.count_from.new.counts _ so_far
    (known_more (terrain m) level c.count_from.new.counts c.point_at-point.result c.args.index c.in-Some.count _ (subst₂ (λ n k. IsIndexOf n k c.point_at-point.result c.args.index) (sym told.tile.0) (sym told.tile.1) c.point_at-point.ensures.index) so_far.right (count m level tells filled known solid))

pub returns-clause-known : goal.returns-clause-known
returns-clause-known g c m level tells filled known on none =
    let within = subst (λ n. c.args.index < n * n) (sym c.in_ok-count.ensures.tile.0) c.requires.index in
    let told = c.in_ok-count.ensures in
    let is_count = rw c.in-Some.is at told.count in
    let count = is_count m level tells filled known (subst (λ (p : Point). IsTrue (is_ground m p)) (sym c.point_at-point.ensures.value) on) in
    counted_some (terrain m) level c.point_at-point.result c.in-Some.count count (sym (get_or-set_same c.count_from.new.counts.counts.items c.args.index c.in-Some.count 0 (omega (arith, within, c.count_from.new.counts.whole))) ∙ none)

-- a cycle of flows contradicts a mosaic
goes_round : (g : _) (c : In_default g) (m : Mosaic) (level : Point → ℤ) → g.F.FlowSource.tells c.count_from.new.flows m level → AreFilledLevels (terrain m) level → AreCounted (terrain m) level c.args.counts.now → ⊥
goes_round g c m level tells filled known =
    let laws = g.met.F.FlowSource in
    let told = c.in_ok-count.ensures in
    let flow = c.in_ok-flow.ensures.flow m level (laws.told_before c.flow.new.self c.count_from.new.flows m level told.follows tells) in
    let solid : IsTrue (is_ground m c.point_at-point.result) = elim (cases_Bool (is_ground m c.point_at-point.result)) [
      | inl on ↦ on
      | inr off ↦ absurd (true≢false (sym (c.is_no_ground.ensures.1 (flow.elsewhere.1 off)) ∙ c.if-is_no_ground.false))
    ] in
    let none = c.in_default.is in
    let was = c.in_ok-count.was in
    told.round (cc) m level tells filled known solid

pub returns-in_default-clause-round : goal.returns-in_default-clause-round
returns-in_default-clause-round g c _ m level tells filled known = goes_round g (goal.at.returns-in_default-clause-round g c).In_default m level tells filled known

pub returns-in_default-clause-counted : goal.returns-in_default-clause-counted
returns-in_default-clause-counted g c m level tells filled known = absurd (goes_round g (goal.at.returns-in_default-clause-counted g c).In_default m level tells filled known)

pub returns-in_default-clause-known : goal.returns-in_default-clause-known
returns-in_default-clause-known g c m level tells filled known on none = goes_round g (goal.at.returns-in_default-clause-known g c).In_default m level tells filled known
