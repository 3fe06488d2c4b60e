use Rattle.std.proofs.Common.{subst₂}
use Rattle.watershed.specs.Counting.{AreWaiting}
use Rattle.watershed.proofs.Prelude.{AreCounted, AreFilledLevels, Branch, IsTrue, Mosaic, Point, ℤ, is_ground, ⊎_elim, IsTour, MatchOption, Option, [], ap, arith, nil_from_length, option_to_list, refl, subst, sym, terrain, vec_len, ◌++◌, ◌+◌, ◌∙◌, ◌∷◌, ◌≡◌}
use Rattle.watershed.proofs.Known.{known_still, still_on}
use Rattle.watershed.proofs.Tours.{begun, finished, tour_begins, tour_skips, tour_returns, tour_ends, one_depth, waiting_depth}
use Rattle.watershed.proofs.counting.count_from.Goals as goal
use Rattle.watershed.proofs.counting.count_from.Goals.{Then-finds}

pub tour-init : goal.tour-init
tour-init g c =
    let told = c.in_ok-donors.ensures in
    let first = c.args.first in
    record {
      ready = told.ready;
      follows = told.follows;
      keeps = told.keeps;
      tile = (refl, refl);
      tour = λ m level tells filled known solid.
          let is = g.met.F.FlowSource.is_mosaic c.donors.new.flows m level tells in
          let counting = begun m is level filled first solid c.in_ok-donors.donors (told.donors m level tells) in (
            known_still (terrain m) level c.args.counts.now known,
            subst (λ (b : Branch). IsTour (terrain m) level first b c.new-waiting.result.items) (sym c.of-at.ensures)
                (subst (IsTour (terrain m) level first _) (sym c.new-waiting.ensures.items) (tour_begins m is level filled first _ refl counting)),
          );
      kept = λ m level tells filled known solid. ([], (refl, refl));
    }

pub tour-preserved-then-at-lt8 : goal.tour-preserved-then-at-lt8
tour-preserved-then-at-lt8 g c =
    let laws = g.met.F.FlowSource in
    let inv = c.tour.invariant in
    let told = c.in_ok-at.ensures in
    let first = c.args.flows.now in
    let old = c.tour.flows in
    let new = c.enter.new.flows in
    record {
      ready = told.ready;
      follows = laws.follows_on first old new inv.follows told.follows;
      keeps = laws.keeps_on first old new inv.keeps told.keeps;
      tile = inv.tile;
      tour = λ m level tells filled known solid.
          let so_far = inv.tour m level (laws.told_before old new m level told.follows tells) filled known solid in
          let is = laws.is_mosaic new m level tells in
          let skipped = tour_skips m is level filled c.args.first c.tour.at c.next_donor.result c.tour.waiting.items so_far.1 c.next_donor.ensures in
          (so_far.0, told.tour m level tells filled so_far.0.right c.args.first skipped);
      kept = λ m level tells filled known solid.
          let before = laws.told_before old new m level told.follows tells in
          let so_far = inv.tour m level before filled known solid in
          let is = laws.is_mosaic new m level tells in
          let skipped = tour_skips m is level filled c.args.first c.tour.at c.next_donor.result c.tour.waiting.items so_far.1 c.next_donor.ensures in
          let next = told.tour m level tells filled so_far.0.right c.args.first skipped in
          let kept = inv.kept m level before filled known solid in
          let depth = waiting_depth m is level filled c.args.first next.depth c.enter.new.waiting.items _ next.waiting in
          ⊎_elim
          (λ same. (kept.0, subst₂ (λ k p. AreWaiting (terrain m) level c.args.first k kept.0 p) (sym same.1) (sym same.0) kept.1))
          (λ same. (
            c.enter.new.waiting.items,
            subst₂ (λ k p. AreWaiting (terrain m) level c.args.first k c.enter.new.waiting.items p) (sym (same.1 ∙ (let len = c.len.ensures in let long = c.enter.new.waiting.ok.0 in omega (arith, len, long, depth)))) (sym same.0) next.waiting,
          ))
          c.finds.ensures.kept;
    }

-- a cycle of flows contradicts a mosaic
goes_round : (g : _) (c : Then-finds g) (m : Mosaic) (level : Point → ℤ) → g.F.FlowSource.tells c.enter.new.flows m level → AreFilledLevels (terrain m) level → AreCounted (terrain m) level c.args.counts.now → IsTrue (is_ground m c.args.first) → ⊥
goes_round g c m level tells filled known solid =
    let laws = g.met.F.FlowSource in
    let inv = c.tour.invariant in
    let told = c.in_ok-at.ensures in
    let old = c.tour.flows in
    let new = c.enter.new.flows in
    let before = laws.told_before old new m level told.follows tells in
    let so_far = inv.tour m level before filled known solid in
    let is = laws.is_mosaic new m level tells in
    let skipped = tour_skips m is level filled c.args.first c.tour.at c.next_donor.result c.tour.waiting.items so_far.1 c.next_donor.ensures in
    let next = told.tour m level tells filled so_far.0.right c.args.first skipped in
    let kept = inv.kept m level before filled known solid in
    let found = c.finds.ensures.found.0 c.if-finds.true in
    let depth = waiting_depth m is level filled c.args.first next.depth c.enter.new.waiting.items _ next.waiting in
    let here = subst (λ p. AreWaiting (terrain m) level c.args.first next.depth c.enter.new.waiting.items p) found.0 next.waiting in
    let same = one_depth m is level filled c.args.first solid next.depth _ c.enter.new.waiting.items kept.0 _ here kept.1 in
    let len = c.len.ensures in
    let long = c.enter.new.waiting.ok.0 in
    let longer = found.1 in
    omega (arith, same, depth, len, long, longer)

pub returns-then-finds-clause-round : goal.returns-then-finds-clause-round
returns-then-finds-clause-round g c _ m level tells filled known solid = goes_round g (goal.at.returns-then-finds-clause-round g c).Then-finds m level tells filled known solid

pub returns-then-finds-clause-counted : goal.returns-then-finds-clause-counted
returns-then-finds-clause-counted g c m level tells filled known solid = absurd (goes_round g (goal.at.returns-then-finds-clause-counted g c).Then-finds m level tells filled known solid)

pub returns-in_default-clause-count : goal.returns-in_default-clause-count
returns-in_default-clause-count g c m level tells filled known solid =
    let is = g.met.F.FlowSource.is_mosaic c.tour.flows m level tells in
    let waiting = c.tour.waiting in
    let cases = subst (λ (o : Option Branch). MatchOption o ((vec_len waiting ≡ 0) × (vec_len c.pop.new.self ≡ 0)) (λ _. vec_len c.pop.new.self + 1 ≡ vec_len waiting)) c.in_default.is c.pop.ensures.cases in
    let none : waiting.items ≡ [] = nil_from_length waiting.items (omega (arith, cases.0, waiting.ok.0)) in
    let at : Branch = record c.tour.at { looked = c.next_donor.result } in
    let skipped = tour_skips m is level filled c.args.first c.tour.at c.next_donor.result waiting.items (c.tour.invariant.tour m level tells filled known solid).1 c.next_donor.ensures in
    tour_ends m is level filled c.args.first at (subst (IsTour (terrain m) level c.args.first at) none skipped) c.if-at-lt8.false

pub tour-preserved : goal.tour-preserved
tour-preserved g c =
    let inv = c.tour.invariant in
    let at : Branch = record c.tour.at { looked = c.next_donor.result } in
    let below = c.in-Some.below in
    let rest = c.pop.new.self.items in
    let was : c.tour.waiting.items ≡ rest ++ below ∷ [] = c.pop.ensures.items ∙ ap (λ (o : Option Branch). rest ++ option_to_list o) c.in-Some.is in
    record {
      ready = inv.ready;
      follows = inv.follows;
      keeps = inv.keeps;
      kept = inv.kept;
      tile = (c.set.ensures.tile.0 ∙ inv.tile.0, c.set.ensures.tile.1 ∙ inv.tile.1);
      tour = λ m level tells filled known solid.
          let is = g.met.F.FlowSource.is_mosaic c.tour.flows m level tells in
          let so_far = inv.tour m level tells filled known solid in
          let skipped = tour_skips m is level filled c.args.first c.tour.at c.next_donor.result c.tour.waiting.items so_far.1 c.next_donor.ensures in
          let counted = finished m is level filled at c.if-at-lt8.false skipped.counting in
          let more = c.set.ensures.counted (terrain m) level so_far.0.right counted in (
            still_on (terrain m) level c.args.counts.now c.tour.counts c.set.new.self so_far.0 more,
            subst (λ (b : Branch). IsTour (terrain m) level c.args.first b rest) (sym c.in_ok-at-2.ensures.counted)
                (tour_returns m is level filled c.args.first at below c.tour.waiting.items rest skipped was c.if-at-lt8.false),
          );
    }
