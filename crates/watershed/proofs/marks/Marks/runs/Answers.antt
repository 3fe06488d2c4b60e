use Rattle.watershed.proofs.Prelude.{AreRuns, Cover, IsInSegment, List, Point, ℕ, ap, arith, length, rules, subst, ◌<◌, ◌^◌, ◌⊎◌}
use Rattle.std.specs.Cmp.{nat_cmp_total}
use Rattle.std.specs.Map.Iter.{deref_pair}
use Rattle.std.proofs.lemmas.Map.Iter.{btree_map_turn}
use Rattle.watershed.proofs.Marked.{AreDrawn, IsMarkedBelow, own_runs, none_drawn, all_drawn, past, drawn_more}
use Rattle.watershed.proofs.marks.Marks.runs.Goals as goal

pub loop-number-init : goal.loop-number-init
loop-number-init c = none_drawn c.args.self.now c.new-runs.result.items c.into_iter-number-iterator.result c.new-runs.ensures.items (search rules) c.len-ordered.ensures.ordered

pub add_segment-requires : goal.add_segment-requires
add_segment-requires c =
    let self = c.args.self.now in
    let number = c.in-Some.number.now in
    let place = c.in-Some.place.now in
    let turn = btree_map_turn deref_pair c.loop-number.yielded c.into_iter-number-iterator.result c.loop-number.number-iterator c.next.new.self c.next.result (c.in-Some.number, c.in-Some.place) c.loop-number.yielded_by c.in-Some.is c.next.ensures.steps nat_cmp_total self.places (search rules) (search rules) in
    let so_far = subst (AreDrawn self c.loop-number.runs.items) c.in-Some.ensures.steps c.loop-number.invariant in
    let listed = c.requires.listed number place turn.1 in
    record {
      number = subst (λ n. n < 2 ^ 52) listed.1 (c.requires.small place listed.0);
      place = omega (arith, listed.0, c.requires.whole, ap length c.deref.ensures.value);
      runs = own_runs (IsMarkedBelow self so_far.bound) c.loop-number.runs.items so_far.drawn;
      past = past self c.loop-number.runs.items c.loop-number.runs.items number place c.next.new.self turn.1 so_far;
    }

pub loop-number-preserved : goal.loop-number-preserved
loop-number-preserved c =
    let self = c.args.self.now in
    let number = c.in-Some.number.now in
    let place = c.in-Some.place.now in
    let turn = btree_map_turn deref_pair c.loop-number.yielded c.into_iter-number-iterator.result c.loop-number.number-iterator c.next.new.self c.next.result (c.in-Some.number, c.in-Some.place) c.loop-number.yielded_by c.in-Some.is c.next.ensures.steps nat_cmp_total self.places (search rules) (search rules) in
    let so_far = subst (AreDrawn self c.loop-number.runs.items) c.in-Some.ensures.steps c.loop-number.invariant in
    drawn_more self c.loop-number.runs.items c.add_segment.new.runs.items number place c.next.new.self turn.1 so_far
    (subst (λ (words : List ℕ). AreRuns (λ (q : Point). Cover c.loop-number.runs.items q ⊎ IsInSegment words number place 4096 q) c.add_segment.new.runs.items) c.deref.ensures.value c.in_ok-add_segment.ensures)

pub returns : goal.returns
returns c = all_drawn c.args.self.now c.loop-number.runs.items c.loop-number.number-iterator c.in-None.ensures.steps.0 c.loop-number.invariant
