use Rattle.levels.proofs.Prelude.{Bool, East, IsGroundOf, List, Mosaic, Ok, Point, Step, ℕ, ap, arith, count_by, directions, false, get_or, is_adjacent, is_near, length, pos, reach_of, reads_as, reads_on, same_point, step, subst, sym, take_all, true, ◌+◌, ◌<◌, ◌∙◌, ◌≡◌}
use Rattle.std.proofs.lemmas.List.Sums.{count_by_more_no, count_by_more_yes}
use Rattle.catalogue.proofs.Degrees.{degree-reach}
use Rattle.water.proofs.NearSteps.{step_near, step_other}
use Rattle.levels.proofs.Tiles.TileOutlets.{reach_from}
use Rattle.levels.proofs.outlets.degree_in_tile.Goals as goal
use Rattle.levels.proofs.outlets.degree_in_tile.Goals.{then-branch, else-branch}

abbrev no_step : Step
no_step = record { direction = East; to = record { y = pos 0; x = pos 0 } }

-- each step of the list starts at the point
goes : (p : Point) (items : List Step) → items ≡ reach_of p directions → (k : ℕ) (d : Step) → k < length items → (get_or items k d).to ≡ step (get_or items k d).direction p
goes p items is k d small =
    subst (λ (l : List Step). (get_or l k d).to ≡ step (get_or l k d).direction p) (sym is) (reach_from p directions k d (subst (λ (l : List Step). k < length l) is small))

near_by : (p q : Point) (items : List Step) → items ≡ reach_of p directions → (k : ℕ) (d : Step) → k < length items → (is_near p (get_or items k d).to ≡ true) × (same_point p (get_or items k d).to ≡ false)
near_by p q items is k d small =
    let to = goes p items is k d small in
    (subst (λ r. is_near p r ≡ true) (sym to) (step_near p (get_or items k d).direction), subst (λ r. same_point p r ≡ false) (sym to) (step_other p (get_or items k d).direction))

pub is_adjacent_to-requires-clause-near : goal.is_adjacent_to-requires-clause-near
is_adjacent_to-requires-clause-near g c =
    (near_by c.args.point c.args.point c.as_slice-step-items.result.now (c.as_slice-step-items.ensures.value ∙ c.steps-reach.ensures) c.loop-step.step-index no_step c.loop-step-test.true).0

pub is_adjacent_to-requires-clause-other : goal.is_adjacent_to-requires-clause-other
is_adjacent_to-requires-clause-other g c =
    (near_by c.args.point c.args.point c.as_slice-step-items.result.now (c.as_slice-step-items.ensures.value ∙ c.steps-reach.ensures) c.loop-step.step-index no_step c.loop-step-test.true).1

pub loop-step-preserved : goal.loop-step-preserved
loop-step-preserved g c =
    let a = c.args.samples.now in
    let b = c.loop-step.samples in
    let d = c.is_adjacent_to.new.samples in
    let so = c.loop-step.invariant in
    let read = c.in_ok-is_adjacent_to.ensures.reads in
    let k = c.loop-step.step-index in
    let items = c.as_slice-step-items.result.now in
    let small : k < length items = c.loop-step-test.true in
    let f : Mosaic → Step → Bool = λ m s. is_adjacent m c.args.point s.to in
    record {
      reads = reads_on g.S.Samples g.met.S.Samples.keeps_on a b d c.loop-step.count (Ok c.if-branch.count) so.reads (reads_as g.S.Samples b d c.in_ok-is_adjacent_to.field-0 c.if-branch.count read);
      ground_cache = λ honest. c.in_ok-is_adjacent_to.ensures.ground_cache honest;
      few = let few = so.few in elim c.if-branch.branch [ then-branch w ↦ let is = w.count-is in omega arith | else-branch w ↦ let is = w.count-is in omega arith ];
      count = λ honest of.
          let mid = read.honest honest in
          let same = so.reads.mosaic mid in
          let was = so.count mid of in
          let here : c.in_ok-is_adjacent_to.field-0 ≡ f (g.S.Samples.mosaic a) (get_or items k no_step) =
          c.in_ok-is_adjacent_to.ensures.value honest (subst (λ (m : Mosaic). IsGroundOf m c.args.tile.now.corner c.args.tile.now.labelled.now c.args.point) (sym same) of) ∙ ap (λ (m : Mosaic). f m (get_or items k no_step)) same in
          elim c.if-branch.branch [
            | then-branch w ↦ w.count-is ∙ (ap (λ n. n + 1) was ∙ sym (count_by_more_yes (f (g.S.Samples.mosaic a)) items k no_step small (sym here ∙ w.if-branch.true)))
            | else-branch w ↦ w.count-is ∙ (was ∙ sym (count_by_more_no (f (g.S.Samples.mosaic a)) items k no_step small (sym here ∙ w.if-branch.false)))
          ];
    }

pub returns-clause-value : goal.returns-clause-value
returns-clause-value g c honest of =
    let now = c.args.samples.now in
    let m = g.S.Samples.mosaic now in
    let valid = g.met.S.Samples.is_mosaic now (c.loop-step.invariant.reads.honest honest) in
    let items = c.as_slice-step-items.result.now in
    let past = c.loop-step-test.false in
    let whole = take_all c.loop-step.step-index items (omega arith) ∙ c.as_slice-step-items.ensures.value ∙ c.steps-reach.ensures in
    c.loop-step.invariant.count honest of
    ∙ ap (λ (l : List Step). count_by (λ (s : Step). is_adjacent m c.args.point s.to) l) whole
    ∙ degree-reach m c.args.point valid
