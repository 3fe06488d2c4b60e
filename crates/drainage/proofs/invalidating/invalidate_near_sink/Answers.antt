use Rattle.drainage.proofs.Prelude.{with_point, with_sinks, without_point, subst, sym, ◌∙◌}
use Rattle.levels.proofs.Changes.Reached.{differ_with, differ_without, unmoved}
use Rattle.levels.proofs.Changes.SparedLevels.{declared_still, taken_back_still}
use Rattle.drainage.proofs.Changes.SinkDownhill.{cache_sunk, levels_sunk}
use Rattle.drainage.specs.Beyond.{is_left_by}
use Rattle.drainage.proofs.invalidating.invalidate_near_sink.Goals as goal

pub returns-then-drains_down-clause-still : goal.returns-then-drains_down-clause-still
returns-then-drains_down-clause-still c m valid right = c.invalidate_reached.ensures.right m m (unmoved m c.args.point c.args.point) (λ q level stays filled. filled) (λ cache of. of) right

pub returns-then-drains_down-clause-declared : goal.returns-then-drains_down-clause-declared
returns-then-drains_down-clause-declared c m valid below right =
    let p = c.args.point in
    let sinks = with_point p m.sinks in
    let lower = c.drains_down.ensures.lower c.if-drains_down.true m right in
    c.invalidate_reached.ensures.right m (with_sinks sinks m) (differ_with m p) (λ q v stays filled. levels_sunk m valid sinks p (differ_with m p).sinks lower q v tt filled)
    (cache_sunk m valid sinks p (differ_with m p).sinks lower) right

pub returns-then-drains_down-clause-taken_back : goal.returns-then-drains_down-clause-taken_back
returns-then-drains_down-clause-taken_back c m valid below right =
    let p = c.args.point in
    let sinks = without_point p m.sinks in
    let lower = c.drains_down.ensures.lower c.if-drains_down.true m right in
    c.invalidate_reached.ensures.right m (with_sinks sinks m) (differ_without m p) (λ q v stays filled. levels_sunk m valid sinks p (differ_without m p).sinks lower q v tt filled)
    (cache_sunk m valid sinks p (differ_without m p).sinks lower) right

pub returns-then-drains_down-clause-kept : goal.returns-then-drains_down-clause-kept
returns-then-drains_down-clause-kept c =
    subst (λ b. is_left_by b c.args.point c.args.most c.args.held.now c.invalidate_reached.new.self) (sym c.if-drains_down.true ∙ c.drains_down.ensures.value)
    (c.invalidate_reached.ensures.left, c.invalidate_reached.ensures.flows)

pub returns-clause-still : goal.returns-clause-still
returns-clause-still c m valid right = c.invalidate_between.ensures.right m m (unmoved m c.args.point c.args.point) (λ q level stays filled. filled) right

pub returns-clause-declared : goal.returns-clause-declared
returns-clause-declared c m valid below right =
    let p = c.args.point in
    c.invalidate_between.ensures.right m (with_sinks (with_point p m.sinks) m) (differ_with m p) (declared_still m p c.args.most below) right

pub returns-clause-taken_back : goal.returns-clause-taken_back
returns-clause-taken_back c m valid below right =
    let p = c.args.point in
    c.invalidate_between.ensures.right m (with_sinks (without_point p m.sinks) m) (differ_without m p) (taken_back_still m p c.args.most below) right

pub returns-clause-kept : goal.returns-clause-kept
returns-clause-kept c =
    subst (λ b. is_left_by b c.args.point c.args.most c.args.held.now c.invalidate_between.new.self) (sym c.if-drains_down.false ∙ c.drains_down.ensures.value)
    c.invalidate_between.ensures.left
