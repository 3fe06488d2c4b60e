use Rattle.std.proofs.Common.{◌≡◌, ◌+◌, ◌*◌, ◌<◌, suc, Ok, Err, Some, None, Result, length, sym, ap, ◌∙◌, subst, arith}
use Rattle.std.proofs.lemmas.Result.{err_from_is_err_and}
use Rattle.lattice.specs.declared.refusal.Refusal.{Refusal}
use Rattle.windows.specs.Results.{OfAny}
use Rattle.windows.specs.Telling.{Asked, Tells, refusal_of}
use Rattle.windows.specs.Windows.{AreTo, AreOfAll, refused_at_once}
use Rattle.windows.proofs.Numbers.{sized}
use Rattle.windows.proofs.Told.{as_asked, so_told, still_refused, then_told}
use Rattle.windows.proofs.values.EachQuestion.ask.Goals as goal

pub loop-k-preserved : goal.loop-k-preserved
loop-k-preserved g c =
    let w = c.args.self.now.1 in
    let k = c.loop-k.k in
    let step = subst (λ (r : Result (Unit {0}) Refusal). Tells g.E.Engine c.loop-k.engine c.put.new.engine 1 (refusal_of r) (λ m. OfAny (λ _. AreTo w (g.V.PointValue.is m) k c.loop-k.into → AreTo w (g.V.PointValue.is m) (suc k) c.put.new.into) r)) c.in_ok-put.was c.put.ensures.tells in
    let next : suc k ≡ k + 1 = omega arith in
    record {
      whole = c.put.ensures.whole ∙ c.loop-k.invariant.whole;
      told = then_told g.E.Engine c.args.engine.now c.loop-k.engine c.put.new.engine k 1 None _ _ _ c.loop-k.invariant.told step (λ m before more. subst (λ n. AreTo w (g.V.PointValue.is m) n c.put.new.into) next (more before));
    }

pub returns-in_err-put : goal.returns-in_err-put
returns-in_err-put g c =
    let w = c.args.self.now.1 in
    let k = c.loop-k.k in
    let none : refused_at_once w (length c.args.into.now) ≡ None = sym c.check.ensures ∙ ap refusal_of c.in_ok-check.was in
    let p = err_from_is_err_and c.from_residual-in_err-put.result c.from_residual-in_err-put.ensures.1 in
    let found = c.in_err-put.was ∙ ap (λ (r : Refusal). Err r) (sym p.2) in
    let last = still_refused g.E.Engine c.loop-k.engine c.put.new.engine 1 c.put.result c.from_residual-in_err-put.result p.0 found p.1 _ (λ m _. AreOfAll w (g.V.PointValue.is m) c.put.new.into) c.put.ensures.tells in
    let both = then_told g.E.Engine c.args.engine.now c.loop-k.engine c.put.new.engine k 1 (refusal_of c.from_residual-in_err-put.result) _ _ _ c.loop-k.invariant.told last (λ m before says. says) in
    as_asked g.E.Engine c.args.engine.now c.put.new.engine (refused_at_once w (length c.args.into.now)) (w.rows * w.columns) (refusal_of c.from_residual-in_err-put.result) _ none
    (so_told g.E.Engine c.args.engine.now c.put.new.engine (k + 1) (w.rows * w.columns) (refusal_of c.from_residual-in_err-put.result) _ _ both (λ some. omega arith) (λ m says. says))
