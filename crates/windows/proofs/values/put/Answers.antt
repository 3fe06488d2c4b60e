use Rattle.std.proofs.Common.{Err, sym, ap, ◌∙◌}
use Rattle.std.proofs.lemmas.Result.{err_from_is_err_and}
use Rattle.lattice.specs.declared.refusal.Refusal.{Refusal}
use Rattle.windows.proofs.Told.{still_refused}
use Rattle.windows.proofs.values.put.Goals as goal

pub returns-in_err-into-clause-tells : goal.returns-in_err-into-clause-tells
returns-in_err-into-clause-tells g c =
    let p = err_from_is_err_and c.from_residual.result c.from_residual.ensures.1 in
    let found = c.in_err-into.was ∙ ap (λ (r : Refusal). Err r) (sym p.2) in
    still_refused g.E.Engine c.args.engine.now c.at.new.engine 1 c.at.result c.from_residual.result p.0 found p.1 _ _ c.at.ensures
