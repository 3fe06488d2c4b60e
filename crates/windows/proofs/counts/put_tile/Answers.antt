use Rattle.std.proofs.Common.{◌≡◌, ◌<◌, ℕ, IsTrue, Some, None, Err, Result, length, get_or, sym, ap, ◌∙◌, subst, arith}
use Rattle.std.specs.Global.{Vec}
use Rattle.std.proofs.lemmas.Result.{err_from_is_err_and}
use Rattle.lattice.specs.declared.refusal.Refusal.{Refusal}
use Rattle.lattice.specs.Mosaic.{is_present}
use Rattle.water.specs.Questions.{AreTileCounts}
use Rattle.windows.specs.Results.{OfAny, OfTile}
use Rattle.windows.specs.Telling.{Tells, refusal_of}
use Rattle.windows.specs.Windows.{ArePut, count_or, point_in}
use Rattle.windows.proofs.Told.{so_told, upstream_told}
use Rattle.windows.proofs.UpstreamCounts.{are_put, refused_so}
use Rattle.windows.proofs.counts.put_tile.Goals as goal

pub returns-in_err-counts-clause-tells : goal.returns-in_err-counts-clause-tells
returns-in_err-counts-clause-tells g c =
    let a = c.args.engine.now in
    let b = c.upstream.new.self in
    let corner = c.args.corner in
    let p = err_from_is_err_and c.from_residual.result c.from_residual.ensures.1 in
    let found = c.in_err-counts.was ∙ ap (λ (r : Refusal). Err r) (sym p.2) in
    let told = subst (λ (r : Result (Vec ℕ) Refusal). Tells g.E.Engine a b 1 (refusal_of r) (λ m. OfTile m corner (AreTileCounts m corner) r)) found (upstream_told g.E.Engine a b corner c.upstream.result (g.met.E.Engine.is_call a b _ _ c.upstream.ensures)) in
    subst (λ (r : Result (Unit {0}) Refusal). Tells g.E.Engine a b 0 (refusal_of r) (λ m. m.side ≡ c.args.side → IsTrue (is_present m corner) → OfAny (λ (u : Unit {0}). ArePut m c.args.window corner c.args.into.now c.args.into.now) r)) (sym p.1)
    (so_told g.E.Engine a b 1 0 (Some p.0) _ _ told (λ some. omega (arith, some)) (λ m not same there. refused_so m corner (AreTileCounts m corner) (λ (u : Unit {0}). ArePut m c.args.window corner c.args.into.now c.args.into.now) p.0 there not))

pub returns-clause-tells : goal.returns-clause-tells
returns-clause-tells g c =
    let a = c.args.engine.now in
    let b = c.upstream.new.self in
    let corner = c.args.corner in
    let counts = c.in_ok-counts.counts in
    let told = subst (λ (r : Result (Vec ℕ) Refusal). Tells g.E.Engine a b 1 (refusal_of r) (λ m. OfTile m corner (AreTileCounts m corner) r)) c.in_ok-counts.was (upstream_told g.E.Engine a b corner c.upstream.result (g.met.E.Engine.is_call a b _ _ c.upstream.ensures)) in
    let put = c.put_rows.ensures.put in
    so_told g.E.Engine a b 1 0 None _ _ told (λ some. omega (arith, some))
    (λ m are same there. are_put m c.args.window c.args.side corner counts.items c.args.into.now c.put_rows.new.into c.put_rows.ensures.low c.corner_in_range.ensures same are.1
    (subst (λ xs. (k : ℕ) → k < length c.args.into.now → get_or c.put_rows.new.into k 0 ≡ count_or c.args.side corner xs (point_in c.args.window k) (get_or c.args.into.now k 0)) c.as_slice.ensures.value put))
