use Rattle.std.proofs.Common.{◌≡◌, List, None, Result, min, length, sym, ap, ◌∙◌, subst}
use Rattle.std.specs.Global.{Vec}
use Rattle.lattice.specs.declared.refusal.Refusal.{Refusal}
use Rattle.water.specs.CountLaws.{points_in}
use Rattle.water.specs.Runs.{Cover}
use Rattle.water.specs.declared.run.Run.{Run}
use Rattle.windows.specs.Results.{OfPoint}
use Rattle.windows.specs.Telling.{Tells, refusal_of}
use Rattle.windows.specs.Windows.{AreOfAll, IsMark, refused_at_once}
use Rattle.windows.proofs.Marks.{shed}
use Rattle.windows.proofs.Told.{AreRunsOf, as_asked, so_told, watershed_told}
use Rattle.windows.proofs.shed.WatershedQuestion.ask.Goals as goal

pub returns : goal.returns
returns g c =
    let p = c.args.self.now.0 in
    let w = c.args.self.now.1 in
    let a = c.args.engine.now in
    let b = c.watershed.new.self in
    let runs = c.in_ok-runs.runs in
    let none : refused_at_once w (length c.args.into.now) ≡ None = sym c.check.ensures ∙ ap refusal_of c.in_ok-check.was in
    let call = g.met.E.Engine.is_call a b _ _ c.watershed.ensures in
    let told = subst (λ (r : Result (Vec Run) Refusal). Tells g.E.Engine a b 1 (refusal_of r) (λ m. OfPoint m p (AreRunsOf m p) r)) c.in_ok-runs.was (watershed_told g.E.Engine a b p c.watershed.result call) in
    let marks = subst (λ (rs : List Run). AreOfAll w (λ q v. IsMark (Cover rs q) v) c.mark.new.into) c.as_slice.ensures.value c.mark.ensures in
    let counted = subst (λ (rs : List Run). c.count_points.result ≡ min (points_in rs) 18446744073709551615) c.as_slice-2.ensures.value c.count_points.ensures in
    as_asked g.E.Engine a b (refused_at_once w (length c.args.into.now)) 1 None _ none (so_told g.E.Engine a b 1 1 None _ _ told (λ some. some) (λ m are. shed m p w runs c.mark.new.into c.count_points.result are marks counted))
