use Rattle.std.proofs.Common.{rules, ◌≡◌, ◌*◌, ◌<◌, IsTrue, Err, None, Result, length, get_or, sym, ap, ◌∙◌, subst}
use Rattle.std.proofs.lemmas.List.{get_or_default}
use Rattle.std.proofs.lemmas.Result.{err_from_is_err_and}
use Rattle.lattice.specs.Corners.{Corner}
use Rattle.lattice.specs.Mosaic.{is_present}
use Rattle.lattice.specs.declared.refusal.Refusal.{Refusal}
use Rattle.windows.specs.Results.{OfAny}
use Rattle.windows.specs.Telling.{Tells, refusal_of}
use Rattle.windows.specs.Windows.{AreOfAll, ArePut, IsCountAt, refused_at_once}
use Rattle.windows.proofs.Numbers.{sized}
use Rattle.windows.proofs.Told.{as_asked, so_told, then_told}
use Rattle.windows.proofs.UpstreamCounts.{AreSoFar, all_tiles, is_there, nowhere, one_tile}
use Rattle.windows.proofs.counts.CountsQuestion.ask.Goals as goal

pub loop-at-preserved : goal.loop-at-preserved
loop-at-preserved g c =
    let w = c.args.self.now.0 in
    let n = c.side-side.result in
    let corners = c.in_ok-tiles.tiles.items in
    let at = c.loop-at.at in
    let old = c.loop-at.into in
    let new = c.put_tile.new.into in
    let corner = c.index.result.now in
    let small : at < length corners = search rules in
    let same : corner ≡ get_or corners at nowhere = c.index.ensures ∙ get_or_default corners at corner nowhere small in
    let step = subst (λ (r : Result (Unit {0}) Refusal). Tells g.E.Engine c.loop-at.engine c.put_tile.new.engine 0 (refusal_of r) (λ m. m.side ≡ n → IsTrue (is_present m corner) → OfAny (λ (u : Unit {0}). ArePut m w corner old new) r)) c.in_ok-put_tile.was c.put_tile.ensures.tells in
    record {
      whole = c.put_tile.ensures.whole ∙ c.loop-at.invariant.whole;
      told = then_told g.E.Engine c.args.engine.now c.loop-at.engine c.put_tile.new.engine 1 0 None _ _ _ c.loop-at.invariant.told step
          (λ m before more. one_tile m w n corners at old new c.put_tile.ensures.whole before
          (subst (λ (k : Corner). ArePut m w k old new) same (more before.side (subst (λ (k : Corner). IsTrue (is_present m k)) (sym same) (is_there m corners at before.tiles small)))));
    }

pub returns-in_err-put_tile : goal.returns-in_err-put_tile
returns-in_err-put_tile g c =
    let w = c.args.self.now.0 in
    let n = c.side-side.result in
    let corners = c.in_ok-tiles.tiles.items in
    let at = c.loop-at.at in
    let new = c.put_tile.new.into in
    let corner = c.index.result.now in
    let small : at < length corners = search rules in
    let same : corner ≡ get_or corners at nowhere = c.index.ensures ∙ get_or_default corners at corner nowhere small in
    let none : refused_at_once w (length c.args.into.now) ≡ None = sym c.check.ensures ∙ ap refusal_of c.in_ok-check.was in
    let result = c.from_residual-in_err-put_tile.result in
    let p = err_from_is_err_and result c.from_residual-in_err-put_tile.ensures.1 in
    let found = c.in_err-put_tile.was ∙ ap (λ (r : Refusal). Err r) (sym p.2) in
    let step = subst (λ (r : Result (Unit {0}) Refusal). Tells g.E.Engine c.loop-at.engine c.put_tile.new.engine 0 (refusal_of r) (λ m. m.side ≡ n → IsTrue (is_present m corner) → OfAny (λ (u : Unit {0}). ArePut m w corner c.loop-at.into new) r)) found c.put_tile.ensures.tells in
    let last : Tells g.E.Engine c.loop-at.engine c.put_tile.new.engine 0 (refusal_of result) (λ m. m.side ≡ n → IsTrue (is_present m corner) → OfAny (λ (u : Unit {0}). AreOfAll w (IsCountAt m) new) result) =
    subst (λ (r : Result (Unit {0}) Refusal). Tells g.E.Engine c.loop-at.engine c.put_tile.new.engine 0 (refusal_of r) (λ m. m.side ≡ n → IsTrue (is_present m corner) → OfAny (λ (u : Unit {0}). AreOfAll w (IsCountAt m) new) r)) (sym p.1) step in
    let both = then_told g.E.Engine c.args.engine.now c.loop-at.engine c.put_tile.new.engine 1 0 (refusal_of result) _ _ (λ m. OfAny (λ (u : Unit {0}). AreOfAll w (IsCountAt m) new) result) c.loop-at.invariant.told last
    (λ m before says. says before.side (subst (λ (k : Corner). IsTrue (is_present m k)) (sym same) (is_there m corners at before.tiles small))) in
    as_asked g.E.Engine c.args.engine.now c.put_tile.new.engine (refused_at_once w (length c.args.into.now)) 1 (refusal_of result) _ none both

pub returns : goal.returns
returns g c =
    let w = c.args.self.now.0 in
    let n = c.side-side.result in
    let corners = c.in_ok-tiles.tiles.items in
    let into = c.loop-at.into in
    let none : refused_at_once w (length c.args.into.now) ≡ None = sym c.check.ensures ∙ ap refusal_of c.in_ok-check.was in
    let last : c.loop-at.at ≡ length corners = search rules in
    let size : length into ≡ w.rows * w.columns = c.loop-at.invariant.whole ∙ sym (sized w (length c.args.into.now) none) in
    as_asked g.E.Engine c.args.engine.now c.loop-at.engine (refused_at_once w (length c.args.into.now)) 1 None _ none
    (so_told g.E.Engine c.args.engine.now c.loop-at.engine 1 1 None _ (λ m. AreOfAll w (IsCountAt m) into) c.loop-at.invariant.told (λ some. some) (λ m are. all_tiles m w n corners into size (subst (λ i. AreSoFar m w n corners i into) last are)))
