use Rattle.std.proofs.Common.{◌≡◌, MatchResult, nat_le, if◌then◌else◌, length, refl, sym, ap, ◌∙◌, subst}
use Rattle.core.specs.Mem.{manually_drop_value}
use Rattle.lattice.specs.Refusals.{number_of}
use Rattle.store.specs.Stores.{disk_of}
use Rattle.mosaic_c.specs.declared.session.Session.{Session}
use Rattle.mosaic_c.proofs.Answered.{line_told, opened}
use Rattle.mosaic_c.proofs.exports.mosaic_ask.Goals as goal

pub returns-in-Ok : goal.returns-in-Ok
returns-in-Ok c =
    let into = c.ask-answer.new.into in
    let number = c.number_fitting.result in
    let count = c.in-Ok.needed in
    line_told _ (λ (s : Session). s.store) _ _ _ _ _ c.in-Some.ensures.session (c.deref_mut-2.ensures.value ∙ ap manually_drop_value c.deref_mut.ensures.value) c.put.ensures
    c.args.line.now into c.ask-answer.result number count c.ask-answer.ensures
    (subst (λ r. MatchResult r (λ n. (count ≡ n) × (number ≡ (if nat_le n (length into) then 0 else 3))) (λ why. number ≡ number_of why)) (sym c.in-Ok.is) (refl, c.number_fitting.ensures)) (record {
      honest = λ e. tt;
      has = λ x capacity contents there. record { at = there.at; works = there.at.in_state.failed_is; none = there.none_failed; takes = there.takes };
      is_open = λ x capacity contents s at same works none takes. opened x capacity contents s at same works none takes;
      faults = λ e. (disk_of e).faults;
    })

pub returns-in-Err : goal.returns-in-Err
returns-in-Err c =
    let into = c.ask-answer.new.into in
    let number = c.number-in-Err.result in
    let count = c.args.count.now in
    line_told _ (λ (s : Session). s.store) _ _ _ _ _ c.in-Some.ensures.session (c.deref_mut-2.ensures.value ∙ ap manually_drop_value c.deref_mut.ensures.value) c.put.ensures
    c.args.line.now into c.ask-answer.result number count c.ask-answer.ensures
    (subst (λ r. MatchResult r (λ n. (count ≡ n) × (number ≡ (if nat_le n (length into) then 0 else 3))) (λ why. number ≡ number_of why)) (sym c.in-Err.is) c.number-in-Err.ensures) (record {
      honest = λ e. tt;
      has = λ x capacity contents there. record { at = there.at; works = there.at.in_state.failed_is; none = there.none_failed; takes = there.takes };
      is_open = λ x capacity contents s at same works none takes. opened x capacity contents s at same works none takes;
      faults = λ e. (disk_of e).faults;
    })
