use Rattle.std.proofs.Common.{rules, ◌≡◌, IfOk, refl, sym, ap, ◌∙◌, subst}
use Rattle.core.specs.Mem.{manually_drop_value}
use Rattle.mosaic_c.specs.Sessions.{number_in}
use Rattle.store.specs.Stores.{disk_of}
use Rattle.mosaic_c.specs.declared.session.Session.{Session}
use Rattle.mosaic_c.proofs.Answered.{not_held, opened, told}
use Rattle.mosaic_c.proofs.exports.tell.Goals as goal

pub returns-in-Ok : goal.returns-in-Ok
returns-in-Ok g c =
    told _ (λ (s : Session). s.store) _ _ _ _ _ c.in-Some.ensures.session (c.deref_mut-2.ensures.value ∙ ap manually_drop_value c.deref_mut.ensures.value) c.put.ensures
    _ _ c.ask-told.result _ 0 c.in-Ok.value c.ask-told.ensures (sym (ap number_in c.in-Ok.is)) (subst (λ r. IfOk r (λ x. c.in-Ok.value ≡ x)) (sym c.in-Ok.is) refl) (record {
      honest = λ e. tt;
      has = λ x capacity contents there. record { at = there.at; works = there.at.in_state.failed_is; none = there.none_failed; takes = there.takes };
      is_open = λ x capacity contents s at same works none takes. opened x capacity contents s at same works none takes;
      faults = λ e. (disk_of e).faults;
    })

pub returns-in-Err : goal.returns-in-Err
returns-in-Err g c =
    told _ (λ (s : Session). s.store) _ _ _ _ _ c.in-Some.ensures.session (c.deref_mut-2.ensures.value ∙ ap manually_drop_value c.deref_mut.ensures.value) c.put.ensures
    _ _ c.ask-told.result _ _ c.args.answer.now c.ask-told.ensures (c.number-in-Err.ensures ∙ sym (ap number_in c.in-Err.is)) (subst (λ r. IfOk r (λ x. c.args.answer.now ≡ x)) (sym c.in-Err.is) tt) (record {
      honest = λ e. tt;
      has = λ x capacity contents there. record { at = there.at; works = there.at.in_state.failed_is; none = there.none_failed; takes = there.takes };
      is_open = λ x capacity contents s at same works none takes. opened x capacity contents s at same works none takes;
      faults = λ e. (disk_of e).faults;
    })

pub returns-in_default : goal.returns-in_default
returns-in_default g c = not_held _ _ _ _ _ _ (search rules) (search rules) (search rules)
