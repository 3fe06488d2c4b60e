use Rattle.flow_d8.proofs.Prelude.{IsOfFlat, IsSinkPlace, ap, cases_eq, flow_in, get_or-set_other, get_or-set_same, inl, inr, length, length-set, refl, slice_set, subst, sym, true≢false, ◌<◌, ◌∙◌, ◌≡◌}
use Rattle.water.specs.declared.flow.Flow.TheVariants.{Unknown, Outlet, Flat}
use Rattle.flow_d8.proofs.Padded.PaddedPlaces.{sink_below}
use Rattle.flow_d8.proofs.preparing.drain.Goals as goal

no_flat : Outlet ≡ Flat → ⊥
no_flat same = subst IsOfFlat (sym same) tt

pub returns-in_default : goal.returns-in_default
returns-in_default c = record { whole = refl; each = λ k. inl refl; sunk = λ k at. absurd (c.in_default.ensures k at) }

pub is_flat-requires : goal.is_flat-requires
is_flat-requires c = subst (λ z. c.in-Some.place < z) (sym c.requires) (sink_below c.args.side c.args.corner c.args.sink c.in-Some.place c.in-Some.ensures.0)

pub returns-then-is_flat : goal.returns-then-is_flat
returns-then-is_flat c =
    let at = c.in-Some.ensures in
    let p = c.in-Some.place in
    let flows = c.args.flows.now in
    let x = c.of.result in
    let within : p < length flows = subst (λ z. p < z) (sym c.requires) (sink_below c.args.side c.args.corner c.args.sink p at.0) in
    let read : flow_in (slice_set flows p x) p ≡ Outlet = get_or-set_same flows p x Unknown within ∙ c.of.ensures in
    record {
      whole = length-set flows p x;
      each = λ k. elim (cases_eq k p) [
        | inl same ↦
            inr (
              ap (flow_in flows) same ∙ c.is_flat.ensures.0 c.if-is_flat.true,
              ap (λ z. flow_in (slice_set flows p x) z) same ∙ read,
              subst (λ z. IsSinkPlace c.args.side c.args.corner c.args.sink z) (sym same) at.0,
            )
        | inr other ↦ inl (get_or-set_other flows p k x Unknown other)
      ];
      sunk = λ k here flat. no_flat (sym (ap (λ z. flow_in (slice_set flows p x) z) (at.1 k here) ∙ read) ∙ flat);
    }

pub returns-else-is_flat : goal.returns-else-is_flat
returns-else-is_flat c = record {
  whole = refl;
  each = λ k. inl refl;
  sunk = λ k here flat. true≢false (sym (c.is_flat.ensures.1 (ap (flow_in c.args.flows.now) (sym (c.in-Some.ensures.1 k here)) ∙ flat)) ∙ c.if-is_flat.false);
}
