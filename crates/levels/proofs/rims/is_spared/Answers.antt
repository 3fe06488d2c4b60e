use Rattle.levels.proofs.Prelude.{LiesApart, SFits, ℤ, ap, inl, inr, of_z, rules, subst, sym, to_z, to_z-of_z, void, w16, ◌≢◌}
use Rattle.levels.proofs.rims.is_spared.Goals as goal

-- the heights and the level are the same after conversion to machine form
apart_as : (was is level : ℤ) → SFits w16 was → SFits w16 is → SFits w16 level → LiesApart (to_z w16 (of_z w16 was)) (to_z w16 (of_z w16 is)) (to_z w16 (of_z w16 level)) → LiesApart was is level
apart_as was is level had fits small apart =
    subst (λ (w : ℤ). LiesApart w is level) (to_z-of_z w16 was had)
    (subst (λ (v : ℤ). LiesApart (to_z w16 (of_z w16 was)) v level) (to_z-of_z w16 is fits)
    (subst (λ (u : ℤ). LiesApart (to_z w16 (of_z w16 was)) (to_z w16 (of_z w16 is)) u) (to_z-of_z w16 level small) apart))

passed_on_as : (was is level : ℤ) → SFits w16 was → SFits w16 is → SFits w16 level → LiesApart was is level → LiesApart (to_z w16 (of_z w16 was)) (to_z w16 (of_z w16 is)) (to_z w16 (of_z w16 level))
passed_on_as was is level had fits small apart =
    subst (λ (u : ℤ). LiesApart (to_z w16 (of_z w16 was)) (to_z w16 (of_z w16 is)) u) (sym (to_z-of_z w16 level small))
    (subst (λ (v : ℤ). LiesApart (to_z w16 (of_z w16 was)) v level) (sym (to_z-of_z w16 is fits))
    (subst (λ (w : ℤ). LiesApart w is level) (sym (to_z-of_z w16 was had)) apart))

pub returns-then-height-2 : goal.returns-then-height-2
returns-then-height-2 c =
    let h = c.args.height.now in
    let level = c.args.level in
    let had : SFits w16 h.was = search rules in
    let fits : SFits w16 h.metres = search rules in
    let small : SFits w16 level = search rules in
    let full : h.metres ≢ void = search rules in (
      λ yes. inr (full, apart_as h.was h.metres level had fits small (c.lies_apart.ensures.0 yes)),
      λ spared. elim spared [
        | inl same ↦ absurd (c.if-height.false (ap (of_z w16) same))
        | inr apart ↦ c.lies_apart.ensures.1 (passed_on_as h.was h.metres level had fits small apart.1)
      ],
    )
