use Rattle.border_graph.proofs.Prelude.{Contains, IfNone, IfSome, IsGraphOf, IsJoinedLevel, IsPlacedLink, IsWayBelow, List, SFits, ℕ, ℤ, inr, refl, rules, subst, sym, to_z-of_z, w16, ◌<◌}
use Rattle.border_graph.proofs.mosaic_graph.MosaicGraph.find.Goals as goal

pub returns-in_default-2-clause-refusal : goal.returns-in_default-2-clause-refusal
returns-in_default-2-clause-refusal c = inr (
  refl,
  λ n summaries is level rest.
      subst (λ found. IfNone found ((level : ℤ) (rest : List ℕ) → IsWayBelow (IsPlacedLink n summaries) 0 level c.args.node rest → ⊥)) c.in_default-2.is
      (c.in_ok-level.ensures.not_joined n summaries (subst (IsGraphOf n summaries) (sym c.in_ok-level.ensures.keeps) is)) level rest,
)

pub know-requires : goal.know-requires
know-requires c n summaries is of =
    let in_range : SFits w16 c.in-Some-2.level = search rules in
    subst (λ v. IsJoinedLevel (IsPlacedLink n summaries) 0 c.args.node v) (sym (to_z-of_z in_range))
    (subst (λ found. IfSome found (IsJoinedLevel (IsPlacedLink n summaries) 0 c.args.node)) c.in-Some-2.is (c.in_ok-level.ensures.joined n summaries is of))

pub know_all-requires : goal.know_all-requires
know_all-requires c x has n summaries is of =
    let in_range : SFits w16 c.in-Some-2.level = search rules in
    subst (λ v. IsJoinedLevel (IsPlacedLink n summaries) 0 x v) (sym (to_z-of_z in_range))
    (subst (λ found. IfSome found (λ level. (y : ℕ) → Contains c.lowest_pass.new.alike.items y → (0 < y) × IsJoinedLevel (IsPlacedLink n summaries) 0 y level)) c.in-Some-2.is
    (c.in_ok-level.ensures.alike n summaries (subst (IsGraphOf n summaries) c.know.ensures is) of) x (subst (λ (l : List ℕ). Contains l x) c.deref.ensures.value has)).1

pub returns-clause-level : goal.returns-clause-level
returns-clause-level c n summaries is of =
    let in_range : SFits w16 c.in-Some-2.level = search rules in
    subst (λ v. IsJoinedLevel (IsPlacedLink n summaries) 0 c.args.node v) (sym (to_z-of_z in_range))
    (subst (λ found. IfSome found (IsJoinedLevel (IsPlacedLink n summaries) 0 c.args.node)) c.in-Some-2.is (c.in_ok-level.ensures.joined n summaries (subst (IsGraphOf n summaries) (sym c.in_ok-level.ensures.keeps) is) of))
