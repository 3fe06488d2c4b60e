-- Two summaries with the same rim and the same spills have the same links inside the tile, whatever their order and the other
-- summaries.
use Rattle.border_graph.proofs.Prelude.{Contains, IsInnerLink, IsLabelLink, IsLink, IsThere, List, OUT, Outlet, Rim, RimPoint, Spill, Summary, ℕ, ℤ, ap, get_or, inl, inr, length, nowhere, refl, rim_point, summary_at, sym, ◌<◌, ◌∙◌, ◌≡◌}

module _ (n : ℕ) (old new : List Summary) (t u : ℕ) (small : u < length new) (rim : (summary_at new u).rim ≡ (summary_at old t).rim)
    (spills : (s : Spill) → Contains (summary_at old t).spills s → Contains (summary_at new u).spills s) where
  point_is : (k : ℕ) → rim_point (summary_at new u) k ≡ rim_point (summary_at old t) k
  point_is k = ap (λ (r : List RimPoint). get_or r k nowhere) rim

  height_is : (k : ℕ) → (rim_point (summary_at new u) k).height ≡ (rim_point (summary_at old t) k).height
  height_is k = ap (λ (p : RimPoint). p.height) (point_is k)

  there : (k : ℕ) → IsThere n old t k → IsThere n new u k
  there k on = record { tile = small; number = on.number; solid = λ gap. on.solid (sym (height_is k) ∙ gap) }

  label : (k l : ℕ) (level : ℤ) → IsLabelLink n old t k l level → IsLabelLink n new u k l level
  label k l level link = record { names = ap (λ (p : RimPoint). p.label) (point_is k) ∙ link.names; height = height_is k ∙ link.height }

  pub out_link : (k : ℕ) (level : ℤ) → IsLink n old (Rim t k) Outlet level → IsLink n new (Rim u k) Outlet level
  out_link k level (on, inl out) = (there k on, inl (record { outlet = ap (λ (p : RimPoint). p.outlet) (point_is k) ∙ out.outlet; height = height_is k ∙ out.height }))
  out_link k level (on, inr (inl link)) = (there k on, inr (inl (label k OUT level link)))
  out_link k level (on, inr (inr spill)) = (there k on, inr (inr (spills (record { a = k; b = OUT; level = level }) spill)))

  inner : (k l : ℕ) (level : ℤ) → IsInnerLink n old t k l level → IsInnerLink n new u k l level
  inner k l level (inl link) = inl (label k l level link)
  inner k l level (inr (inl link)) = inr (inl (label l k level link))
  inner k l level (inr (inr (inl spill))) = inr (inr (inl (spills (record { a = k; b = l; level = level }) spill)))
  inner k l level (inr (inr (inr spill))) = inr (inr (inr (spills (record { a = l; b = k; level = level }) spill)))

  pub inner_link : (k l : ℕ) (level : ℤ) → IsLink n old (Rim t k) (Rim t l) level → IsLink n new (Rim u k) (Rim u l) level
  inner_link k l level (here, (on, inl link)) = (there k here, (there l on, inl (refl, inner k l level link.1)))
  inner_link k l level (here, (on, inr shared)) = absurd (shared.apart refl)
