-- Resolved samples, and contradictions that show that a grid belongs to no terrain.
use Rattle.std.proofs.Common.{rules}
use Rattle.flow_d8.proofs.Prelude.{Flow, IsFlow, IsOfFlat, IsTellingAll, LiesInside, List, NoGround, Outlet, Point, Tells, Terrain, To, Unknown, ℕ, ℤ, inl, inr, refl, slice_index_or, step, subst, sym, true≢false, ◌∙◌, ◌≡◌}
use Rattle.flow_d8.proofs.Sayings.Said.{inside_of}

-- a resolved flow stays resolved
pub telling_still : (old new : List Flow) → Tells old new → (k : ℕ) → IsTellingAll (slice_index_or old k Unknown) → IsTellingAll (slice_index_or new k Unknown)
telling_still old new tells k all = search rules

module _ (t : Terrain Point) (level : Point → ℤ) (p : Point) where
  -- if two samples of one point have known flows, both lie inside a flat or neither does
  pub twin_flat : (f g : Flow) → IsFlow t level p f → IsFlow t level p g → IsOfFlat f → (g ≡ Unknown → ⊥) → IsOfFlat g
  twin_flat f g one other flat known = by g refl
    where
      inside : LiesInside t level p
      inside = inside_of t level p f flat one

      by : (h : Flow) → g ≡ h → IsOfFlat g
      by Unknown at = absurd (known at)
      by NoGround at = absurd (true≢false (sym inside.ground ∙ subst (IsFlow t level p) at other))
      by Outlet at = let so = subst (IsFlow t level p) at other in absurd (inside.inside (inr so.1))
      by (To d) at = let so = subst (IsFlow t level p) at other in absurd (inside.inside (inl (step d p, so.lower)))
      by _ at = subst IsOfFlat (sym at) tt
