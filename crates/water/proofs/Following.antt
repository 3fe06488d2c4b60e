-- A flow path, step by step.
use Rattle.std.proofs.Common.{ℤ, IsTrue, Option, Some, None, List, [], ◌∷◌, ◌++◌, refl, sym, ⊎_elim, subst, append_assoc, SomeIff}
use Rattle.std.proofs.lemmas.List.{append-nil}
use Rattle.lattice.specs.declared.direction.Dir.{Dir}
use Rattle.water.specs.Drainage.{IsDirection}
use Rattle.water.specs.FlowPath.{IsFlowPath}
use Rattle.water.specs.Grid.{IsGrid}
use Rattle.lattice.specs.Terrain.{IsLawful, Terrain}
use Rattle.lattice.specs.declared.point.Point.{Point}
use Rattle.lattice.specs.Stepping.{fits_point}
use Rattle.lattice.specs.Steps.{step}
use Rattle.lattice.specs.Mosaic.{void}
use Rattle.water.proofs.FlowPaths.{from_next}
use Rattle.water.specs.FlowSteps.{IsNext, IsFollowed}

-- each step of a flow path leads to ground
pub drains_to_ground : (t : Terrain Point) → IsLawful t → (level : Point → ℤ) (p : Point) (d : Dir) → IsDirection t level p (Some d) → IsTrue (t.is_ground (step d p))
drains_to_ground t lawful level p d drains = lawful.to_ground p (step d p) (⊎_elim (λ steep. steep.lower.beside) (λ flat. flat.1.1.nearer.beside) drains)

module _ (t : Terrain Point) (grid : IsGrid t void) (level : Point → ℤ) where
  pub followed_first : (p : Point) → IsTrue (t.is_ground p) → IsFollowed t level p p (p ∷ [])
  followed_first p solid = record { solid = solid; leads = λ tail path. path }

  pub followed_more : (first last to : Point) (path : List Point) → IsNext t level last (Some to) → IsFollowed t level first last path → IsFollowed t level first to (path ++ to ∷ [])
  followed_more first last to path next so_far = record {
    solid = subst (λ q. IsTrue (t.is_ground q)) (sym next.1.1) (drains_to_ground t grid.lawful level last next.0 next.1.0);
    leads = λ tail rest.
        let on : IsFlowPath t level (step next.0 last) (to ∷ tail) = subst (λ q. IsFlowPath t level q (to ∷ tail)) next.1.1 rest in
        let whole : IsFlowPath t level last (last ∷ to ∷ tail) = from_next t level last next.0 (to ∷ tail) next.1.0 on in
        subst (IsFlowPath t level first) (sym (append_assoc path (to ∷ []) tail)) (so_far.leads (to ∷ tail) whole);
  }

  pub followed_end : (first last : Point) (path : List Point) → IsNext t level last None → IsFollowed t level first last path → IsFlowPath t level first path
  followed_end first last path off so_far = subst (IsFlowPath t level first) (append-nil path) (so_far.leads [] (refl, off))

  -- the step leads to a point whose coordinates fit into 32 bits
  pub next_is : ((q : Point) → IsTrue (t.is_ground q) → IsTrue (fits_point q)) → (p : Point) (d : Dir) → IsDirection t level p (Some d) → (found : Option Point)
      → SomeIff found (IsTrue (fits_point (step d p))) (step d p) → IsNext t level p found
  next_is fits p d drains (Some q) is = (d, (drains, is.1))
  next_is fits p d drains None far = absurd (far (fits (step d p) (drains_to_ground t grid.lawful level p d drains)))
