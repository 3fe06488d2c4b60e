-- The samples on closed edges, set one after another.
use Rattle.std.proofs.Common.{rules}
use Rattle.flow_d8.proofs.Prelude.{IsClosedFlow, IsClosing, List, Sides, ℕ, ℤ, ap, drop, flow_in, length, subst, sym, take, ⊎_elim, ◌++◌, ◌∙◌, ◌≡◌}
use Rattle.std.proofs.Math.Seq.{take-append_seam}
use Rattle.water.specs.declared.flow.Flow.{Flow}

module _ (n : ℕ) (levels : List ℤ) (sides : Sides) where
  pub closed_still : (old new : List Flow) → IsClosing n levels sides old new → (e : ℕ) → IsClosedFlow n levels sides e (flow_in old e) → IsClosedFlow n levels sides e (flow_in new e)
  closed_still old new closing e at = ⊎_elim (λ same. subst (IsClosedFlow n levels sides e) (sym same) at) (λ told. told) (closing.each e)

  pub closing_on : (first old new : List Flow) → IsClosing n levels sides first old → IsClosing n levels sides old new → IsClosing n levels sides first new
  closing_on first old new was more = search rules

-- a vector whose whole slice is overwritten has the new list
pub vec_back : (len : ℕ) (new items : List Flow) → length new ≡ length items → len ≡ length items → take len (new ++ drop (length new) items) ≡ new
vec_back len new items same is = ap (λ k. take k (new ++ drop (length new) items)) (is ∙ sym same) ∙ take-append_seam new (drop (length new) items)
