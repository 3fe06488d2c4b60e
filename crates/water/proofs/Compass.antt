-- The eight directions by their rank in code order, and the first of them that satisfies a property.
use Rattle.lattice.specs.declared.direction.Dir.{Dir}
use Rattle.lattice.specs.declared.direction.Dir.TheVariants.{East, North, NorthEast, NorthWest, South, SouthEast, SouthWest, West}
use Rattle.std.proofs.Common.{ℕ, ap, arith, get_or, inl, inr, refl, subst, suc, sym, zero, ⊎_elim, ◌+◌, ◌<◌, ◌∙◌, ◌≡◌, ◌≤◌, ◌⊎◌}
use Rattle.std.proofs.lemmas.Bool.{cases_eq}
use Rattle.lattice.specs.Steps.{directions, order_of}

pub dir_at : ℕ → Dir
dir_at zero = East
dir_at (suc zero) = SouthEast
dir_at (suc (suc zero)) = South
dir_at (suc (suc (suc zero))) = SouthWest
dir_at (suc (suc (suc (suc zero)))) = West
dir_at (suc (suc (suc (suc (suc zero))))) = NorthWest
dir_at (suc (suc (suc (suc (suc (suc zero)))))) = North
dir_at _ = NorthEast

pub dir_at-order_of : (d : Dir) → dir_at (order_of d) ≡ d
unfolding dir_at
dir_at-order_of East = refl
dir_at-order_of _ = refl

pub order_below : (d : Dir) → order_of d < 8
order_below East = omega arith
order_below _ = omega arith

pub same_order : (d e : Dir) → order_of d ≡ order_of e → d ≡ e
same_order d e h = sym (dir_at-order_of d) ∙ ap dir_at h ∙ dir_at-order_of e

pub order_of-dir_at : (k : ℕ) → k < 8 → order_of (dir_at k) ≡ k
unfolding dir_at
order_of-dir_at (suc (suc (suc (suc (suc (suc (suc (suc k)))))))) h = absurd (omega arith)
order_of-dir_at _ h = refl

-- the direction has this rank or a later one
pub at_or_later : (k : ℕ) (e : Dir) → k < 8 → k ≤ order_of e → (e ≡ dir_at k) ⊎ (suc k ≤ order_of e)
at_or_later k e lt le = elim (cases_eq k (order_of e)) [
  | inl same ↦ inl (same_order e (dir_at k) (sym same ∙ sym (order_of-dir_at k lt)))
  | inr other ↦ inr (omega arith)
]

-- the first direction of at least rank k that satisfies Q, if there is one
module _ (Q : Dir → Type 0) (decide : (d : Dir) → Q d ⊎ (Q d → ⊥)) where
  pub record IsFirst (k : ℕ) (d : Dir) : Type 0 where
    pub has : Q d
    pub rank : k ≤ order_of d
    pub first : (e : Dir) → k ≤ order_of e → Q e → order_of d ≤ order_of e

  first_from : (left k : ℕ) → k + left ≡ 8 → ((d : Dir) × IsFirst k d) ⊎ ((e : Dir) → k ≤ order_of e → Q e → ⊥)
  first_from zero k full = inr (λ e le q. absurd (omega (arith, order_below e)))
  first_from (suc left) k full = ⊎_elim
      (λ here. inl (dir_at k, record { has = here; rank = omega (arith, order_of-dir_at k lt); first = λ e le q. omega (arith, order_of-dir_at k lt) }))
      (λ not_here. ⊎_elim
      (λ found. inl (
        found.0,
        record {
          has = found.1.has;
          rank = omega (arith, found.1.rank);
          first = λ e le q. ⊎_elim (λ same. absurd (not_here (subst Q same q))) (λ later. found.1.first e later q) (at_or_later k e lt le);
        },
      ))
      (λ none. inr (λ e le q. ⊎_elim (λ same. not_here (subst Q same q)) (λ later. none e later q) (at_or_later k e lt le)))
      (first_from left (suc k) (omega arith)))
      (decide (dir_at k))
    where
      lt : k < 8
      lt = omega arith

  pub first_dir : ((d : Dir) × IsFirst 0 d) ⊎ ((e : Dir) → Q e → ⊥)
  first_dir = ⊎_elim (λ found. inl found) (λ none. inr (λ e q. none e (omega arith) q)) (first_from 8 0 refl)

-- the direction at its own rank in the list of directions
pub dir_listed : (d x : Dir) → get_or directions (order_of d) x ≡ d
dir_listed East x = refl
dir_listed _ x = refl

pub dir_at_place : (d x : Dir) (i : ℕ) → order_of d ≡ i → get_or directions i x ≡ d
dir_at_place d x i is = subst (λ k. get_or directions k x ≡ d) is (dir_listed d x)

-- the rank of the direction at place k of the list
pub order_at : (k : ℕ) (x : Dir) → k < 8 → order_of (get_or directions k x) ≡ k
order_at k x small = ap order_of (dir_at_place (dir_at k) x k (order_of-dir_at k small)) ∙ order_of-dir_at k small
