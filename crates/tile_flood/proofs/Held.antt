-- Labels that are carried from neighbours or suspects while a labelling is mended.
use Rattle.tile_flood.proofs.Prelude.{AreRelaxed, IsCarriedBy, IsFalse, IsHeldBy, IsHeldUp, IsSeed, IsTrue, List, Names, ℕ, ℤ, [], ap, arith, block_is_lawful, block_of, cases_eq, clamps, get_or, get_or-set_other, get_or-set_same, inl, inr, int_eq, int_max, ints, is_exit, is_linked, is_marked, is_solid, length, not, refl, set, slice_index, subst, sym, void, ≤ℤ_antisym, ≤ℤ_same, ≤ℤ_trans, ◌<ℤ◌, ◌<◌, ◌∙◌, ◌∷◌, ◌≡◌, ◌≢◌, ◌≤ℤ◌, ◌⊎◌}
use Rattle.tile_flood.proofs.Dependence.{same_exit, same_inner, same_link, same_names}

-- the path from e passes through y
abbrev pub Passes : ℕ → ℕ → List ℕ → Type 0
Passes y e [] = e ≡ y
Passes y e (f ∷ rest) = (e ≡ y) ⊎ Passes y f rest

pub below_max : (h l m : ℤ) → int_max h l ≤ℤ m → l ≤ℤ m
below_max h l m le = omega (arith, ints, clamps)

pub first_below : (h l m : ℤ) → int_max h l ≤ℤ m → h ≤ℤ m
first_below h l m le = omega (arith, ints, clamps)

pub not_below : (l m : ℤ) → l ≤ℤ m → m <ℤ l → ⊥
not_below l m le lt = absurd (omega (arith, ints))

lower_still : (h l l' m : ℤ) → int_max h l ≤ℤ m → l' <ℤ l → int_max h l' ≤ℤ m
lower_still h l l' m le lt = omega (arith, ints, clamps)

-- setting the level and the label of y changes those of no other point
module _ (levels : List ℤ) (labels : List ℕ) (y : ℕ) (l : ℤ) (a : ℕ) where
  pub level_else : (z : ℕ) → z ≢ y → get_or (set levels y l) z void ≡ get_or levels z void
  level_else z other = get_or-set_other levels y z l void other

  pub label_else : (z : ℕ) → z ≢ y → slice_index (set labels y a) z ≡ slice_index labels z
  label_else z other = get_or-set_other labels y z a 0 other

  pub marked_else : (z : ℕ) → z ≢ y → is_marked (set levels y l) z ≡ is_marked levels z
  marked_else z other = ap (λ v. not (int_eq v void)) (level_else z other)

module _ (n : ℕ) (heights : List ℤ) (sinks : List ℕ) (levels : List ℤ) (labels : List ℕ) where
  -- levels don't rise along the path
  pub never_rises : (Suspect : ℕ → Type 0) (y e : ℕ) (rest : List ℕ) → IsHeldBy n heights sinks levels labels Suspect e rest → Passes y e rest → get_or levels y void ≤ℤ get_or levels e void
  never_rises Suspect y e [] by is = subst (λ z. get_or levels z void ≤ℤ get_or levels e void) is (≤ℤ_same (get_or levels e void))
  never_rises Suspect y e (f ∷ rest) by passes = elim passes [
    | inl is ↦ subst (λ z. get_or levels z void ≤ℤ get_or levels e void) is (≤ℤ_same (get_or levels e void))
    | inr on ↦ ≤ℤ_trans (get_or levels y void) (get_or levels f void) (get_or levels e void) (never_rises Suspect y f rest by.1 on) (below_max (get_or heights e void) (get_or levels f void) (get_or levels e void) by.0.level)
  ]

  -- a path from a point lower than y doesn't pass through y, since levels don't rise along it
  pub passes_by : (Suspect : ℕ → Type 0) (y e : ℕ) (rest : List ℕ) → IsHeldBy n heights sinks levels labels Suspect e rest → get_or levels e void <ℤ get_or levels y void → Passes y e rest → ⊥
  passes_by Suspect y e rest by less passes = not_below (get_or levels y void) (get_or levels e void) (never_rises Suspect y e rest by passes) less

  -- without suspects, and if no link lowers a level, the labels are carried
  pub carried_end : (Suspect : ℕ → Type 0) → ((e : ℕ) → Suspect e → ⊥) → AreRelaxed (block_of n heights sinks) levels → (e : ℕ) (rest : List ℕ) → IsHeldBy n heights sinks levels labels Suspect e rest → IsCarriedBy (block_of n heights sinks) levels labels e rest
  carried_end Suspect none relaxed e [] by = elim by [ inl suspect ↦ absurd (none e suspect) | inr seed ↦ seed ]
  carried_end Suspect none relaxed e (f ∷ rest) by = (
    record {
      inner = by.0.inner;
      link = by.0.link;
      full = by.0.full;
      label = by.0.label;
      level = ≤ℤ_antisym (get_or levels e void) (int_max (get_or heights e void) (get_or levels f void)) (relaxed.links f e ((block_is_lawful (block_of n heights sinks)).both_ways e f by.0.link)) by.0.level;
    },
    carried_end Suspect none relaxed f rest by.1,
  )

-- the point y gets another level, label and height
module _ (n : ℕ) (heights heights' : List ℤ) (sinks : List ℕ) (levels : List ℤ) (labels : List ℕ) (Suspect Suspect' : ℕ → Type 0) (y : ℕ) (l : ℤ) (a : ℕ)
    (same : (e : ℕ) → is_solid (block_of n heights sinks) e ≡ is_solid (block_of n heights' sinks) e) (others : (e : ℕ) → e ≢ y → get_or heights' e void ≡ get_or heights e void) where
  pub seed_anew : (z : ℕ) → z ≢ y → IsSeed (block_of n heights sinks) levels labels z → IsSeed (block_of n heights' sinks) (set levels y l) (set labels y a) z
  seed_anew z other seed = record {
    exit = sym (same_exit n heights heights' sinks same z) ∙ seed.exit;
    level = get_or-set_other levels y z l void other ∙ (seed.level ∙ sym (others z other));
    names = subst (λ b. Names (block_of n heights' sinks) b z) (sym (get_or-set_other labels y z a 0 other)) (same_names n heights heights' sinks same (slice_index labels z) z seed.names);
    inner_outlet = λ out. get_or-set_other labels y z a 0 other ∙ seed.inner_outlet (same_inner n heights heights' sinks same z ∙ out);
  }

  step_anew : (z f : ℕ) → z ≢ y → f ≢ y → IsHeldUp n heights sinks levels labels z f → IsHeldUp n heights' sinks (set levels y l) (set labels y a) z f
  step_anew z f z_else f_else up = record {
    inner = sym (same_exit n heights heights' sinks same z) ∙ up.inner;
    link = sym (same_link n heights heights' sinks same z f) ∙ up.link;
    own = subst (λ v. v ≢ void) (sym (get_or-set_other levels y z l void z_else)) up.own;
    full = subst (λ v. v ≢ void) (sym (get_or-set_other levels y f l void f_else)) up.full;
    label = get_or-set_other labels y z a 0 z_else ∙ (up.label ∙ sym (get_or-set_other labels y f a 0 f_else));
    level = rw (get_or-set_other levels y z l void z_else) (rw (get_or-set_other levels y f l void f_else) (rw (others z z_else) up.level));
  }

  -- paths that don't pass through y are unchanged
  pub beside_anew : ((e : ℕ) → e ≢ y → Suspect e → Suspect' e) → (z : ℕ) (rest : List ℕ) → IsHeldBy n heights sinks levels labels Suspect z rest → (Passes y z rest → ⊥) → IsHeldBy n heights' sinks (set levels y l) (set labels y a) Suspect' z rest
  beside_anew still z [] by off = elim by [ inl suspect ↦ inl (still z (λ is. off is) suspect) | inr seed ↦ inr (seed_anew z (λ is. off is) seed) ]
  beside_anew still z (f ∷ rest) by off = (step_anew z f (λ is. off (inl is)) (first_else rest off) by.0, beside_anew still f rest by.1 (λ passes. off (inr passes)))
    where
      first_else : (rest : List ℕ) → (Passes y z (f ∷ rest) → ⊥) → f ≢ y
      first_else [] off is = off (inr is)
      first_else (g ∷ more) off is = off (inr (inl is))

  -- if all points that depended on y are supported, all other points are
  pub held_reset : ((e : ℕ) → e ≢ y → Suspect e → Suspect' e) → ((e : ℕ) → IsHeldUp n heights sinks levels labels e y → (after : List ℕ) × IsHeldBy n heights' sinks (set levels y l) (set labels y a) Suspect' e after) →
      (z : ℕ) (rest : List ℕ) → z ≢ y → IsHeldBy n heights sinks levels labels Suspect z rest → (after : List ℕ) × IsHeldBy n heights' sinks (set levels y l) (set labels y a) Suspect' z after
  held_reset still hung z [] other by = elim by [ inl suspect ↦ ([], inl (still z other suspect)) | inr seed ↦ ([], inr (seed_anew z other seed)) ]
  held_reset still hung z (f ∷ more) other by = elim (cases_eq f y) [
    | inl at ↦ hung z (subst (λ e. IsHeldUp n heights sinks levels labels z e) at by.0)
    | inr f_other ↦ let on = held_reset still hung f more f_other by.1 in (f ∷ on.0, (step_anew z f other f_other by.0, on.1))
  ]

-- the point y gets another level and another label
module _ (n : ℕ) (heights : List ℤ) (sinks : List ℕ) (levels : List ℤ) (labels : List ℕ) (Suspect Suspect' : ℕ → Type 0) (y : ℕ) (l : ℤ) (a : ℕ) where
  abbrev new_levels : List ℤ
  new_levels = set levels y l

  abbrev new_labels : List ℕ
  new_labels = set labels y a

  level_here : y < length levels → get_or new_levels y void ≡ l
  level_here small = get_or-set_same levels y l void small

  label_here : y < length labels → slice_index new_labels y ≡ a
  label_here small = get_or-set_same labels y a 0 small

  seed_still : (z : ℕ) → z ≢ y → IsSeed (block_of n heights sinks) levels labels z → IsSeed (block_of n heights sinks) new_levels new_labels z
  seed_still = seed_anew n heights heights sinks levels labels Suspect Suspect' y l a (λ e. refl) (λ e other. refl)

  step_still : (z f : ℕ) → z ≢ y → f ≢ y → IsHeldUp n heights sinks levels labels z f → IsHeldUp n heights sinks new_levels new_labels z f
  step_still = step_anew n heights heights sinks levels labels Suspect Suspect' y l a (λ e. refl) (λ e other. refl)

  -- paths that don't pass through y are unchanged
  beside_it : ((e : ℕ) → e ≢ y → Suspect e → Suspect' e) → (z : ℕ) (rest : List ℕ) → IsHeldBy n heights sinks levels labels Suspect z rest → (Passes y z rest → ⊥) → IsHeldBy n heights sinks new_levels new_labels Suspect' z rest
  beside_it = beside_anew n heights heights sinks levels labels Suspect Suspect' y l a (λ e. refl) (λ e other. refl)

  -- no point is supported by an open point
  open_off : get_or levels y void ≡ void → (Suspect₀ : ℕ → Type 0) (z : ℕ) (rest : List ℕ) → z ≢ y → IsHeldBy n heights sinks levels labels Suspect₀ z rest → Passes y z rest → ⊥
  open_off gone Suspect₀ z [] other by is = other is
  open_off gone Suspect₀ z (f ∷ more) other by passes = elim passes [
    | inl is ↦ absurd (other is)
    | inr on ↦ open_off gone Suspect₀ f more (λ is. by.0.full (ap (λ e. get_or levels e void) is ∙ gone)) by.1 on
  ]

  -- if y was open and gets the label of its neighbour x, y is supported, and all supported points stay so
  pub held_marked : ((e : ℕ) → e ≢ y → Suspect e → Suspect' e) → y < length levels → y < length labels → get_or levels y void ≡ void → l ≢ void → IsFalse (is_exit (block_of n heights sinks) y) → (x : ℕ) → IsTrue (is_linked (block_of n heights sinks) y x) → get_or levels x void ≢ void →
      int_max (get_or heights y void) (get_or levels x void) ≤ℤ l → slice_index labels x ≡ a → (given : List ℕ) → IsHeldBy n heights sinks levels labels Suspect x given →
      ((z : ℕ) (rest : List ℕ) → z ≢ y → IsHeldBy n heights sinks levels labels Suspect z rest → IsHeldBy n heights sinks new_levels new_labels Suspect' z rest) × IsHeldBy n heights sinks new_levels new_labels Suspect' y (x ∷ given)
  held_marked still in_levels in_labels gone full inner x link full_x gives label given by =
      let x_else : x ≢ y = λ is. full_x (ap (λ e. get_or levels e void) is ∙ gone) in (
        λ z rest other held. beside_it still z rest held (open_off gone Suspect z rest other held),
        (
          record {
            inner = inner;
            link = link;
            own = subst (λ v. v ≢ void) (sym (level_here in_levels)) full;
            full = subst (λ v. v ≢ void) (sym (level_else levels labels y l a x x_else)) full_x;
            label = label_here in_labels ∙ (sym label ∙ sym (label_else levels labels y l a x x_else));
            level = rw (level_here in_levels) (rw (level_else levels labels y l a x x_else) gives);
          },
          beside_it still x given by (open_off gone Suspect x given x_else by),
        ),
      )

-- a suspect that a lower neighbour with its label supports is no suspect any more
module _ (n : ℕ) (heights : List ℤ) (sinks : List ℕ) (levels : List ℤ) (labels : List ℕ) (Suspect Suspect' : ℕ → Type 0) (y x : ℕ) (still : (e : ℕ) → e ≢ y → Suspect e → Suspect' e)
    (up : IsHeldUp n heights sinks levels labels y x) (lower : get_or levels x void <ℤ get_or levels y void) where
  passed_by : (z : ℕ) (rest : List ℕ) → IsHeldBy n heights sinks levels labels Suspect z rest → (Passes y z rest → ⊥) → IsHeldBy n heights sinks levels labels Suspect' z rest
  passed_by z [] by off = elim by [ inl suspect ↦ inl (still z (λ is. off is) suspect) | inr seed ↦ inr seed ]
  passed_by z (f ∷ rest) by off = (by.0, passed_by f rest by.1 (λ passes. off (inr passes)))

  pub held_kept : (given : List ℕ) → IsHeldBy n heights sinks levels labels Suspect x given → (z : ℕ) (rest : List ℕ) → IsHeldBy n heights sinks levels labels Suspect z rest → (after : List ℕ) × IsHeldBy n heights sinks levels labels Suspect' z after
  held_kept given giver z [] by = elim (cases_eq z y) [
    | inl is ↦ subst (λ e. (after : List ℕ) × IsHeldBy n heights sinks levels labels Suspect' e after) (sym is) (x ∷ given, (up, passed_by x given giver (passes_by n heights sinks levels labels Suspect y x given giver lower)))
    | inr other ↦ elim by [ inl suspect ↦ ([], inl (still z other suspect)) | inr seed ↦ ([], inr seed) ]
  ]
  held_kept given giver z (f ∷ more) by = let on = held_kept given giver f more by.1 in (f ∷ on.0, (by.0, on.1))

-- the point y gets a lower level, and the label of its neighbour x
module _ (n : ℕ) (heights : List ℤ) (sinks : List ℕ) (levels : List ℤ) (labels : List ℕ) (Suspect Suspect' : ℕ → Type 0) (y x : ℕ) (l : ℤ) (a : ℕ)
    (in_levels : y < length levels) (in_labels : y < length labels) (still : (e : ℕ) → e ≢ y → Suspect e → Suspect' e) (full : l ≢ void) (lower : l <ℤ get_or levels y void)
    (inner : IsFalse (is_exit (block_of n heights sinks) y)) (link : IsTrue (is_linked (block_of n heights sinks) y x)) (full_x : get_or levels x void ≢ void)
    (gives : int_max (get_or heights y void) (get_or levels x void) ≤ℤ l) (label : slice_index labels x ≡ a)
    (suspects : (slice_index labels y ≡ a) ⊎ ((e : ℕ) → IsHeldUp n heights sinks levels labels e y → Suspect' e)) where
  abbrev low_levels : List ℤ
  low_levels = set levels y l

  abbrev low_labels : List ℕ
  low_labels = set labels y a

  x_lower : get_or levels x void <ℤ get_or levels y void
  x_lower = let low = below_max (get_or heights y void) (get_or levels x void) l gives in omega (arith, ints)

  x_else : x ≢ y
  x_else is = not_below (get_or levels y void) (get_or levels x void) (subst (λ z. get_or levels z void ≤ℤ get_or levels x void) is (≤ℤ_same (get_or levels x void))) x_lower

  -- y is supported by x, whose path doesn't pass through y
  here : (rest : List ℕ) → IsHeldBy n heights sinks levels labels Suspect x rest → IsHeldBy n heights sinks low_levels low_labels Suspect' y (x ∷ rest)
  here rest by = (
    record {
      inner = inner;
      link = link;
      own = subst (λ v. v ≢ void) (sym (level_here n heights sinks levels labels Suspect Suspect' y l a in_levels)) full;
      full = subst (λ v. v ≢ void) (sym (level_else levels labels y l a x x_else)) full_x;
      label = label_here n heights sinks levels labels Suspect Suspect' y l a in_labels ∙ (sym label ∙ sym (label_else levels labels y l a x x_else));
      level = rw (level_here n heights sinks levels labels Suspect Suspect' y l a in_levels) (rw (level_else levels labels y l a x x_else) gives);
    },
    beside_it n heights sinks levels labels Suspect Suspect' y l a still x rest by (passes_by n heights sinks levels labels Suspect y x rest by x_lower),
  )

  -- points that y supported are still supported, or suspect
  after_y : (z : ℕ) → z ≢ y → IsHeldUp n heights sinks levels labels z y → (rest : List ℕ) → IsHeldBy n heights sinks low_levels low_labels Suspect' y rest → (after : List ℕ) × IsHeldBy n heights sinks low_levels low_labels Suspect' z after
  after_y z other up rest by = elim suspects [
    | inl same ↦ (
      y ∷ rest,
      (
        record {
          inner = up.inner;
          link = up.link;
          own = subst (λ v. v ≢ void) (sym (level_else levels labels y l a z other)) up.own;
          full = subst (λ v. v ≢ void) (sym (level_here n heights sinks levels labels Suspect Suspect' y l a in_levels)) full;
          label = label_else levels labels y l a z other ∙ (up.label ∙ (same ∙ sym (label_here n heights sinks levels labels Suspect Suspect' y l a in_labels)));
          level = rw (level_else levels labels y l a z other) (rw (level_here n heights sinks levels labels Suspect Suspect' y l a in_levels) (lower_still (get_or heights z void) (get_or levels y void) l (get_or levels z void) up.level lower));
        },
        by,
      ),
    )
    | inr all ↦ ([], inl (all z up))
  ]

  -- after y gets a lower level, each supported point is still supported
  pub held_lowered : (given : List ℕ) → IsHeldBy n heights sinks levels labels Suspect x given → (z : ℕ) (rest : List ℕ) → IsHeldBy n heights sinks levels labels Suspect z rest → (after : List ℕ) × IsHeldBy n heights sinks low_levels low_labels Suspect' z after
  held_lowered given giver z [] by = elim (cases_eq z y) [
    | inl is ↦ subst (λ e. (after : List ℕ) × IsHeldBy n heights sinks low_levels low_labels Suspect' e after) (sym is) (x ∷ given, here given giver)
    | inr other ↦ elim by [ inl suspect ↦ ([], inl (still z other suspect)) | inr seed ↦ ([], inr (seed_still n heights sinks levels labels Suspect Suspect' y l a z other seed)) ]
  ]
  held_lowered given giver z (f ∷ more) by = elim (cases_eq z y) [
    | inl is ↦ subst (λ e. (after : List ℕ) × IsHeldBy n heights sinks low_levels low_labels Suspect' e after) (sym is) (x ∷ given, here given giver)
    | inr other ↦ elim (cases_eq f y) [
      | inl at ↦ after_y z other (subst (λ e. IsHeldUp n heights sinks levels labels z e) at by.0) (x ∷ given) (here given giver)
      | inr f_other ↦ let on = held_lowered given giver f more by.1 in (f ∷ on.0, (step_still n heights sinks levels labels Suspect Suspect' y l a z f other f_other by.0, on.1))
    ]
  ]
