-- The steps by which a labelling is mended.
use Rattle.std.proofs.Common.{rules}
use Rattle.tile_flood.proofs.Prelude.{AreCarried, AreRelaxed, Contains, HangTogether, IsBeginning, IsBesideWith, IsCarriedBy, IsFalse, IsFirstSuspect, IsHeldBy, IsHeldUp, IsIn, IsInOr, IsLabelling, IsMending, IsOwnLabel, IsSeed, IsTaken, IsTrue, List, NO_LABEL, Queue, WaitStill, Waits, ℕ, ℤ, [], ap, arith, block_is_lawful, block_of, block_terrain, cases_Bool, cases_eq, clamps, false, get_or, get_or-set_other, get_or-set_same, inl, inr, int_max, ints, is_beside, is_exit, is_linked, is_marked, is_solid, length, length-set, max-le, ne_eqb, not, refl, set, slice_index, subst, sym, true≢false, void, ≤ℤ_trans, ◌*◌, ◌+◌, ◌/◌, ◌<ℤ◌, ◌<◌, ◌∙◌, ◌∷◌, ◌≡◌, ◌≢◌, ◌≤ℤ◌, ◌⊎◌}
use Rattle.lattice.proofs.Levels.{all_marked}
use Rattle.lattice.proofs.IntTests.{le_or_above, eq_or_not}
use Rattle.tile_flood.specs.Mending.{IsLabelledBefore}
use Rattle.tile_flood.specs.Affected.{IsAmong}
use Rattle.tile_flood.specs.Suspects.{AreMending, IsPassingOn, AreAtMost}
use Rattle.labelling.proofs.Squares.{not_void_if, test_if, linked_parts, linked_from, solid_height, solid_below, leads}
use Rattle.tile_flood.proofs.Dependence.{same_exit, same_inner, same_link, same_names, full_at, solid_at, filled_if, label_at, relaxed_least, labelling_relaxed, same_ground, solid_inside, beside_itself, beside_back}
use Rattle.tile_flood.proofs.Held.{level_else, label_else, marked_else, not_below, held_lowered, held_marked, held_kept, held_reset, seed_anew, carried_end, first_below, below_max, beside_anew}
use Rattle.labelling.proofs.Squares.{apart_if}
use Rattle.tile_flood.proofs.Spared.{held_off}

pub at_most_as : (l m : ℤ) → l ≡ m → l ≤ℤ m
at_most_as l m same = omega (arith, ints)

max_as : (h l m : ℤ) → m ≡ int_max h l → int_max h l ≤ℤ m
max_as h l m same = omega (arith, ints)

not_lower : (l m h : ℤ) → l <ℤ m → m ≡ h → h ≤ℤ l → ⊥
not_lower l m h lt same le = absurd (omega (arith, ints))

max_first : (h l v : ℤ) → v ≡ int_max h l → h ≤ℤ v
max_first h l v same = omega (arith, ints, clamps)

pub max_second : (h l v : ℤ) → v ≡ int_max h l → l ≤ℤ v
max_second h l v same = omega (arith, ints, clamps)

less_weak : (l m : ℤ) → l <ℤ m → l ≤ℤ m
less_weak l m less = omega (arith, ints)

below_both : (l m k : ℤ) → l ≤ℤ m → m <ℤ k → l <ℤ k
below_both l m k le lt = omega (arith, ints)

lower_too : (l m k : ℤ) → l <ℤ m → m ≤ℤ k → l ≤ℤ k
lower_too l m k lt le = omega (arith, ints)

pub unmarked_void : (levels : List ℤ) (e : ℕ) → is_marked levels e ≡ false → get_or levels e void ≡ void
unmarked_void levels e off = elim (eq_or_not (get_or levels e void) void) [ inl is ↦ is | inr full ↦ absurd (true≢false (sym (test_if (get_or levels e void) full) ∙ off)) ]

pub in_still : (levels : List ℤ) (labels : List ℕ) (y : ℕ) (l : ℤ) (a : ℕ) (queue queue' : Queue) → WaitStill queue queue' → (e : ℕ) → e ≢ y → IsIn queue levels e → IsIn queue' (set levels y l) e
in_still levels labels y l a queue queue' still e other w = subst (λ v. Waits queue' v e) (sym (level_else levels labels y l a e other)) (still (get_or levels e void) e w)

-- points that depended on y are suspect, if those with its label and at least its level are
pub hung_suspect : (n : ℕ) (heights : List ℤ) (sinks : List ℕ) (levels : List ℤ) (labels : List ℕ) (y : ℕ) (l : ℤ) (a e : ℕ) → e ≢ y → IsHeldUp n heights sinks levels labels e y → {Suspect : Type 0} →
    (e < n * n → IsTrue (is_beside n y e) → IsTrue (is_marked (set levels y l) e) → slice_index (set labels y a) e ≡ slice_index labels y → get_or levels y void ≤ℤ get_or (set levels y l) e void → Suspect) → Suspect
hung_suspect n heights sinks levels labels y l a e other up suspected =
    let back = linked_parts n heights y e ((block_is_lawful (block_of n heights sinks)).both_ways e y up.link) in
    let high = below_max (get_or heights e void) (get_or levels y void) (get_or levels e void) up.level in
    suspected (solid_below n heights e back.to) back.beside (marked_else levels labels y l a e other ∙ test_if (get_or levels e void) up.own)
    (label_else levels labels y l a e other ∙ up.label) (subst (λ v. get_or levels y void ≤ℤ v) (sym (level_else levels labels y l a e other)) high)

-- ---- one point gets another level, label and height

module _ (n : ℕ) (heights heights' : List ℤ) (sinks : List ℕ) (levels : List ℤ) (labels : List ℕ) (Waiting Suspect Waiting' Suspect' : ℕ → Type 0) (y : ℕ) (l : ℤ) (a : ℕ)
    (s : IsMending n heights sinks levels labels Waiting Suspect)
    (same : (e : ℕ) → is_solid (block_of n heights sinks) e ≡ is_solid (block_of n heights' sinks) e) (others : (e : ℕ) → e ≢ y → get_or heights' e void ≡ get_or heights e void)
    (solid : IsTrue (is_solid (block_of n heights sinks) y)) where
  pub in_levels : y < length levels
  in_levels = subst (λ k. y < k) (sym s.levels_whole) (solid_below n heights y solid)

  pub in_labels : y < length labels
  in_labels = subst (λ k. y < k) (sym s.labels_whole) (solid_below n heights y solid)

  pub level_here : get_or (set levels y l) y void ≡ l
  level_here = get_or-set_same levels y l void in_levels

  pub label_here : slice_index (set labels y a) y ≡ a
  label_here = get_or-set_same labels y a 0 in_labels

  pub marked_here : l ≢ void → IsTrue (is_marked (set levels y l) y)
  marked_here full = test_if (get_or (set levels y l) y void) (λ none. full (sym level_here ∙ none))

  pub open_here : l ≡ void → is_marked (set levels y l) y ≡ false
  open_here none = elim (cases_Bool (is_marked (set levels y l) y)) [ inl on ↦ absurd (not_void_if (set levels y l) y on (level_here ∙ none)) | inr off ↦ off ]

  pub set_state : (l ≡ void → a ≡ NO_LABEL) → (IsTrue (is_exit (block_of n heights' sinks) y) → IsSeed (block_of n heights' sinks) (set levels y l) (set labels y a) y) →
      ((e : ℕ) → IsTrue (is_marked (set levels y l) e) → (rest : List ℕ) × IsHeldBy n heights' sinks (set levels y l) (set labels y a) Suspect' e rest) →
      ((e : ℕ) → e ≢ y → Waiting e ⊎ Suspect e → Waiting' e ⊎ Suspect' e) → (IsTrue (is_marked (set levels y l) y) → Waiting' y ⊎ Suspect' y) →
      ((x : ℕ) → x ≢ y → IsTrue (is_marked levels x) → IsTrue (is_linked (block_of n heights' sinks) x y) →
      (Waiting' x ⊎ Suspect' x) ⊎ (IsTrue (is_marked (set levels y l) y) × (get_or (set levels y l) y void ≤ℤ int_max (get_or heights' y void) (get_or levels x void)))) →
      IsMending n heights' sinks (set levels y l) (set labels y a) Waiting' Suspect'
  set_state unlabelled exits held awaits itself into = record {
    levels_whole = length-set levels y l ∙ s.levels_whole;
    labels_whole = length-set labels y a ∙ s.labels_whole;
    ground = λ e on. sym (same e) ∙ elim (cases_eq e y) [
      | inl is ↦ subst (λ z. IsTrue (is_solid (block_of n heights sinks) z)) (sym is) solid
      | inr other ↦ s.ground e (sym (marked_else levels labels y l a e other) ∙ on)
    ];
    unlabelled = λ e small off. elim (cases_eq e y) [
      | inl is ↦ subst (λ z. slice_index (set labels y a) z ≡ NO_LABEL) (sym is) (label_here ∙ unlabelled (sym level_here ∙ unmarked_void (set levels y l) y (subst (λ z. is_marked (set levels y l) z ≡ false) is off)))
      | inr other ↦ label_else levels labels y l a e other ∙ s.unlabelled e small (sym (marked_else levels labels y l a e other) ∙ off)
    ];
    exits = λ e out. elim (cases_eq e y) [
      | inl is ↦ subst (IsSeed (block_of n heights' sinks) (set levels y l) (set labels y a)) (sym is) (exits (subst (λ z. IsTrue (is_exit (block_of n heights' sinks) z)) is out))
      | inr other ↦ seed_anew n heights heights' sinks levels labels Suspect Suspect' y l a same others e other (s.exits e (same_exit n heights heights' sinks same e ∙ out))
    ];
    held = held;
    links = λ x z on link. elim (cases_eq x y) [
      | inl is ↦ inl (subst (λ v. Waiting' v ⊎ Suspect' v) (sym is) (itself (subst (λ v. IsTrue (is_marked (set levels y l) v)) is on)))
      | inr x_else ↦
          let was_on : IsTrue (is_marked levels x) = sym (marked_else levels labels y l a x x_else) ∙ on in
          elim (cases_eq z y) [
            | inl at ↦ elim (into x x_else was_on (subst (λ v. IsTrue (is_linked (block_of n heights' sinks) x v)) at link)) [
              | inl awaited ↦ inl awaited
              | inr is ↦ inr (
                subst (λ v. IsTrue (is_marked (set levels y l) v)) (sym at) is.0,
                subst (λ v. get_or (set levels y l) v void ≤ℤ int_max (get_or heights' v void) (get_or (set levels y l) x void)) (sym at) (rw (level_else levels labels y l a x x_else) is.1),
              )
            ]
            | inr z_else ↦ elim (s.links x z was_on (same_link n heights heights' sinks same x z ∙ link)) [
              | inl awaited ↦ inl (awaits x x_else awaited)
              | inr is ↦ inr (marked_else levels labels y l a z z_else ∙ is.0, rw (level_else levels labels y l a x x_else) (rw (level_else levels labels y l a z z_else) (rw (others z z_else) is.1)))
            ]
          ]
    ];
  }

  -- the point becomes open, or it is an outlet and gets its height and its label
  pub reset_state : ((l ≡ void) × ((a ≡ NO_LABEL) × IsFalse (is_exit (block_of n heights' sinks) y))) ⊎ (IsTrue (is_exit (block_of n heights' sinks) y) × ((l ≡ get_or heights' y void) × IsOwnLabel (block_of n heights' sinks) y a)) →
      ((e : ℕ) → e ≢ y → Suspect e → Suspect' e) → ((e : ℕ) → e ≢ y → Waiting e → Waiting' e) → ((e : ℕ) → e ≢ y → IsHeldUp n heights sinks levels labels e y → (after : List ℕ) × IsHeldBy n heights' sinks (set levels y l) (set labels y a) Suspect' e after) →
      ((e : ℕ) → e < n * n → IsTrue (is_beside n y e) → IsTrue (is_marked (set levels y l) e) → Waiting' e ⊎ Suspect' e) → IsTrue (is_beside n y y) →
      IsMending n heights' sinks (set levels y l) (set labels y a) Waiting' Suspect'
  reset_state outcome suspect waiting hung beside by_itself =
      set_state
      (λ none. elim outcome [ inl opened ↦ opened.1.0 | inr way ↦ absurd (full_if way none) ])
      (λ out. elim outcome [ inl opened ↦ absurd (true≢false (sym out ∙ opened.1.1)) | inr way ↦ seed way ])
      (λ e on. elim (cases_eq e y) [
        | inl is ↦ subst (λ z. (rest : List ℕ) × IsHeldBy n heights' sinks (set levels y l) (set labels y a) Suspect' z rest) (sym is) (elim outcome [
          | inl opened ↦ absurd (true≢false (sym (subst (λ z. IsTrue (is_marked (set levels y l) z)) is on) ∙ open_here opened.0))
          | inr way ↦ ([], inr (seed way))
        ])
        | inr other ↦ let by = s.held e (sym (marked_else levels labels y l a e other) ∙ on) in held_reset n heights heights' sinks levels labels Suspect Suspect' y l a same others suspect (λ z up. hung z (not_itself z up) up) e by.0 other by.1
      ])
      (λ e other awaited. elim awaited [ inl w ↦ inl (waiting e other w) | inr is ↦ inr (suspect e other is) ])
      (beside y (solid_below n heights y solid) by_itself)
      (λ x other on link.
      let back = linked_parts n heights' y x ((block_is_lawful (block_of n heights' sinks)).both_ways x y link) in
      inl (beside x (solid_below n heights' x back.to) back.beside (marked_else levels labels y l a x other ∙ on)))
    where
      not_itself : (z : ℕ) → IsHeldUp n heights sinks levels labels z y → z ≢ y
      not_itself z up is = apart_if z y (linked_parts n heights z y up.link).apart is

      full_if : IsTrue (is_exit (block_of n heights' sinks) y) × ((l ≡ get_or heights' y void) × IsOwnLabel (block_of n heights' sinks) y a) → l ≢ void
      full_if way none = solid_height n heights' y ((block_is_lawful (block_of n heights' sinks)).outlet_ground y way.0) (sym way.1.0 ∙ none)

      seed : IsTrue (is_exit (block_of n heights' sinks) y) × ((l ≡ get_or heights' y void) × IsOwnLabel (block_of n heights' sinks) y a) → IsSeed (block_of n heights' sinks) (set levels y l) (set labels y a) y
      seed way = search rules

-- all neighbours of y with y's old label, from this level on, are suspect
abbrev pub AreSuspectBeside : (n : ℕ) (labels : List ℕ) (levels' : List ℤ) (labels' : List ℕ) (suspects' : Queue) (y : ℕ) (from : ℤ) → Type 0
AreSuspectBeside n labels levels' labels' suspects' y from =
    (e : ℕ) → e < n * n → IsTrue (is_beside n y e) → IsTrue (is_marked levels' e) → slice_index labels' e ≡ slice_index labels y → from ≤ℤ get_or levels' e void → IsIn suspects' levels' e

-- all marked neighbours of y wait or are suspect
abbrev pub AreAwaitedBeside : (n : ℕ) (levels' : List ℤ) (queue' suspects' : Queue) (y : ℕ) → Type 0
AreAwaitedBeside n levels' queue' suspects' y = (e : ℕ) → e < n * n → IsTrue (is_beside n y e) → IsTrue (is_marked levels' e) → IsIn queue' levels' e ⊎ IsIn suspects' levels' e

-- `reset_state` with the queues in place of sets of points: a point is still in its queue if its level is unchanged
pub reset_in : (n : ℕ) (heights heights' : List ℤ) (sinks : List ℕ) (levels levels' : List ℤ) (labels labels' : List ℕ) (queue queue' suspects suspects' : Queue) (Suspect : ℕ → Type 0) (y : ℕ) (l : ℤ) (a : ℕ) (from : ℤ) → levels' ≡ set levels y l → labels' ≡ set labels y a → IsMending n heights sinks levels labels (IsIn queue levels) Suspect → ((e : ℕ) → e ≢ y → Suspect e → IsIn suspects levels e) →
    ((e : ℕ) → is_solid (block_of n heights sinks) e ≡ is_solid (block_of n heights' sinks) e) → ((e : ℕ) → e ≢ y → get_or heights' e void ≡ get_or heights e void) → IsTrue (is_marked levels y) →
    ((l ≡ void) × ((a ≡ NO_LABEL) × IsFalse (is_exit (block_of n heights' sinks) y))) ⊎ (IsTrue (is_exit (block_of n heights' sinks) y) × ((l ≡ get_or heights' y void) × IsOwnLabel (block_of n heights' sinks) y a)) → WaitStill queue queue' → WaitStill suspects suspects' →
    (from ≤ℤ get_or levels y void) ⊎ (((v : ℤ) → get_or levels y void <ℤ v → from ≤ℤ v) × (HangTogether n levels labels y × (IsFalse (is_exit (block_of n heights sinks) y) × (Suspect y → ⊥)))) →
    AreSuspectBeside n labels levels' labels' suspects' y from → AreAwaitedBeside n levels' queue' suspects' y → AreMending n heights' sinks levels' labels' queue' suspects'
reset_in n heights heights' sinks levels levels' labels labels' queue queue' suspects suspects' Suspect y l a from at_levels at_labels s was same others on outcome waiting suspect spared =
    subst (λ ls. AreSuspectBeside n labels ls labels' suspects' y from → AreAwaitedBeside n ls queue' suspects' y → AreMending n heights' sinks ls labels' queue' suspects') (sym at_levels)
    (subst (λ bs. AreSuspectBeside n labels (set levels y l) bs suspects' y from → AreAwaitedBeside n (set levels y l) queue' suspects' y → AreMending n heights' sinks (set levels y l) bs queue' suspects') (sym at_labels)
    (λ suspected beside.
    reset_state n heights heights' sinks levels labels (IsIn queue levels) Suspect (IsIn queue' (set levels y l)) (IsIn suspects' (set levels y l)) y l a s same others (s.ground y on) outcome
    still (λ e other w. in_still levels labels y l a queue queue' waiting e other w) (hung suspected) beside (beside_itself n y)))
  where
    still : (e : ℕ) → e ≢ y → Suspect e → IsIn suspects' (set levels y l) e
    still e other is = in_still levels labels y l a suspects suspects' suspect e other (was e other is)

    hung : AreSuspectBeside n labels (set levels y l) (set labels y a) suspects' y from → (e : ℕ) → e ≢ y → IsHeldUp n heights sinks levels labels e y → (after : List ℕ) × IsHeldBy n heights' sinks (set levels y l) (set labels y a) (IsIn suspects' (set levels y l)) e after
    hung suspected e other up = elim spared [
      | inl low ↦ ([], inl (hung_suspect n heights sinks levels labels y l a e other up (λ small beside marked named high. suspected e small beside marked named (≤ℤ_trans from (get_or levels y void) (get_or (set levels y l) e void) low high))))
      | inr spares ↦ elim (le_or_above (get_or levels e void) (get_or levels y void)) [
        | inl level ↦
            let off = held_off n heights sinks levels labels (IsIn queue levels) Suspect s y spares.1.1.0 spares.1.1.1 on spares.1.0 e up level in
            (off.0, beside_anew n heights heights' sinks levels labels Suspect (IsIn suspects' (set levels y l)) y l a same others still e off.0 off.1.0 off.1.1)
        | inr above ↦ ([], inl (hung_suspect n heights sinks levels labels y l a e other up (λ small beside marked named high. suspected e small beside marked named (subst (λ v. from ≤ℤ v) (sym (level_else levels labels y l a e other)) (spares.0 (get_or levels e void) above)))))
      ]
    ]

-- ---- steps that change no height

module _ (n : ℕ) (heights : List ℤ) (sinks : List ℕ) (levels : List ℤ) (labels : List ℕ) (Waiting Suspect Waiting' Suspect' : ℕ → Type 0) (s : IsMending n heights sinks levels labels Waiting Suspect) where
  -- the point y gets a lower level from its neighbour x, and x's label
  pub lower_state : (y x : ℕ) (l : ℤ) (a : ℕ) → IsTrue (is_marked levels y) → l <ℤ get_or levels y void → l ≢ void → IsTrue (is_linked (block_of n heights sinks) y x) → IsTrue (is_marked levels x) →
      int_max (get_or heights y void) (get_or levels x void) ≤ℤ l → slice_index labels x ≡ a → (slice_index labels y ≡ a) ⊎ ((e : ℕ) → IsHeldUp n heights sinks levels labels e y → Suspect' e) →
      ((e : ℕ) → e ≢ y → Suspect e → Suspect' e) → ((e : ℕ) → e ≢ y → Waiting e → Waiting' e) → Waiting' y → IsMending n heights sinks (set levels y l) (set labels y a) Waiting' Suspect'
  lower_state y x l a on lower full link on_x gives label hung suspect waiting waits =
      let solid = s.ground y on in
      let inner = inner_if y l on lower (first_below (get_or heights y void) (get_or levels x void) l gives) in
      let given = s.held x on_x in
      let in_l = in_levels n heights heights sinks levels labels Waiting Suspect Waiting' Suspect' y l a s (λ e. refl) (λ e other. refl) solid in
      let in_b = in_labels n heights heights sinks levels labels Waiting Suspect Waiting' Suspect' y l a s (λ e. refl) (λ e other. refl) solid in
      let now = marked_here n heights heights sinks levels labels Waiting Suspect Waiting' Suspect' y l a s (λ e. refl) (λ e other. refl) solid full in
      let here = level_here n heights heights sinks levels labels Waiting Suspect Waiting' Suspect' y l a s (λ e. refl) (λ e other. refl) solid in
      set_state n heights heights sinks levels labels Waiting Suspect Waiting' Suspect' y l a s (λ e. refl) (λ e other. refl) solid
      (λ none. absurd (full none))
      (λ out. absurd (true≢false (sym out ∙ inner)))
      (λ e on_e.
      let by = s.held e (was_on y l a e on on_e) in
      held_lowered n heights sinks levels labels Suspect Suspect' y x l a in_l in_b suspect full lower inner link (not_void_if levels x on_x) gives label hung given.0 given.1 e by.0 by.1)
      (λ e other awaited. elim awaited [ inl w ↦ inl (waiting e other w) | inr is ↦ inr (suspect e other is) ])
      (λ _. inl waits)
      (λ z other on_z link_z. elim (s.links z y on_z link_z) [
        | inl awaited ↦ inl (elim awaited [ inl w ↦ inl (waiting z other w) | inr is ↦ inr (suspect z other is) ])
        | inr is ↦ inr (now, subst (λ v. v ≤ℤ int_max (get_or heights y void) (get_or levels z void)) (sym here) (lower_too l (get_or levels y void) (int_max (get_or heights y void) (get_or levels z void)) lower is.1))
      ])
    where
      inner_if : (y : ℕ) (l : ℤ) → IsTrue (is_marked levels y) → l <ℤ get_or levels y void → get_or heights y void ≤ℤ l → IsFalse (is_exit (block_of n heights sinks) y)
      inner_if y l on lower above = elim (cases_Bool (is_exit (block_of n heights sinks) y)) [
        | inl out ↦ absurd (not_lower l (get_or levels y void) (get_or heights y void) lower (s.exits y out).level above)
        | inr off ↦ off
      ]

      was_on : (y : ℕ) (l : ℤ) (a e : ℕ) → IsTrue (is_marked levels y) → IsTrue (is_marked (set levels y l) e) → IsTrue (is_marked levels e)
      was_on y l a e on on_e = elim (cases_eq e y) [ inl is ↦ subst (λ z. IsTrue (is_marked levels z)) (sym is) on | inr other ↦ sym (marked_else levels labels y l a e other) ∙ on_e ]

  -- the open point y gets its level and label from its neighbour x
  pub mark_state : (y x : ℕ) (l : ℤ) (a : ℕ) → is_marked levels y ≡ false → l ≢ void → IsTrue (is_linked (block_of n heights sinks) y x) → IsTrue (is_marked levels x) →
      l ≡ int_max (get_or heights y void) (get_or levels x void) → slice_index labels x ≡ a →
      ((e : ℕ) → e ≢ y → Suspect e → Suspect' e) → ((e : ℕ) → e ≢ y → Waiting e → Waiting' e) → Waiting' y → IsMending n heights sinks (set levels y l) (set labels y a) Waiting' Suspect'
  mark_state y x l a off full link on_x gives label suspect waiting waits =
      let solid = (linked_parts n heights y x link).from in
      let given = s.held x on_x in
      let in_l = in_levels n heights heights sinks levels labels Waiting Suspect Waiting' Suspect' y l a s (λ e. refl) (λ e other. refl) solid in
      let in_b = in_labels n heights heights sinks levels labels Waiting Suspect Waiting' Suspect' y l a s (λ e. refl) (λ e other. refl) solid in
      let marked = held_marked n heights sinks levels labels Suspect Suspect' y l a suspect in_l in_b (unmarked_void levels y off) full (inner_if y solid off) x link (not_void_if levels x on_x)
      (max_as (get_or heights y void) (get_or levels x void) l gives) label given.0 given.1 in
      set_state n heights heights sinks levels labels Waiting Suspect Waiting' Suspect' y l a s (λ e. refl) (λ e other. refl) solid
      (λ none. absurd (full none))
      (λ out. absurd (true≢false (sym out ∙ inner_if y solid off)))
      (λ e on_e. elim (cases_eq e y) [
        | inl is ↦ subst (λ z. (rest : List ℕ) × IsHeldBy n heights sinks (set levels y l) (set labels y a) Suspect' z rest) (sym is) (x ∷ given.0, marked.1)
        | inr other ↦ let by = s.held e (sym (marked_else levels labels y l a e other) ∙ on_e) in (by.0, marked.0 e by.0 other by.1)
      ])
      (λ e other awaited. elim awaited [ inl w ↦ inl (waiting e other w) | inr is ↦ inr (suspect e other is) ])
      (λ _. inl waits)
      (λ z other on_z link_z. elim (s.links z y on_z link_z) [
        | inl awaited ↦ inl (elim awaited [ inl w ↦ inl (waiting z other w) | inr is ↦ inr (suspect z other is) ])
        | inr is ↦ absurd (true≢false (sym is.0 ∙ off))
      ])
    where
      inner_if : (y : ℕ) → IsTrue (is_solid (block_of n heights sinks) y) → is_marked levels y ≡ false → IsFalse (is_exit (block_of n heights sinks) y)
      inner_if y solid off = elim (cases_Bool (is_exit (block_of n heights sinks) y)) [
        | inl out ↦ absurd (solid_height n heights y solid (sym (s.exits y out).level ∙ unmarked_void levels y off))
        | inr is ↦ is
      ]

  -- a suspect that is supported, or is an outlet, waits
  pub kept_state : (y : ℕ) → IsTrue (is_exit (block_of n heights sinks) y) ⊎ ((x : ℕ) × (IsHeldUp n heights sinks levels labels y x × (get_or levels x void <ℤ get_or levels y void))) →
      ((e : ℕ) → e ≢ y → Suspect e → Suspect' e) → ((e : ℕ) → e ≢ y → Waiting e → Waiting' e) → Waiting' y → IsMending n heights sinks levels labels Waiting' Suspect'
  kept_state y kept suspect waiting waits = record {
    levels_whole = s.levels_whole;
    labels_whole = s.labels_whole;
    ground = s.ground;
    unlabelled = s.unlabelled;
    exits = s.exits;
    held = λ e on. let by = s.held e on in elim kept [
      | inl out ↦ (by.0, ends_at y (s.exits y out) suspect e by.0 by.1)
      | inr holder ↦
          let given = s.held holder.0 (test_if (get_or levels holder.0 void) holder.1.0.full) in
          held_kept n heights sinks levels labels Suspect Suspect' y holder.0 suspect holder.1.0 holder.1.1 given.0 given.1 e by.0 by.1
    ];
    links = λ x z on link. elim (s.links x z on link) [
      | inl awaited ↦ inl (elim (cases_eq x y) [
        | inl is ↦ inl (subst Waiting' (sym is) waits)
        | inr other ↦ elim awaited [ inl w ↦ inl (waiting x other w) | inr sus ↦ inr (suspect x other sus) ]
      ])
      | inr is ↦ inr is
    ];
  }
    where
      ends_at : (y : ℕ) → IsSeed (block_of n heights sinks) levels labels y → ((e : ℕ) → e ≢ y → Suspect e → Suspect' e) → (z : ℕ) (rest : List ℕ) → IsHeldBy n heights sinks levels labels Suspect z rest → IsHeldBy n heights sinks levels labels Suspect' z rest
      ends_at y seed still z [] by = elim by [
        | inl is ↦ elim (cases_eq z y) [ inl at ↦ inr (subst (IsSeed (block_of n heights sinks) levels labels) (sym at) seed) | inr other ↦ inl (still z other is) ]
        | inr own ↦ inr own
      ]
      ends_at y seed still z (f ∷ rest) by = (by.0, ends_at y seed still f rest by.1)

  -- the sets of waiting and suspect points are replaced by others that have the same marked points
  pub mending_as : ((e : ℕ) → IsTrue (is_marked levels e) → Suspect e → Suspect' e) → ((x y : ℕ) → IsTrue (is_marked levels x) → IsTrue (is_linked (block_of n heights sinks) x y) → Waiting x →
      Waiting' x ⊎ (IsTrue (is_marked levels y) × (get_or levels y void ≤ℤ int_max (get_or heights y void) (get_or levels x void)))) → IsMending n heights sinks levels labels Waiting' Suspect'
  mending_as suspect waiting = record {
    levels_whole = s.levels_whole;
    labels_whole = s.labels_whole;
    ground = s.ground;
    unlabelled = s.unlabelled;
    exits = s.exits;
    held = λ e on. let by = s.held e on in (by.0, said e by.0 on by.1);
    links = λ x y on link. elim (s.links x y on link) [
      | inl awaited ↦ elim awaited [
        | inl w ↦ elim (waiting x y on link w) [ inl w' ↦ inl (inl w') | inr is ↦ inr is ]
        | inr is ↦ inl (inr (suspect x on is))
      ]
      | inr is ↦ inr is
    ];
  }
    where
      said : (e : ℕ) (rest : List ℕ) → IsTrue (is_marked levels e) → IsHeldBy n heights sinks levels labels Suspect e rest → IsHeldBy n heights sinks levels labels Suspect' e rest
      said e [] on by = elim by [ inl is ↦ inl (suspect e on is) | inr seed ↦ inr seed ]
      said e (f ∷ rest) on by = (by.0, said f rest (test_if (get_or levels f void) by.0.full) by.1)

  -- when no point waits any more, and none is suspect, the labelling is complete
  module _ (some : 0 < n) (nobody : (e : ℕ) → Waiting e → ⊥) (none : (e : ℕ) → Suspect e → ⊥) where
    settled : (x y : ℕ) → IsTrue (is_marked levels x) → IsTrue (is_linked (block_of n heights sinks) x y) → IsTrue (is_marked levels y) × (get_or levels y void ≤ℤ int_max (get_or heights y void) (get_or levels x void))
    settled x y on link = elim (s.links x y on link) [
      | inl awaited ↦ elim awaited [ inl w ↦ absurd (nobody x w) | inr is ↦ absurd (none x is) ]
      | inr is ↦ is
    ]

    marked : (e : ℕ) → IsTrue (is_solid (block_of n heights sinks) e) → IsTrue (is_marked levels e)
    marked e solid =
        let out = leads n heights sinks (e / n + 1) e some (omega arith) solid in
        all_marked (block_terrain (block_of n heights sinks)) (block_is_lawful (block_of n heights sinks)) (is_marked levels)
        (λ z way. test_if (get_or levels z void) (λ gone. solid_height n heights z ((block_is_lawful (block_of n heights sinks)).outlet_ground z way) (sym (s.exits z way).level ∙ gone)))
        (λ x y on link. (settled x y on link).0) e out.0 out.1

    relaxed : AreRelaxed (block_of n heights sinks) levels
    relaxed = record {
      exits = λ e out. at_most_as (get_or levels e void) (get_or heights e void) (s.exits e out).level;
      links = λ x y link. (settled x y (marked x (linked_parts n heights x y link).from) link).1;
    }

    carried : AreCarried (block_of n heights sinks) levels labels
    carried e solid = let by = s.held e (marked e solid) in (by.0, carried_end n heights sinks levels labels Suspect none relaxed e by.0 by.1)

    pub mended : IsLabelling (block_of n heights sinks) levels labels × AreCarried (block_of n heights sinks) levels labels
    mended = (
      record {
        levels_whole = s.levels_whole;
        labels_whole = s.labels_whole;
        level = λ e solid. filled_if n heights sinks levels labels e (carried e solid) (relaxed_least n heights sinks levels relaxed e);
        label = λ e solid. label_at n heights sinks levels labels e (carried e solid);
        void_points = λ e small gap. elim (cases_Bool (is_marked levels e)) [
          | inl on ↦ absurd (true≢false (sym (s.ground e on) ∙ gap))
          | inr off ↦ (unmarked_void levels e off, s.unlabelled e small off)
        ];
      },
      carried,
    )

-- a lower neighbour of e with its label supports it
pub held_beside : (n : ℕ) (heights : List ℤ) (sinks : List ℕ) (levels : List ℤ) (labels : List ℕ) (e : ℕ) (most : ℤ) → ((z : ℕ) → IsTrue (is_marked levels z) → IsTrue (is_solid (block_of n heights sinks) z)) → IsFalse (is_exit (block_of n heights sinks) e) → IsTrue (is_marked levels e) →
    get_or heights e void ≤ℤ get_or levels e void → IsBesideWith n levels labels e (slice_index labels e) most → most <ℤ get_or levels e void → (z : ℕ) × (IsHeldUp n heights sinks levels labels e z × (get_or levels z void <ℤ get_or levels e void))
held_beside n heights sinks levels labels e most ground inner on high found less =
    let z = found.0 in
    let z_on = found.1.1.1.0 in
    let z_less : get_or levels z void <ℤ get_or levels e void = below_both (get_or levels z void) most (get_or levels e void) found.1.1.1.1.1 less in (
      z,
      (
        record {
          inner = inner;
          link = linked_from n heights e z (record { from = ground e on; to = ground z z_on; apart = ap not (ne_eqb e z (λ same. not_below (get_or levels e void) (get_or levels z void) (at_most_as (get_or levels e void) (get_or levels z void) (ap (λ x. get_or levels x void) same)) z_less)); beside = found.1.1.0 });
          own = not_void_if levels e on;
          full = not_void_if levels z z_on;
          label = sym found.1.1.1.1.0;
          level = max-le (get_or heights e void) (get_or levels z void) (get_or levels e void) high (less_weak (get_or levels z void) (get_or levels e void) z_less);
        },
        z_less,
      ),
    )

-- ---- one point passes on its level and label

-- a point of the queue is still in it, or was removed
pub taken_in : (levels : List ℤ) (queue queue' : Queue) (c : ℕ) (low : ℤ) → IsTaken queue queue' low c → (e : ℕ) → IsIn queue levels e → IsInOr queue' levels c low e
taken_in levels queue queue' c low taken e w = elim (taken.others (get_or levels e void) e w) [ inl is ↦ inr (is.1, is.0) | inr left ↦ inl left ]

-- what is true of a neighbour after the popped point has visited it
pub record IsReached (n : ℕ) (heights : List ℤ) (sinks : List ℕ) (levels levels' : List ℤ) (labels' : List ℕ) (queue' suspects' : Queue) (c : ℕ) (low : ℤ) (label y : ℕ) : Type 0 where
  pub state : IsPassingOn n heights sinks levels' labels' queue' suspects' c low label
  pub at_most : AreAtMost levels levels'
  pub reached : IsTrue (is_marked levels' y) × (get_or levels' y void ≤ℤ int_max (get_or heights y void) low)

pub marked_solid_full : (h low v : ℤ) → h ≢ void → low ≢ void → v ≡ int_max h low → v ≢ void
marked_solid_full h low v h_full low_full is none = search rules

module _ (n : ℕ) (heights : List ℤ) (sinks : List ℕ) (levels : List ℤ) (labels : List ℕ) (queue queue' suspects suspects' : Queue) (c : ℕ) (low : ℤ) (label y : ℕ) (v : ℤ) (a : ℕ)
    (s : IsPassingOn n heights sinks levels labels queue suspects c low label) (solid : IsTrue (is_solid (block_of n heights sinks) y)) (beside : IsTrue (is_beside n c y)) (is : v ≡ int_max (get_or heights y void) low)
    (waits : Waits queue' v y) (others : WaitStill queue queue') (still : WaitStill suspects suspects') where
  full : v ≢ void
  full = marked_solid_full (get_or heights y void) low v (solid_height n heights y solid) (subst (λ l. l ≢ void) s.level (not_void_if levels c s.marked)) is

  y_in : y < length levels
  y_in = subst (λ k. y < k) (sym s.state.levels_whole) (solid_below n heights y solid)

  y_level : get_or (set levels y v) y void ≡ v
  y_level = get_or-set_same levels y v void y_in

  suspects_on : (e : ℕ) → e ≢ y → IsIn suspects levels e → IsIn suspects' (set levels y v) e
  suspects_on = in_still levels labels y v a suspects suspects' still

  waiting_on : (e : ℕ) → e ≢ y → IsInOr queue levels c low e → IsInOr queue' (set levels y v) c low e
  waiting_on e other w = search rules

  y_waits : IsInOr queue' (set levels y v) c low y
  y_waits = inl (subst (λ l. Waits queue' l y) (sym y_level) waits)

  linked_if : (z : ℕ) → z ≢ y → IsTrue (is_marked levels z) → IsTrue (is_beside n y z) → IsTrue (is_linked (block_of n heights sinks) y z)
  linked_if z other on near = linked_from n heights y z (record { from = solid; to = s.state.ground z on; apart = ap not (ne_eqb y z (λ same. other (sym same))); beside = near })

  -- the popped point keeps its level and label
  front_on : (levels' : List ℤ) (labels' : List ℕ) → levels' ≡ set levels y v → labels' ≡ set labels y a → c ≢ y → IsMending n heights sinks levels' labels' (IsInOr queue' levels' c low) (IsIn suspects' levels') → IsPassingOn n heights sinks levels' labels' queue' suspects' c low label
  front_on levels' labels' at_levels at_labels other state = record {
    state = state;
    marked = ap (λ ls. is_marked ls c) at_levels ∙ (marked_else levels labels y v a c other ∙ s.marked);
    level = ap (λ ls. get_or ls c void) at_levels ∙ (level_else levels labels y v a c other ∙ s.level);
    named = ap (λ bs. slice_index bs c) at_labels ∙ (label_else levels labels y v a c other ∙ s.named);
  }

  reached_on : (levels' : List ℤ) → levels' ≡ set levels y v → IsTrue (is_marked levels' y) × (get_or levels' y void ≤ℤ int_max (get_or heights y void) low)
  reached_on levels' at_levels = subst (λ ls. IsTrue (is_marked ls y) × (get_or ls y void ≤ℤ int_max (get_or heights y void) low)) (sym at_levels)
      (test_if (get_or (set levels y v) y void) (subst (λ l. l ≢ void) (sym y_level) full), at_most_as (get_or (set levels y v) y void) (int_max (get_or heights y void) low) (y_level ∙ is))

  at_most_on : (levels' : List ℤ) → levels' ≡ set levels y v → (IsTrue (is_marked levels y) → v ≤ℤ get_or levels y void) → AreAtMost levels levels'
  at_most_on levels' at_levels below = subst (AreAtMost levels) (sym at_levels) (λ e on. elim (cases_eq e y) [
    | inl same ↦ subst (λ z. IsTrue (is_marked (set levels y v) z) × (get_or (set levels y v) z void ≤ℤ get_or levels z void)) (sym same)
        (test_if (get_or (set levels y v) y void) (subst (λ l. l ≢ void) (sym y_level) full), subst (λ l. l ≤ℤ get_or levels y void) (sym y_level) (below (subst (λ z. IsTrue (is_marked levels z)) same on)))
    | inr other ↦ (marked_else levels labels y v a e other ∙ on, at_most_as (get_or (set levels y v) e void) (get_or levels e void) (level_else levels labels y v a e other))
  ])

  in_set : (levels' : List ℤ) (labels' : List ℕ) → levels' ≡ set levels y v → labels' ≡ set labels y a → IsMending n heights sinks (set levels y v) (set labels y a) (IsInOr queue' (set levels y v) c low) (IsIn suspects' (set levels y v)) →
      IsMending n heights sinks levels' labels' (IsInOr queue' levels' c low) (IsIn suspects' levels')
  in_set levels' labels' at_levels at_labels state = search rules

  -- an open point is marked
  pub mark_on : (levels' : List ℤ) (labels' : List ℕ) → is_marked levels y ≡ false → a ≡ label → levels' ≡ set levels y v → labels' ≡ set labels y a → IsReached n heights sinks levels levels' labels' queue' suspects' c low label y
  mark_on levels' labels' off named at_levels at_labels =
      let other : c ≢ y = λ same. true≢false (sym s.marked ∙ (ap (is_marked levels) same ∙ off)) in
      record {
        state = front_on levels' labels' at_levels at_labels other
            (in_set levels' labels' at_levels at_labels
            (mark_state n heights sinks levels labels (IsInOr queue levels c low) (IsIn suspects levels) (IsInOr queue' (set levels y v) c low) (IsIn suspects' (set levels y v)) s.state y c v a off full
            (linked_if c other s.marked (beside_back n c y beside)) s.marked (is ∙ ap (int_max (get_or heights y void)) (sym s.level)) (s.named ∙ sym named) suspects_on waiting_on y_waits));
        at_most = at_most_on levels' at_levels (λ on. absurd (true≢false (sym on ∙ off)));
        reached = reached_on levels' at_levels;
      }

  -- a marked point's level is lowered
  pub lower_on : (levels' : List ℤ) (labels' : List ℕ) → IsTrue (is_marked levels y) → v <ℤ get_or levels y void → IsBesideWith n levels labels y a v → levels' ≡ set levels y v → labels' ≡ set labels y a →
      (slice_index labels y ≡ a) ⊎ AreSuspectBeside n labels levels' labels' suspects' y (get_or levels y void) → IsReached n heights sinks levels levels' labels' queue' suspects' c low label y
  lower_on levels' labels' on less giver at_levels at_labels hung =
      let z = giver.0 in
      let z_low = giver.1.1.1.1.1 in
      let z_else : z ≢ y = λ same. above_itself z z_low less same in
      let c_else : c ≢ y = λ same. above_itself c (subst (λ l. l ≤ℤ v) (sym s.level) (max_second (get_or heights y void) low v is)) less same in
      record {
        state = front_on levels' labels' at_levels at_labels c_else
            (in_set levels' labels' at_levels at_labels
            (lower_state n heights sinks levels labels (IsInOr queue levels c low) (IsIn suspects levels) (IsInOr queue' (set levels y v) c low) (IsIn suspects' (set levels y v)) s.state y z v a on less full
            (linked_if z z_else giver.1.1.1.0 giver.1.1.0) giver.1.1.1.0 (max-le (get_or heights y void) (get_or levels z void) v (max_first (get_or heights y void) low v is) z_low) giver.1.1.1.1.0
            (elim hung [
              | inl same ↦ inl same
              | inr all ↦ inr (λ e up. hung_suspect n heights sinks levels labels y v a e (not_itself e up) up
                  (subst (λ ls. AreSuspectBeside n labels ls (set labels y a) suspects' y (get_or levels y void)) at_levels (subst (λ bs. AreSuspectBeside n labels levels' bs suspects' y (get_or levels y void)) at_labels all) e))
            ])
            suspects_on waiting_on y_waits));
        at_most = at_most_on levels' at_levels (λ _. less_weak v (get_or levels y void) less);
        reached = reached_on levels' at_levels;
      }
    where
      above_itself : (z : ℕ) → get_or levels z void ≤ℤ v → v <ℤ get_or levels y void → z ≡ y → ⊥
      above_itself z low less same = not_below (get_or levels y void) v (subst (λ x. get_or levels x void ≤ℤ v) same low) less

      not_itself : (e : ℕ) → IsHeldUp n heights sinks levels labels e y → e ≢ y
      not_itself e up same = apart_if e y (linked_parts n heights e y up.link).apart same

-- the popped point has passed on its level and label
pub passed_on : (n : ℕ) (heights : List ℤ) (sinks : List ℕ) (levels : List ℤ) (labels : List ℕ) (queue suspects : Queue) (c : ℕ) (low : ℤ) (label : ℕ) → IsPassingOn n heights sinks levels labels queue suspects c low label →
    ((z : ℕ) → z < n * n → IsTrue (is_beside n c z) → IsTrue (is_solid (block_of n heights sinks) z) → IsTrue (is_marked levels z) × (get_or levels z void ≤ℤ int_max (get_or heights z void) low)) → AreMending n heights sinks levels labels queue suspects
passed_on n heights sinks levels labels queue suspects c low label s all =
    mending_as n heights sinks levels labels (IsInOr queue levels c low) (IsIn suspects levels) (IsIn queue levels) (IsIn suspects levels) s.state (λ e on is. is) (λ x y on link w. elim w [
      | inl waits ↦ inl waits
      | inr taken ↦
          let l = linked_parts n heights x y link in
          let is = all y (solid_below n heights y l.to) (subst (λ z. IsTrue (is_beside n z y)) taken.0 l.beside) l.to in
          inr (is.0, subst (λ m. get_or levels y void ≤ℤ int_max (get_or heights y void) m) (sym taken.1) is.1)
    ])

-- ---- the beginning of a mending

-- heights change, but not those of outlets, and none above its level; where a height sinks, all neighbours wait
pub heights_state : (n : ℕ) (heights heights' : List ℤ) (sinks : List ℕ) (levels : List ℤ) (labels : List ℕ) (Waiting Suspect Waiting' : ℕ → Type 0) → IsMending n heights sinks levels labels Waiting Suspect → ((e : ℕ) → is_solid (block_of n heights sinks) e ≡ is_solid (block_of n heights' sinks) e) →
    ((e : ℕ) → IsTrue (is_exit (block_of n heights' sinks) e) → get_or heights' e void ≡ get_or heights e void) → ((e : ℕ) → IsTrue (is_solid (block_of n heights' sinks) e) → get_or heights e void ≤ℤ get_or levels e void → get_or heights' e void ≤ℤ get_or levels e void) → ((e : ℕ) → Waiting e → Waiting' e) →
    ((x z : ℕ) → IsTrue (is_marked levels x) → IsTrue (is_linked (block_of n heights' sinks) x z) → get_or levels z void ≤ℤ int_max (get_or heights z void) (get_or levels x void) → (Waiting' x ⊎ Suspect x) ⊎ (get_or levels z void ≤ℤ int_max (get_or heights' z void) (get_or levels x void))) →
    IsMending n heights' sinks levels labels Waiting' Suspect
heights_state n heights heights' sinks levels labels Waiting Suspect Waiting' s same ways low waiting links = record {
  levels_whole = s.levels_whole;
  labels_whole = s.labels_whole;
  ground = λ e on. sym (same e) ∙ s.ground e on;
  unlabelled = s.unlabelled;
  exits = λ e out. seed_still e (s.exits e (same_exit n heights heights' sinks same e ∙ out));
  held = λ e on. let by = s.held e on in (by.0, held_still e by.0 by.1);
  links = λ x z on link. elim (s.links x z on (same_link n heights heights' sinks same x z ∙ link)) [
    | inl awaited ↦ inl (elim awaited [ inl w ↦ inl (waiting x w) | inr is ↦ inr is ])
    | inr is ↦ elim (links x z on link is.1) [ inl awaited ↦ inl awaited | inr still ↦ inr (is.0, still) ]
  ];
}
  where
    seed_still : (e : ℕ) → IsSeed (block_of n heights sinks) levels labels e → IsSeed (block_of n heights' sinks) levels labels e
    seed_still e seed = record {
      exit = sym (same_exit n heights heights' sinks same e) ∙ seed.exit;
      level = seed.level ∙ sym (ways e (sym (same_exit n heights heights' sinks same e) ∙ seed.exit));
      names = same_names n heights heights' sinks same (slice_index labels e) e seed.names;
      inner_outlet = λ out. seed.inner_outlet (same_inner n heights heights' sinks same e ∙ out);
    }

    held_still : (e : ℕ) (rest : List ℕ) → IsHeldBy n heights sinks levels labels Suspect e rest → IsHeldBy n heights' sinks levels labels Suspect e rest
    held_still e [] by = elim by [ inl is ↦ inl is | inr seed ↦ inr (seed_still e seed) ]
    held_still e (f ∷ rest) by = (
      record {
        inner = sym (same_exit n heights heights' sinks same e) ∙ by.0.inner;
        link = sym (same_link n heights heights' sinks same e f) ∙ by.0.link;
        own = by.0.own;
        full = by.0.full;
        label = by.0.label;
        level = max-le (get_or heights' e void) (get_or levels f void) (get_or levels e void)
            (low e (sym (same e) ∙ (linked_parts n heights e f by.0.link).from) (first_below (get_or heights e void) (get_or levels f void) (get_or levels e void) by.0.level))
            (below_max (get_or heights e void) (get_or levels f void) (get_or levels e void) by.0.level);
      },
      held_still f rest by.1,
    )

-- the point y, not an outlet, has another height that isn't above its level, and all its neighbours wait
pub height_state : (n : ℕ) (heights heights' : List ℤ) (sinks : List ℕ) (levels : List ℤ) (labels : List ℕ) (Waiting Suspect Waiting' : ℕ → Type 0) (y : ℕ) → IsMending n heights sinks levels labels Waiting Suspect →
    ((e : ℕ) → is_solid (block_of n heights sinks) e ≡ is_solid (block_of n heights' sinks) e) → ((e : ℕ) → e ≢ y → get_or heights' e void ≡ get_or heights e void) → IsFalse (is_exit (block_of n heights' sinks) y) → get_or heights' y void ≤ℤ get_or levels y void →
    ((e : ℕ) → Waiting e → Waiting' e) → ((x : ℕ) → x < n * n → IsTrue (is_beside n y x) → IsTrue (is_marked levels x) → Waiting' x ⊎ Suspect x) → IsMending n heights' sinks levels labels Waiting' Suspect
height_state n heights heights' sinks levels labels Waiting Suspect Waiting' y s same others inner low waiting beside =
    heights_state n heights heights' sinks levels labels Waiting Suspect Waiting' s same
    (λ e out. others e (λ is. true≢false (sym (subst (λ z. IsTrue (is_exit (block_of n heights' sinks) z)) is out) ∙ inner)))
    (λ e solid high. elim (cases_eq e y) [ inl is ↦ subst (λ z. get_or heights' z void ≤ℤ get_or levels z void) (sym is) low | inr other ↦ rw (others e other) high ]) waiting
    (λ x z on link le. elim (cases_eq z y) [
      | inl at ↦
          let back = linked_parts n heights' y x ((block_is_lawful (block_of n heights' sinks)).both_ways x y (subst (λ v. IsTrue (is_linked (block_of n heights' sinks) x v)) at link)) in
          inl (beside x (solid_below n heights' x back.to) back.beside on)
      | inr other ↦ inr (rw (others z other) le)
    ])

-- a carried labelling, without waiting or suspect points
pub labelled_state : (n : ℕ) (heights : List ℤ) (sinks : List ℕ) (levels : List ℤ) (labels : List ℕ) (Waiting Suspect : ℕ → Type 0) → IsLabelling (block_of n heights sinks) levels labels → AreCarried (block_of n heights sinks) levels labels → IsMending n heights sinks levels labels Waiting Suspect
labelled_state n heights sinks levels labels Waiting Suspect labelling carried = record {
  levels_whole = labelling.levels_whole;
  labels_whole = labelling.labels_whole;
  ground = solid_at n heights sinks levels labels labelling carried;
  unlabelled = λ e small off. (labelling.void_points e small (gap e off)).1;
  exits = λ e out. let by = carried e ((block_is_lawful (block_of n heights sinks)).outlet_ground e out) in seed_of e by.0 out by.1;
  held = λ e on. let by = carried e (solid_at n heights sinks levels labels labelling carried e on) in (by.0, held_by e by.0 (not_void_if levels e on) by.1);
  links = λ x y on link. inr (full_at n heights sinks levels labels labelling carried y (linked_parts n heights x y link).to, (labelling_relaxed n heights sinks levels labels labelling).links x y link);
}
  where
    gap : (e : ℕ) → is_marked levels e ≡ false → IsFalse (is_solid (block_of n heights sinks) e)
    gap e off = elim (cases_Bool (is_solid (block_of n heights sinks) e)) [ inl solid ↦ absurd (true≢false (sym (full_at n heights sinks levels labels labelling carried e solid) ∙ off)) | inr none ↦ none ]

    seed_of : (e : ℕ) (rest : List ℕ) → IsTrue (is_exit (block_of n heights sinks) e) → IsCarriedBy (block_of n heights sinks) levels labels e rest → IsSeed (block_of n heights sinks) levels labels e
    seed_of e [] out by = by
    seed_of e (f ∷ rest) out by = absurd (true≢false (sym out ∙ by.0.inner))

    held_by : (e : ℕ) (rest : List ℕ) → get_or levels e void ≢ void → IsCarriedBy (block_of n heights sinks) levels labels e rest → IsHeldBy n heights sinks levels labels Suspect e rest
    held_by e [] own by = inr by
    held_by e (f ∷ rest) own by = (
      record { inner = by.0.inner; link = by.0.link; own = own; full = by.0.full; label = by.0.label; level = max_as (get_or heights e void) (get_or levels f void) (get_or levels e void) by.0.level },
      held_by f rest by.0.full by.1,
    )

-- the levels and labels are still a labelling of the block before its heights changed
pub begun : (n : ℕ) (heights : List ℤ) (sinks : List ℕ) (points : List ℕ) (levels : List ℤ) (labels : List ℕ) (queue suspects : Queue) → IsLabelledBefore (block_of n heights sinks) points levels labels → IsBeginning n heights sinks points levels labels queue suspects 0
begun n heights sinks points levels labels queue suspects before = record {
  heights₀ = before.heights;
  state = labelled_state n before.heights sinks levels labels (IsIn queue levels) (IsIn suspects levels) before.labelling before.carried;
  ground = before.ground;
  others = λ e solid. elim (before.others e solid) [ inl same ↦ inl same | inr here ↦ inr (among e here, full_at n before.heights sinks levels labels before.labelling before.carried e (before.ground e ∙ solid)) ];
}
  where
    among : (e : ℕ) → Contains points e → IsAmong points 0 e
    among e (j, below, at) = (j, omega arith, below, at)

-- the point p, the k-th of the list, is done
module _ (n : ℕ) (heights : List ℤ) (sinks : List ℕ) (points : List ℕ) (levels : List ℤ) (labels : List ℕ) (queue suspects : Queue) (k p : ℕ) (s : IsBeginning n heights sinks points levels labels queue suspects k) (is : (d : ℕ) → get_or points k d ≡ p) where
  among_next : (e : ℕ) → IsAmong points k e → (e ≡ p) ⊎ IsAmong points (k + 1) e
  among_next e (j, from, below, at) = elim (cases_eq j k) [
    | inl same ↦ inl (sym at ∙ (ap (λ i. get_or points i e) same ∙ is e))
    | inr other ↦ inr (j, omega arith, below, at)
  ]

  pub begin_passed : is_marked levels p ≡ false → IsBeginning n heights sinks points levels labels queue suspects (k + 1)
  begin_passed off = record {
    heights₀ = s.heights₀;
    state = s.state;
    ground = s.ground;
    others = λ e solid. elim (s.others e solid) [
      | inl same ↦ inl same
      | inr r ↦ elim (among_next e r.0) [ inl at ↦ absurd (true≢false (sym r.1 ∙ (ap (is_marked levels) at ∙ off))) | inr later ↦ inr (later, r.1) ]
    ];
  }

  module _ (on : IsTrue (is_marked levels p)) where
    pub solid₀ : IsTrue (is_solid (block_of n s.heights₀ sinks) p)
    solid₀ = s.state.ground p on

    pub solid_now : IsTrue (is_solid (block_of n heights sinks) p)
    solid_now = sym (s.ground p) ∙ solid₀

    -- the earlier heights, with point p's new height
    abbrev pub heights₁ : List ℤ
    heights₁ = set s.heights₀ p (get_or heights p void)

    at_p : get_or heights₁ p void ≡ get_or heights p void
    at_p = get_or-set_same s.heights₀ p (get_or heights p void) void (solid_inside n s.heights₀ sinks p solid₀)

    same₁ : (e : ℕ) → is_solid (block_of n s.heights₀ sinks) e ≡ is_solid (block_of n heights₁ sinks) e
    same₁ = same_ground n s.heights₀ sinks p (get_or heights p void) (solid_inside n s.heights₀ sinks p solid₀) solid₀ (solid_height n heights p solid_now)

    ground₁ : (e : ℕ) → is_solid (block_of n heights₁ sinks) e ≡ is_solid (block_of n heights sinks) e
    ground₁ e = sym (same₁ e) ∙ s.ground e

    others₁ : (e : ℕ) → e ≢ p → get_or heights₁ e void ≡ get_or s.heights₀ e void
    others₁ e other = get_or-set_other s.heights₀ p e (get_or heights p void) void other

    done : (levels' : List ℤ) → ((e : ℕ) → e ≢ p → IsTrue (is_marked levels e) → IsTrue (is_marked levels' e)) → (e : ℕ) → IsTrue (is_solid (block_of n heights sinks) e) →
        (get_or heights₁ e void ≡ get_or heights e void) ⊎ (IsAmong points (k + 1) e × IsTrue (is_marked levels' e))
    done levels' still e solid = elim (cases_eq e p) [
      | inl at ↦ inl (subst (λ z. get_or heights₁ z void ≡ get_or heights z void) (sym at) at_p)
      | inr other ↦ elim (s.others e solid) [
        | inl same ↦ inl (others₁ e other ∙ same)
        | inr r ↦ elim (among_next e r.0) [ inl at ↦ absurd (other at) | inr later ↦ inr (later, still e other r.1) ]
      ]
    ]

    exit₁ : (e : ℕ) → is_exit (block_of n heights₁ sinks) e ≡ is_exit (block_of n heights sinks) e
    exit₁ = same_exit n heights₁ heights sinks ground₁

    pub begin_waits : (queue' suspects' : Queue) → IsFalse (is_exit (block_of n heights sinks) p) → get_or heights p void ≤ℤ get_or levels p void → WaitStill queue queue' → WaitStill suspects suspects' →
        AreAwaitedBeside n levels queue' suspects' p → IsBeginning n heights sinks points levels labels queue' suspects' (k + 1)
    begin_waits queue' suspects' inner low still suspect beside = record {
      heights₀ = heights₁;
      state = height_state n s.heights₀ heights₁ sinks levels labels (IsIn queue levels) (IsIn suspects' levels) (IsIn queue' levels) p
          (mending_as n s.heights₀ sinks levels labels (IsIn queue levels) (IsIn suspects levels) (IsIn queue levels) (IsIn suspects' levels) s.state (λ e on is. suspect (get_or levels e void) e is) (λ x y on link w. inl w))
          same₁ others₁ (exit₁ p ∙ inner) (subst (λ v. v ≤ℤ get_or levels p void) (sym at_p) low) (λ e w. still (get_or levels e void) e w) beside;
      ground = ground₁;
      others = done levels (λ e other on_e. on_e);
    }

    pub begin_reset : (levels' : List ℤ) (labels' : List ℕ) (l : ℤ) (a : ℕ) (from : ℤ) (queue' suspects' : Queue) → levels' ≡ set levels p l → labels' ≡ set labels p a →
        ((l ≡ void) × ((a ≡ NO_LABEL) × IsFalse (is_exit (block_of n heights sinks) p))) ⊎ (IsTrue (is_exit (block_of n heights sinks) p) × ((l ≡ get_or heights p void) × IsOwnLabel (block_of n heights sinks) p a)) → WaitStill queue queue' → WaitStill suspects suspects' →
        (from ≤ℤ get_or levels p void) ⊎ (IsFalse (is_exit (block_of n heights sinks) p) × IsFirstSuspect n levels labels suspects p from) →
        AreSuspectBeside n labels levels' labels' suspects' p from → AreAwaitedBeside n levels' queue' suspects' p → IsBeginning n heights sinks points levels' labels' queue' suspects' (k + 1)
    begin_reset levels' labels' l a from queue' suspects' at_levels at_labels outcome waiting suspect spared suspected beside = record {
      heights₀ = heights₁;
      state = reset_in n s.heights₀ heights₁ sinks levels levels' labels labels' queue queue' suspects suspects' (IsIn suspects levels) p l a from at_levels at_labels s.state (λ e other is. is) same₁ others₁ on (elim outcome [
        | inl opened ↦ inl (opened.0, (opened.1.0, exit₁ p ∙ opened.1.1))
        | inr way ↦ inr (exit₁ p ∙ way.0, (way.1.0 ∙ sym at_p, record { names = same_names n heights heights₁ sinks (λ e. sym (ground₁ e)) a p way.1.1.names; inner_outlet = λ out. way.1.1.inner_outlet (sym (same_inner n heights₁ heights sinks ground₁ p) ∙ out) }))
      ]) waiting suspect (elim spared [
        | inl low ↦ inl low
        | inr first ↦ elim first.1 [ inl low ↦ inl low | inr spares ↦ inr (spares.0, (spares.1.0, (same_exit n s.heights₀ heights sinks s.ground p ∙ first.0, spares.1.1))) ]
      ]) suspected beside;
      ground = ground₁;
      others = done levels' (λ e other on_e. ap (λ ls. is_marked ls e) at_levels ∙ (marked_else levels labels p l a e other ∙ on_e));
    }

pub begin_end : (n : ℕ) (heights : List ℤ) (sinks : List ℕ) (points : List ℕ) (levels : List ℤ) (labels : List ℕ) (queue suspects : Queue) → IsBeginning n heights sinks points levels labels queue suspects (length points) → AreMending n heights sinks levels labels queue suspects
begin_end n heights sinks points levels labels queue suspects s =
    heights_state n s.heights₀ heights sinks levels labels (IsIn queue levels) (IsIn suspects levels) (IsIn queue levels) s.state s.ground (λ e out. sym (alike e ((block_is_lawful (block_of n heights sinks)).outlet_ground e out)))
    (λ e solid high. rw (sym (alike e solid)) high) (λ e w. w) (λ x z on link le. inr (rw (sym (alike z (linked_parts n heights x z link).to)) le))
  where
    none : (e : ℕ) → IsAmong points (length points) e → ⊥
    none e (j, from, below, at) = absurd (omega arith)

    alike : (e : ℕ) → IsTrue (is_solid (block_of n heights sinks) e) → get_or s.heights₀ e void ≡ get_or heights e void
    alike e solid = elim (s.others e solid) [ inl same ↦ same | inr (among, on) ↦ absurd (none e among) ]
