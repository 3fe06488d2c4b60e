-- If each point is supported, and its level fits or it is listed, then the levels and labels are a carried labelling of the
-- earlier block.
use Rattle.std.proofs.Common.{rules}
use Rattle.std.proofs.Common.{All, ◌≡◌, ◌≢◌, ℕ, zero, suc, ◌*◌, ◌<◌, ◌≤◌, ℤ, pos, ◌+ℤ◌, ◌<ℤ◌, ◌≤ℤ◌, true, false, not, IsTrue, List, [], ◌∷◌, Contains, length, length-set, get_or, set, get_or-set_other, get_or-set_same, slice_index, inl, inr, refl, sym, ap, ◌∙◌, subst, arith, true≢false, ◌&&◌, ◌⊎◌, nat_lt}
use Rattle.std.proofs.lemmas.List.Elements.{All-get_or, Contains-append_cases, Contains-append_right}
use Rattle.tile_flood.proofs.Buckets.{none_in}
use Rattle.tile_flood.proofs.Fitting.{off_void}
use Rattle.tile_flood.proofs.Standing.{only_one}
use Rattle.lattice.specs.Mosaic.{IsSample}
use Rattle.tile_flood.proofs.Prelude.{IsHeldBy, IsHeldUp, IsMending, IsSeed, block_is_lawful, block_of, cases_Bool, cases_eq, cases_lt, clamps, get_or_past, int_max, ints, is_exit, is_solid, is_void, le-max_left, max-le, ne_eqb, void}
use Rattle.tile_flood.specs.Mending.{IsLabelledBefore}
use Rattle.tile_flood.specs.Restoring.{AreFitting, IsAlike, IsLeast, StandsBy}
use Rattle.labelling.proofs.Squares.{not_void_if, test_if, linked_parts, linked_from, solid_below, solid_if}
use Rattle.tile_flood.proofs.Dependence.{same_inner, same_exit, same_names, beside_back}
use Rattle.tile_flood.proofs.Steps.{at_most_as, mended, unmarked_void}

lower_still : (l m : ℤ) (k : ℕ) → l <ℤ m → m <ℤ (void +ℤ pos (suc k)) → l <ℤ (void +ℤ pos k)
lower_still l m k less below = omega (arith, ints)

le_of : (l m : ℤ) → l <ℤ m → l ≤ℤ m
le_of l m less = omega (arith, ints)

no_less : (l : ℤ) → l <ℤ l → ⊥
no_less l less = absurd (omega (arith, ints))

none_below : (l : ℤ) → void ≤ℤ l → l <ℤ (void +ℤ pos 0) → ⊥
none_below l low less = absurd (omega (arith, ints))

below_all : (l : ℤ) → l ≤ℤ pos 32767 → l <ℤ (void +ℤ pos 65536)
below_all l high = omega (arith, ints)

in_range : (levels : List ℤ) → All IsSample levels → (e : ℕ) → IsSample (get_or levels e void)
in_range levels samples e = elim (cases_lt e (length levels)) [
  | inl small ↦ All-get_or IsSample levels e void small samples
  | inr past ↦ subst IsSample (sym (get_or_past levels e void past)) (omega (arith, ints), omega (arith, ints))
]

at_most_max : (l h m : ℤ) → (l ≤ℤ h) ⊎ (l ≤ℤ m) → l ≤ℤ int_max h m
at_most_max l h m either = elim either [ inl le ↦ omega (arith, ints, clamps) | inr le ↦ omega (arith, ints, clamps) ]

module _ (n : ℕ) (heights : List ℤ) (sinks : List ℕ) (levels : List ℤ) (labels : List ℕ) (some : 0 < n) (whole : length heights ≡ n * n) (levels_whole : length levels ≡ n * n) (labels_whole : length labels ≡ n * n) where
  -- the heights, with the levels of the listed points in place of their heights
  abbrev before : List ℕ → List ℤ
  before [] = heights
  before (p ∷ points) = set (before points) p (get_or levels p void)

  before_whole : (points : List ℕ) → length (before points) ≡ n * n
  before_whole [] = whole
  before_whole (p ∷ points) = length-set (before points) p (get_or levels p void) ∙ before_whole points

  before_at : (points : List ℕ) (e : ℕ) → e < n * n → ((Contains points e → ⊥) × (get_or (before points) e void ≡ get_or heights e void)) ⊎ (Contains points e × (get_or (before points) e void ≡ get_or levels e void))
  before_at [] e small = inl ((λ has. none_in e [] refl has), refl)
  before_at (p ∷ points) e small = elim (cases_eq e p) [
    | inl at ↦ inr (
      (0, omega arith, sym at),
      subst (λ x. get_or (set (before points) p (get_or levels p void)) x void ≡ get_or levels x void) (sym at)
          (get_or-set_same (before points) p (get_or levels p void) void (subst (λ k. p < k) (sym (before_whole points)) (subst (λ x. x < n * n) at small))),
    )
    | inr other ↦
        let same = get_or-set_other (before points) p e (get_or levels p void) void other in
        elim (before_at points e small) [
          | inl is ↦ inl ((λ has. elim (Contains-append_cases (p ∷ []) points e has) [ inl at ↦ other (only_one p e at) | inr in_rest ↦ is.0 in_rest ]), same ∙ is.1)
          | inr is ↦ inr (Contains-append_right (p ∷ []) points e is.0, same ∙ is.1)
        ]
  ]

  module _ (points : List ℕ) (samples : All IsSample levels) (fits : AreFitting n heights sinks levels labels points (n * n)) (stand : (e : ℕ) → e < n * n → (rest : List ℕ) × StandsBy n heights sinks levels labels e rest) where
    abbrev heights₀ : List ℤ
    heights₀ = before points

    void_at : (e : ℕ) → e < n * n → is_solid (block_of n heights sinks) e ≡ false → get_or levels e void ≡ void
    void_at e small gap = ((fits e small).void_point gap).0

    full_at : (e : ℕ) → IsTrue (is_solid (block_of n heights sinks) e) → get_or levels e void ≢ void
    full_at e solid = ((fits e (solid_below n heights e solid)).ground solid).0

    -- the earlier heights and the new ones have the same ground
    same : (e : ℕ) → is_solid (block_of n heights₀ sinks) e ≡ is_solid (block_of n heights sinks) e
    same e = elim (cases_lt e (n * n)) [
      | inr past ↦ ap (λ v. nat_lt e (n * n) && not (is_void v)) (get_or_past heights₀ e void (subst (λ k. k ≤ e) (sym (before_whole points)) past) ∙ sym (get_or_past heights e void (subst (λ k. k ≤ e) (sym whole) past)))
      | inl small ↦ elim (before_at points e small) [
        | inl is ↦ ap (λ v. nat_lt e (n * n) && not (is_void v)) is.1
        | inr is ↦ elim (cases_Bool (is_solid (block_of n heights sinks) e)) [
          | inl solid ↦ ap (λ v. nat_lt e (n * n) && not (is_void v)) is.1 ∙ (on_level e solid ∙ sym solid)
          | inr gap ↦ ap (λ v. nat_lt e (n * n) && not (is_void v)) (is.1 ∙ void_at e small gap) ∙ (no_void e ∙ sym gap)
        ]
      ]
    ]
      where
        on_level : (e : ℕ) → IsTrue (is_solid (block_of n heights sinks) e) → (nat_lt e (n * n) && not (is_void (get_or levels e void))) ≡ true
        on_level e solid = solid_if n levels e (solid_below n heights e solid) (off_void (get_or levels e void) (full_at e solid))

        no_void : (e : ℕ) → (nat_lt e (n * n) && not (is_void void)) ≡ false
        no_void e = search rules

    exit_now : (e : ℕ) → IsTrue (is_exit (block_of n heights₀ sinks) e) → IsTrue (is_exit (block_of n heights sinks) e)
    exit_now e out = sym (same_exit n heights₀ heights sinks same e) ∙ out

    -- each level fits the earlier heights
    exit_at : (e : ℕ) → IsTrue (is_exit (block_of n heights sinks) e) → get_or levels e void ≡ get_or heights₀ e void
    exit_at e out =
        let solid = (block_is_lawful (block_of n heights sinks)).outlet_ground e out in
        let small = solid_below n heights e solid in
        elim (before_at points e small) [
          | inr is ↦ sym is.1
          | inl is ↦ elim ((fits e small).level solid) [ inl has ↦ absurd (is.0 has) | inr fit ↦ fit.0 out ∙ sym is.1 ]
        ]

    least_at : (e : ℕ) → IsTrue (is_solid (block_of n heights sinks) e) → is_exit (block_of n heights sinks) e ≡ false → IsLeast n heights₀ levels e
    least_at e solid inner =
        let small = solid_below n heights e solid in
        elim (before_at points e small) [
          | inr is ↦ record { low = at_most_as (get_or heights₀ e void) (get_or levels e void) is.1; relaxed = λ x inside beside. inl (at_most_as (get_or levels e void) (get_or heights₀ e void) (sym is.1)) }
          | inl is ↦ elim ((fits e small).level solid) [
            | inl has ↦ absurd (is.0 has)
            | inr fit ↦ let l = fit.1 inner in record {
              low = subst (λ h. h ≤ℤ get_or levels e void) (sym is.1) l.low;
              relaxed = λ x inside beside. subst (λ h. (get_or levels e void ≤ℤ h) ⊎ (get_or levels e void ≤ℤ get_or levels x void)) (sym is.1) (l.relaxed x inside beside);
            }
          ]
        ]

    seed_at : (e : ℕ) → IsTrue (is_exit (block_of n heights₀ sinks) e) → IsSeed (block_of n heights₀ sinks) levels labels e
    seed_at e out =
        let out_now = exit_now e out in
        let own = (fits e (solid_below n heights e ((block_is_lawful (block_of n heights sinks)).outlet_ground e out_now))).exit out_now in
        record {
          exit = out;
          level = exit_at e out_now;
          names = same_names n heights heights₀ sinks (λ z. sym (same z)) (slice_index labels e) e own.names;
          inner_outlet = λ inner. own.inner_outlet (sym (same_inner n heights₀ heights sinks same e) ∙ inner);
        }

    -- a neighbour of a ground point with the same label is ground
    alike_solid : (e f : ℕ) → IsTrue (is_solid (block_of n heights sinks) e) → IsAlike n labels e f → IsTrue (is_solid (block_of n heights sinks) f)
    alike_solid e f solid alike = elim (cases_Bool (is_solid (block_of n heights sinks) f)) [
      | inl on ↦ on
      | inr gap ↦ absurd (((fits e (solid_below n heights e solid)).ground solid).1 (sym alike.label ∙ ((fits f alike.inside).void_point gap).1))
    ]

    -- a neighbour with the same label and at most the point's level supports the point
    held_up : (e f : ℕ) → IsTrue (is_solid (block_of n heights sinks) e) → is_exit (block_of n heights sinks) e ≡ false → IsAlike n labels e f → get_or levels f void ≤ℤ get_or levels e void → f ≢ e → IsHeldUp n heights₀ sinks levels labels e f
    held_up e f solid inner alike le other = record {
      inner = same_exit n heights₀ heights sinks same e ∙ inner;
      link = linked_from n heights₀ e f (record { from = same e ∙ solid; to = same f ∙ alike_solid e f solid alike; apart = ap not (ne_eqb e f (λ at. other (sym at))); beside = alike.beside });
      own = full_at e solid;
      full = full_at f (alike_solid e f solid alike);
      label = sym alike.label;
      level = max-le (get_or heights₀ e void) (get_or levels f void) (get_or levels e void) (least_at e solid inner).low le;
    }

    abbrev Held : ℕ → Type 0
    Held e = (rest : List ℕ) × IsHeldBy n heights₀ sinks levels labels (λ _. ⊥) e rest

    seed_held : (e : ℕ) → IsTrue (is_exit (block_of n heights sinks) e) → Held e
    seed_held e out = ([], inr (seed_at e (same_exit n heights₀ heights sinks same e ∙ out)))

    -- a supported point is carried if all lower points are
    walk : (k : ℕ) → ((f : ℕ) → IsTrue (is_solid (block_of n heights sinks) f) → get_or levels f void <ℤ (void +ℤ pos k) → Held f) → (e : ℕ) (rest : List ℕ) → StandsBy n heights sinks levels labels e rest → IsTrue (is_solid (block_of n heights sinks) e) → get_or levels e void <ℤ (void +ℤ pos (suc k)) → Held e
    walk k lower e [] by solid less = elim (cases_Bool (is_exit (block_of n heights sinks) e)) [
      | inl out ↦ seed_held e out
      | inr inner ↦ elim by [
        | inl gap ↦ absurd (true≢false (sym solid ∙ gap))
        | inr on ↦ elim on [
          | inl out ↦ seed_held e out
          | inr down ↦
              let f : ℕ = down.0 in
              let at : Held f = lower f (alike_solid e f solid down.1.0) (lower_still (get_or levels f void) (get_or levels e void) k down.1.1 less) in
              (f ∷ at.0, (held_up e f solid inner down.1.0 (le_of (get_or levels f void) (get_or levels e void) down.1.1) (λ is. no_less (get_or levels e void) (subst (λ x. get_or levels x void <ℤ get_or levels e void) is down.1.1)), at.1))
        ]
      ]
    ]
    walk k lower e (f ∷ rest) by solid less = elim (cases_Bool (is_exit (block_of n heights sinks) e)) [
      | inl out ↦ seed_held e out
      | inr inner ↦ elim (cases_eq f e) [
        | inl at ↦ walk k lower e rest (subst (λ x. StandsBy n heights sinks levels labels x rest) at by.1) solid less
        | inr other ↦
            let on : Held f = walk k lower f rest by.1 (alike_solid e f solid by.0.0) (subst (λ v. v <ℤ (void +ℤ pos (suc k))) (sym by.0.1) less) in
            (f ∷ on.0, (held_up e f solid inner by.0.0 (at_most_as (get_or levels f void) (get_or levels e void) by.0.1) other, on.1))
      ]
    ]

    hold : (k : ℕ) (e : ℕ) → IsTrue (is_solid (block_of n heights sinks) e) → get_or levels e void <ℤ (void +ℤ pos k) → Held e
    hold zero e solid less = absurd (none_below (get_or levels e void) (in_range levels samples e).0 less)
    hold (suc k) e solid less = let on = stand e (solid_below n heights e solid) in walk k (hold k) e on.0 on.1 solid less

    state : IsMending n heights₀ sinks levels labels (λ _. ⊥) (λ _. ⊥)
    state = record {
      levels_whole = levels_whole;
      labels_whole = labels_whole;
      ground = λ e on. elim (cases_Bool (is_solid (block_of n heights sinks) e)) [
        | inl solid ↦ same e ∙ solid
        | inr gap ↦ elim (cases_lt e (n * n)) [
          | inl small ↦ absurd (not_void_if levels e on (void_at e small gap))
          | inr past ↦ absurd (not_void_if levels e on (get_or_past levels e void (subst (λ k. k ≤ e) (sym levels_whole) past)))
        ]
      ];
      unlabelled = λ e small off. elim (cases_Bool (is_solid (block_of n heights sinks) e)) [
        | inl solid ↦ absurd (full_at e solid (unmarked_void levels e off))
        | inr gap ↦ ((fits e small).void_point gap).1
      ];
      exits = seed_at;
      held = λ e on. elim (cases_Bool (is_solid (block_of n heights sinks) e)) [
        | inl solid ↦ hold 65536 e solid (below_all (get_or levels e void) (in_range levels samples e).1)
        | inr gap ↦ elim (cases_lt e (n * n)) [
          | inl small ↦ absurd (not_void_if levels e on (void_at e small gap))
          | inr past ↦ absurd (not_void_if levels e on (get_or_past levels e void (subst (λ k. k ≤ e) (sym levels_whole) past)))
        ]
      ];
      links = λ x y on link.
          let l = linked_parts n heights₀ x y link in
          let solid = sym (same y) ∙ l.to in
          inr (
            test_if (get_or levels y void) (full_at y solid),
            elim (cases_Bool (is_exit (block_of n heights sinks) y)) [
              | inl out ↦ subst (λ v. v ≤ℤ int_max (get_or heights₀ y void) (get_or levels x void)) (sym (exit_at y out)) (le-max_left (get_or heights₀ y void) (get_or levels x void))
              | inr inner ↦ at_most_max (get_or levels y void) (get_or heights₀ y void) (get_or levels x void) ((least_at y solid inner).relaxed x (solid_below n heights₀ x l.from) (beside_back n x y l.beside))
            ],
          );
    }

    pub labelled_before : IsLabelledBefore (block_of n heights sinks) points levels labels
    labelled_before =
        let is = mended n heights₀ sinks levels labels (λ _. ⊥) (λ _. ⊥) (λ _. ⊥) (λ _. ⊥) state some (λ e never. never) (λ e never. never) in
        record {
          heights = heights₀;
          labelling = is.0;
          carried = is.1;
          ground = same;
          others = λ e solid. elim (before_at points e (solid_below n heights e solid)) [ inl at ↦ inl at.1 | inr at ↦ inr at.0 ];
        }
