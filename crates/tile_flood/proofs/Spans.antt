-- The steps of filling a plain span by span.
use Rattle.std.proofs.Common.{Contains, zero, suc, [], ◌∷◌, ◌++◌, refl, ◌≤◌}
use Rattle.std.proofs.lemmas.List.Elements.{Contains-append_cases, Contains-append_left, Contains-append_right}
use Rattle.tile_flood.proofs.Prelude.{AreCells, Cell, IsSpreading, List, Queue, SFits, ℕ, ℤ, ap, arith, block_of, cases_eq, get_or, inl, inr, int_max, labels_of, le-max_right, length, length-map, level_of, levels_of, max-le, nat_eq, of_z, set, subst, sym, to_z, to_z-of_z, void, w16, ≤ℤ_antisym, ≤ℤ_same, ◌*◌, ◌+◌, ◌-◌, ◌<◌, ◌∙◌, ◌≡◌, ◌≤ℤ◌, ◌⊎◌}
use Rattle.tile_flood.specs.Cells.{OPEN, IsMark}
use Rattle.tile_flood.specs.Flooding.{IsNear}
use Rattle.tile_flood.specs.declared.filling.FilledSpan.{FilledSpan}
use Rattle.tile_flood.specs.Spans.{InSpan, InSpans, one_point}
use Rattle.tile_flood.proofs.InCells.{none, open_if, set_levels, set_labels, set_cells}
use Rattle.tile_flood.proofs.Runs.{run_near}
use Rattle.tile_flood.proofs.Spreading.{IsMarkedNow, marked_now, spreader_below, visited_as}

only_one : (s f : FilledSpan) → Contains (s ∷ []) f → f ≡ s
only_one s f (zero, below, is) = sym is
only_one s f (suc k, below, is) = absurd (omega arith)

-- a point isn't in any span if no span waits
pub none_wait : (spans : List FilledSpan) → spans ≡ [] → (e : ℕ) → InSpans spans e → ⊥
none_wait spans none e (span, ((k, below, is), within)) = let empty : length spans ≡ 0 = ap length none in absurd (omega arith)

-- a point in the list of one span of one point is that point
pub the_point : (c e : ℕ) → InSpans (one_point c) e → e ≡ c
the_point c e w = let is = only_one (record { first = c; after = 0 }) w.0 w.1.0 in let within = subst (λ s. InSpan s e) is w.1.1 in let low = within.0 in let high = within.1 in omega arith

pub at_point : (c : ℕ) → InSpans (one_point c) c
at_point c = (record { first = c; after = 0 }, ((0, omega arith, refl), (omega arith, omega arith)))

-- a point of a list is in its first span or in the others
pub first_or : (span : FilledSpan) (rest : List FilledSpan) (e : ℕ) → InSpans (span ∷ rest) e → InSpan span e ⊎ InSpans rest e
first_or span rest e (s, ((zero, below, is), within)) = inl (subst (λ t. InSpan t e) (sym is) within)
first_or span rest e (s, ((suc k, below, is), within)) = inr (s, ((k, omega arith, is), within))

pub in_first : (span : FilledSpan) (rest : List FilledSpan) (e : ℕ) → InSpan span e → InSpans (span ∷ rest) e
in_first span rest e within = (span, ((0, omega arith, refl), within))

pub in_rest : (span : FilledSpan) (rest : List FilledSpan) (e : ℕ) → InSpans rest e → InSpans (span ∷ rest) e
in_rest span rest e (s, ((k, below, is), within)) = (s, ((suc k, omega arith, is), within))

-- a point of a list is in its last span or in the others
pub last_or : (spans rest : List FilledSpan) (span : FilledSpan) → spans ≡ rest ++ (span ∷ []) → (e : ℕ) → InSpans spans e → InSpan span e ⊎ InSpans rest e
last_or spans rest span is e w = elim (Contains-append_cases rest (span ∷ []) w.0 (subst (λ ss. Contains ss w.0) is w.1.0)) [
  | inl old ↦ inr (w.0, (old, w.1.1))
  | inr one ↦ inl (subst (λ s. InSpan s e) (only_one span w.0 one) w.1.1)
]

pub in_last : (spans rest : List FilledSpan) (span : FilledSpan) → spans ≡ rest ++ (span ∷ []) → (e : ℕ) → InSpan span e ⊎ InSpans rest e → InSpans spans e
in_last spans rest span is e w = elim w [
  | inl one ↦ (span, (subst (λ ss. Contains ss span) (sym is) (Contains-append_right rest (span ∷ []) span (0, omega arith, refl)), one))
  | inr old ↦ (old.0, (subst (λ ss. Contains ss old.0) (sym is) (Contains-append_left rest (span ∷ []) old.0 old.1.0), old.1.1))
]

-- the last point of a spreading span is a point of the block
pub last_below : (n : ℕ) (heights : List ℤ) (sinks : List ℕ) (levels : List ℤ) (labels : List ℕ) (queue : Queue) (span : FilledSpan) (rest : List FilledSpan) (low : ℤ) (label : ℕ) → IsSpreading (block_of n heights sinks) levels labels queue (InSpans (span ∷ rest)) low label →
    span.first + span.after < n * n
last_below n heights sinks levels labels queue span rest low label s =
    spreader_below n heights sinks levels labels queue (InSpans (span ∷ rest)) low label s (span.first + span.after) (in_first span rest (span.first + span.after) (omega arith, omega arith))

-- each point searched above a span (i = 0), in its row (1) or below it (2) is near a point of the span
pub near_span : (n i e : ℕ) (span : FilledSpan) → 3 ≤ n → i < 3 → span.first + i * n ≤ e + n + 1 → e + n + 1 ≤ span.first + i * n + span.after + 2 → (c : ℕ) × (InSpan span c × IsNear n c e)
near_span n i e span side few from to = elim (cases_eq (e + n + 1) (span.first + i * n)) [
  | inl first ↦ (span.first, ((omega arith, omega arith), run_near n span.first i 0 e side few (omega arith) (omega arith)))
  | inr later ↦ elim (cases_eq (e + n + 1) (span.first + i * n + span.after + 2)) [
    | inl last ↦ (span.first + span.after, ((omega arith, omega arith), run_near n (span.first + span.after) i 2 e side few (omega arith) (omega arith)))
    | inr inner ↦ (e + n - i * n, ((omega arith, omega arith), run_near n (e + n - i * n) i 1 e side few (omega arith) (omega arith)))
  ]
]

-- the cells after this level and label are written to an open cell that is no higher
pub record IsTakenNext (n : ℕ) (heights : List ℤ) (sinks : List ℕ) (cells cells' : List Cell) (e : ℕ) (low : ℤ) (label : ℕ) : Type 1 where
  pub are_cells : AreCells heights cells'
  pub marking : IsMarkedNow (levels_of cells) (levels_of cells') e
  pub state : (queue : Queue) (Frontier Frontier' : ℕ → Type 0) (c : ℕ) → Frontier c → IsNear n c e → ((z : ℕ) → Frontier z → Frontier' z) → ((z : ℕ) → Frontier' z → (z ≡ e) ⊎ Frontier z) → Frontier' e →
      IsSpreading (block_of n heights sinks) (levels_of cells) (labels_of cells) queue Frontier low label → IsSpreading (block_of n heights sinks) (levels_of cells') (labels_of cells') queue Frontier' low label

pub taken_next : (n : ℕ) (heights : List ℤ) (sinks : List ℕ) (cells : List Cell) (e : ℕ) (low : ℤ) (label : ℕ) → SFits w16 low → length heights ≡ n * n → AreCells heights cells → e < length cells → (get_or cells e none).label ≡ OPEN → (get_or cells e none).level ≤ℤ low →
    IsMark low label → IsTakenNext n heights sinks cells (set cells e (record { level = to_z w16 (of_z w16 low); label = label })) e low label
taken_next n heights sinks cells e low label fits whole s inside opened small mark =
    let cell : Cell = record { level = to_z w16 (of_z w16 low); label = label } in
    let below : e < n * n = subst (λ k. e < k) (s.whole ∙ whole) inside in
    let o = open_if n heights cells e whole s below (get_or cells e none) refl (ap (λ k. nat_eq k OPEN) opened) in
    let wrote : levels_of (set cells e cell) ≡ set (levels_of cells) e low = set_levels cells e cell mark.1 mark.2 ∙ ap (set (levels_of cells) e) (to_z-of_z fits) in
    let wrote_label : labels_of (set cells e cell) ≡ set (labels_of cells) e label = set_labels cells e cell mark.1 mark.2 in
    let in_levels : e < length (levels_of cells) = subst (λ k. e < k) (sym (length-map cells level_of)) inside in
    record {
      are_cells = set_cells cells e cell mark.1 mark.2 inside heights s;
      marking = marked_now (levels_of cells) (levels_of (set cells e cell)) (labels_of cells) e low label in_levels o.off mark.0 wrote;
      state = λ queue Frontier Frontier' c from near keep new here spreading. visited_as n heights sinks (levels_of cells) (labels_of cells) queue queue Frontier Frontier' low label c e low spreading from near o.solid o.off
          (low_max (get_or heights e void) low (subst (λ h. h ≤ℤ low) (o.height none) small)) mark.0 (λ _ _ w. w) (λ _ _ w. inr w)
          keep (λ z front. elim (new z front) [ inl same ↦ inl (same, refl) | inr old ↦ inr old ]) (inr here) (levels_of (set cells e cell)) (labels_of (set cells e cell)) wrote wrote_label;
    }
  where
    low_max : (h l : ℤ) → h ≤ℤ l → l ≡ int_max h l
    low_max h l le = ≤ℤ_antisym l (int_max h l) (le-max_right h l) (max-le h l l le (≤ℤ_same l))
