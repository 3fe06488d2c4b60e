-- When a point's level and label fit its height and the levels around it (`IsFitting`).
use Rattle.std.proofs.Common.{rules}
use Rattle.std.proofs.Common.{◌≡◌, ◌≢◌, ℕ, ◌+◌, ◌-◌, ◌*◌, ◌<◌, ◌≤◌, ℤ, ◌⊎◌, false, IsTrue, List, Contains, get_or, slice_index, inl, inr, arith, sym, subst, ◌∙◌, true≢false, ap₂, nat_lt, int_eq, ◌&&◌}
use Rattle.tile_flood.proofs.Prelude.{Decides-int_eq, IsOwnLabel, NO_LABEL, bare_block, block_is_lawful, block_of, cases_Bool, cases_lt, is_exit, is_marked, is_solid, void}
use Rattle.labelling.proofs.Squares.{not_void_if, solid_if}
use Rattle.tile_flood.specs.Restoring.{AreFitting, IsFitting, IsLeast, IsSettled}

pub off_void : (v : ℤ) → v ≢ void → int_eq v void ≡ false
off_void v ne = elim (cases_Bool (int_eq v void)) [ inl h ↦ absurd (ne ((Decides-int_eq v void).0 h)) | inr h ↦ h ]

-- a point without a height isn't ground, and a point with one is
pub gap_at : (n : ℕ) (heights : List ℤ) (e : ℕ) → is_marked heights e ≡ false → is_solid (bare_block n heights) e ≡ false
gap_at n heights e off = elim (cases_Bool (nat_lt e (n * n))) [ inl h ↦ ap₂ (λ a b. a && b) h off | inr h ↦ ap₂ (λ a b. a && b) h off ]

pub ground_at : (n : ℕ) (heights : List ℤ) (e : ℕ) → e < n * n → IsTrue (is_marked heights e) → IsTrue (is_solid (bare_block n heights) e)
ground_at n heights e small on = solid_if n heights e small (off_void (get_or heights e void) (not_void_if heights e on))

module _ (n : ℕ) (heights : List ℤ) (sinks : List ℕ) (levels : List ℤ) (labels : List ℕ) (points : List ℕ) where
  pub void_fits : (e : ℕ) → is_solid (block_of n heights sinks) e ≡ false → get_or levels e void ≡ void → slice_index labels e ≡ NO_LABEL → IsFitting n heights sinks levels labels points e
  void_fits e gap no_level no_label = record {
    void_point = λ _. (no_level, no_label);
    ground = λ solid. absurd (true≢false (sym solid ∙ gap));
    exit = λ out. absurd (true≢false (sym ((block_is_lawful (block_of n heights sinks)).outlet_ground e out) ∙ gap));
    level = λ solid. absurd (true≢false (sym solid ∙ gap));
  }

  pub exit_fits : (e : ℕ) → IsTrue (is_exit (block_of n heights sinks) e) → get_or levels e void ≢ void → slice_index labels e ≢ NO_LABEL → IsOwnLabel (block_of n heights sinks) e (slice_index labels e) → Contains points e ⊎ (get_or levels e void ≡ get_or heights e void) → IsFitting n heights sinks levels labels points e
  exit_fits e out full named own fits = search rules

  pub inner_fits : (e : ℕ) → IsTrue (is_solid (block_of n heights sinks) e) → is_exit (block_of n heights sinks) e ≡ false → get_or levels e void ≢ void → slice_index labels e ≢ NO_LABEL → Contains points e ⊎ IsLeast n heights levels e → IsFitting n heights sinks levels labels points e
  inner_fits e solid inner full named fits = search rules

  pub settled_fits : (e : ℕ) → e < n * n → is_exit (block_of n heights sinks) e ≡ false → IsSettled n heights levels labels e → IsFitting n heights sinks levels labels points e
  settled_fits e small inner is = inner_fits e (solid_if n heights e small (off_void (get_or heights e void) is.0.ground)) inner is.0.full is.0.named (inr is.1)

  pub span_fits : (i from to : ℕ) → AreFitting n heights sinks levels labels points (i * n + from) → ((j : ℕ) → from ≤ j → j < to → IsFitting n heights sinks levels labels points (i * n + j)) → AreFitting n heights sinks levels labels points (i * n + to)
  span_fits i from to are span e less = elim (cases_lt e (i * n + from)) [
    | inl before ↦ are e before
    | inr from_here ↦
        let at : i * n + (e - i * n) ≡ e = omega arith in
        subst (IsFitting n heights sinks levels labels points) at (span (e - i * n) (omega arith) (omega arith))
  ]

-- the level still fits when more points are listed
pub still_fits : (n : ℕ) (heights : List ℤ) (sinks : List ℕ) (levels : List ℤ) (labels : List ℕ) (points points' : List ℕ) (e : ℕ) → ((z : ℕ) → Contains points z → Contains points' z) → IsFitting n heights sinks levels labels points e → IsFitting n heights sinks levels labels points' e
still_fits n heights sinks levels labels points points' e kept is = search rules

pub next_fits : (n : ℕ) (heights : List ℤ) (sinks : List ℕ) (levels : List ℤ) (labels : List ℕ) (points points' : List ℕ) (i j : ℕ) → AreFitting n heights sinks levels labels points (i * n + j) → ((z : ℕ) → Contains points z → Contains points' z) → IsFitting n heights sinks levels labels points' (i * n + j) → AreFitting n heights sinks levels labels points' (i * n + (j + 1))
next_fits n heights sinks levels labels points points' i j are kept last = span_fits n heights sinks levels labels points' i j (j + 1) (λ e less. still_fits n heights sinks levels labels points points' e kept (are e less))
    (λ k low high. let at : j ≡ k = omega arith in subst (λ x. IsFitting n heights sinks levels labels points' (i * n + x)) at last)
