-- Runs of points of a row that have no outlet.
use Rattle.tile_flood.proofs.Prelude.{Bool, IsTrue, List, ℕ, ℤ, [], and_from, ap, arith, around, bare_block, block_of, false, inner_if, is_exit, is_rim, is_sink_at, is_solid, list_all, mul-le-mul_right, nat_eq, ne_eqb, not, refl, subst, sym, true, ◌%◌, ◌&&◌, ◌*◌, ◌+◌, ◌-◌, ◌/◌, ◌<◌, ◌||◌, ◌≡◌, ◌≤◌}
use Rattle.tile_flood.specs.Flooding.{IsFullSpan, IsPlainSpan}
use Rattle.labelling.proofs.Squares.{row_of_cell, column_of_cell, cell_of}

none_of : (a b d e : Bool) → a ≡ false → b ≡ false → d ≡ false → e ≡ false → (a || b || d || e) ≡ false
none_of a b d e p q r s = rw (p, q, r, s) refl

no_exit : (solid rim enclosed sink : Bool) → rim ≡ false → enclosed ≡ true → sink ≡ false → ((solid && rim) || (solid && not rim && (not enclosed || sink))) ≡ false
no_exit true rim enclosed sink p q r = rw (p, q, r) refl
no_exit false rim enclosed sink p q r = refl

off_rim : (n i j : ℕ) → 0 < i → i + 1 < n → 0 < j → j + 1 < n → is_rim n (i * n + j) ≡ false
off_rim n i j north south west east =
    let row = row_of_cell n i j (omega arith) in
    let column = column_of_cell n i j (omega arith) in
    let e : ℕ = i * n + j in
    none_of (nat_eq (e / n) 0) (nat_eq (e / n + 1) n) (nat_eq (e % n) 0) (nat_eq (e % n + 1) n)
    (ne_eqb (e / n) 0 (λ h. absurd (omega arith))) (ne_eqb (e / n + 1) n (λ h. absurd (omega arith))) (ne_eqb (e % n) 0 (λ h. absurd (omega arith))) (ne_eqb (e % n + 1) n (λ h. absurd (omega arith)))

-- if three rows are full there, the points of the middle one have only ground around them
module _ (n : ℕ) (heights : List ℤ) (i from to : ℕ) (high : to < n) (above : IsFullSpan n heights i (from - 1) (to + 1)) (here : IsFullSpan n heights (i + 1) (from - 1) (to + 1)) (below : IsFullSpan n heights (i + 1 + 1) (from - 1) (to + 1)) where
  at : (e : ℕ) (row column : ℕ) → IsFullSpan n heights row (from - 1) (to + 1) → from - 1 ≤ column → column < to + 1 → e ≡ row * n + column → IsTrue (is_solid (bare_block n heights) e)
  at e row column full west east is = subst (λ z. IsTrue (is_solid (bare_block n heights) z)) (sym is) (full column west east)

  pub enclosed : (j : ℕ) → 0 < from → from ≤ j → j < to → list_all (is_solid (bare_block n heights)) (around n ((i + 1) * n + j)) ≡ true
  enclosed j some west east =
      let e : ℕ = (i + 1) * n + j in
      let s = is_solid (bare_block n heights) in
      and_from (s (e - n - 1)) _ (at (e - n - 1) i (j - 1) above (omega arith) (omega arith) (omega arith))
      (and_from (s (e - n)) _ (at (e - n) i j above (omega arith) (omega arith) (omega arith))
      (and_from (s (e - n + 1)) _ (at (e - n + 1) i (j + 1) above (omega arith) (omega arith) (omega arith))
      (and_from (s (e - 1)) _ (at (e - 1) (i + 1) (j - 1) here (omega arith) (omega arith) (omega arith))
      (and_from (s (e + 1)) _ (at (e + 1) (i + 1) (j + 1) here (omega arith) (omega arith) (omega arith))
      (and_from (s (e + n - 1)) _ (at (e + n - 1) (i + 1 + 1) (j - 1) below (omega arith) (omega arith) (omega arith))
      (and_from (s (e + n)) _ (at (e + n) (i + 1 + 1) j below (omega arith) (omega arith) (omega arith))
      (and_from (s (e + n + 1)) _ (at (e + n + 1) (i + 1 + 1) (j + 1) below (omega arith) (omega arith) (omega arith)) refl)))))))

pub plain_if : (n : ℕ) (heights : List ℤ) (sinks : List ℕ) (i from to : ℕ) → sinks ≡ [] → 0 < i → i + 1 < n → 0 < from → to < n → IsFullSpan n heights (i - 1) (from - 1) (to + 1) → IsFullSpan n heights i (from - 1) (to + 1) → IsFullSpan n heights (i + 1) (from - 1) (to + 1)
    → IsPlainSpan (block_of n heights sinks) i from to
plain_if n heights sinks i from to none north south some high above here below j west east =
    let k : ℕ = i - 1 in
    let up : i ≡ k + 1 = omega arith in
    let e : ℕ = i * n + j in
    let all : list_all (is_solid (bare_block n heights)) (around n e) ≡ true = subst (λ r. list_all (is_solid (bare_block n heights)) (around n (r * n + j)) ≡ true) (sym up)
    (enclosed n heights k from to high above (subst (λ r. IsFullSpan n heights r (from - 1) (to + 1)) up here) (subst (λ r. IsFullSpan n heights (r + 1) (from - 1) (to + 1)) up below) j some west east) in
    no_exit (is_solid (bare_block n heights) e) (is_rim n e) (list_all (is_solid (bare_block n heights)) (around n e)) (is_sink_at (block_of n heights sinks) e)
    (off_rim n i j north south (omega arith) (omega arith)) all (ap (λ ss. is_sink_at (block_of n heights ss) e) none)

-- no point of a run without outlets is an outlet, in terms of its index
pub plain_at : (n : ℕ) (heights : List ℤ) (sinks : List ℕ) (i from to e : ℕ) → i * n + from ≤ e → e < i * n + to → IsPlainSpan (block_of n heights sinks) i from to → is_exit (block_of n heights sinks) e ≡ false
plain_at n heights sinks i from to e low high plain =
    let at : i * n + (e - i * n) ≡ e = omega arith in
    subst (λ z. is_exit (block_of n heights sinks) z ≡ false) at (plain (e - i * n) (omega arith) (omega arith))

-- a point off the rim has a row and a column after it
pub inner_reach : (n e : ℕ) → 3 ≤ n → e < n * n → is_rim n e ≡ false → e + n + 1 < n * n
inner_reach n e side small off = let i = inner_if n e side small off in reach n e (e / n) (e % n) (cell_of n e) i.below i.after
  where
    reach : (n e q r : ℕ) → e ≡ q * n + r → q + 2 ≤ n → r + 2 ≤ n → e + n + 1 < n * n
    reach n e q r is below after = let bottom : (q + 2) * n ≤ n * n = mul-le-mul_right n below in omega arith
