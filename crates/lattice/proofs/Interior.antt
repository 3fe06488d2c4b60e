-- Points off the rim of a tile: each has a row above and below and a column on either side, and only one tile has it.
use Rattle.std.proofs.Common.{rules}
use Rattle.lattice.proofs.Prelude.{Corner, Holds, IsIndexOf, IsSampleAt, Point, ℕ, ℤ, ap, ap₂, arith, div-mul-add, false, ints, is_rim, mod-mul-add, nat_eq, pos, subst, sym, ◌%◌, ◌*ℤ◌, ◌*◌, ◌+ℤ◌, ◌+◌, ◌-◌, ◌/◌, ◌<◌, ◌||◌, ◌∙◌, ◌≡◌, ◌≢◌, ◌≤◌}
use Rattle.std.proofs.lemmas.Bool.{or_parts, eqb-false}
use Rattle.lattice.proofs.Samples.{row_below, index_below}
use Rattle.lattice.proofs.Multiples.{multiples_same}

-- The index is that of a point off the rim.
pub record IsInner (n e : ℕ) : Type 0 where
  pub above : 1 ≤ e / n
  pub below : e / n + 2 ≤ n
  pub before : 1 ≤ e % n
  pub after : e % n + 2 ≤ n

pub inner_if : (n e : ℕ) → 3 ≤ n → e < n * n → is_rim n e ≡ false → IsInner n e
inner_if n e side small off = search rules

-- A tile that has a point inside the corner's tile is that tile.
pub inner_holder : (n : ℕ) (c d : Corner) (p : Point) (i j : ℕ) → IsSampleAt n c i j p → 0 < i → i < n - 1 → 0 < j → j < n - 1 → Holds n d p → d ≡ c
inner_holder n c d p i j at i_some i_inside j_some j_inside held =
    let other = held.sample.2 in
    let row : held.sample.0 ≤ n - 1 = omega (arith, other.row) in
    let column : held.sample.1 ≤ n - 1 = omega (arith, other.column) in
    let ys : (c.lat *ℤ pos (n - 1) +ℤ pos held.sample.0) ≡ d.lat *ℤ pos (n - 1) +ℤ pos i = omega (arith, ints, at.y, other.y) in
    let xs : (d.lon *ℤ pos (n - 1) +ℤ pos held.sample.1) ≡ c.lon *ℤ pos (n - 1) +ℤ pos j = sym other.x ∙ at.x in
    let lat : c.lat ≡ d.lat = multiples_same c.lat d.lat (n - 1) i held.sample.0 i_some i_inside row ys in
    let lon : d.lon ≡ c.lon = multiples_same d.lon c.lon (n - 1) j held.sample.1 j_some j_inside column xs in
    ap₂ (λ (y x : ℤ). record { lat = y; lon = x }) (sym lat) lon

-- Only one tile has a point off the rim.
pub inner_only : (n : ℕ) (c : Corner) (e : ℕ) (p : Point) → 3 ≤ n → IsIndexOf n c p e → is_rim n e ≡ false → (d : Corner) → Holds n d p → d ≡ c
inner_only n c e p side at off d held =
    let i = at.sample.0 in
    let j = at.sample.1 in
    let here = at.sample.2.0 in
    let inner = inner_if n e side (index_below n c p e at) off in
    let row : e / n ≡ i = ap (λ v. v / n) at.sample.2.1 ∙ div-mul-add i n j here.column in
    let column : e % n ≡ j = ap (λ v. v % n) at.sample.2.1 ∙ mod-mul-add i n j here.column in
    let above : 1 ≤ i = subst (λ v. 1 ≤ v) row inner.above in
    let below : i + 2 ≤ n = subst (λ v. v + 2 ≤ n) row inner.below in
    let before : 1 ≤ j = subst (λ v. 1 ≤ v) column inner.before in
    let after : j + 2 ≤ n = subst (λ v. v + 2 ≤ n) column inner.after in
    inner_holder n c d p i j here (omega arith) (omega arith) (omega arith) (omega arith) held
