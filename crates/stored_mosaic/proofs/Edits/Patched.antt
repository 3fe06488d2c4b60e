-- Pages that a patch doesn't change.
use Rattle.stored_mosaic.proofs.Prelude.{All-contains, AreVoidTiles, Bool, Contains, Corner, IsMosaic, IsTile, List, Mosaic, Patch, Point, Tile, ℕ, ℤ, [], ap, ap₂, arith, cond, false, is_listed, length, nat_lt, or_parts, point_of, refl, subst, suc, sym, true, zero, ◌&&◌, ◌*◌, ◌+◌, ◌-◌, ◌/◌, ◌<◌, ◌∙◌, ◌∷◌, ◌≡◌, ◌≤◌}
use Rattle.edits.specs.Effect.{has_void_from, is_in_box, is_void_at}
use Rattle.stored_mosaic.specs.Underway.{filled, has_rows, last_in_page, LeavesPage}
use Rattle.stored_mosaic.proofs.Edits.PageRows.{passed_over}

-- A tile without a void point in the box has none at any index.
none_at : (m : Mosaic) (from to : Point) (c : Corner) (e : ℕ) (l : List ℤ) (k : ℕ) → k < length l → has_void_from m from to c e l ≡ false
    → (is_in_box from to (point_of m.side c (e + k)) && is_void_at m (point_of m.side c (e + k))) ≡ false
none_at m from to c e [] k below none = absurd (omega (arith, below))
none_at m from to c e (s ∷ rest) zero below none =
    ap (λ i. is_in_box from to (point_of m.side c i) && is_void_at m (point_of m.side c i)) (let same : e + 0 ≡ e = omega arith in same)
    ∙ (or_parts (is_in_box from to (point_of m.side c e) && is_void_at m (point_of m.side c e)) (has_void_from m from to c (e + 1) rest) none).0
none_at m from to c e (s ∷ rest) (suc k) below none =
    ap (λ i. is_in_box from to (point_of m.side c i) && is_void_at m (point_of m.side c i)) (let same : e + suc k ≡ e + 1 + k = omega arith in same)
    ∙ none_at m from to c (e + 1) rest k (omega (arith, below)) (or_parts (is_in_box from to (point_of m.side c e) && is_void_at m (point_of m.side c e)) (has_void_from m from to c (e + 1) rest) none).1

-- The index of a sample of page i is at most that of the page's last sample.
last_covers : (n i e : ℕ) → e < n * n → e / 2048 ≡ i → e ≤ last_in_page n i
last_covers n i e inside here = by (nat_lt (2048 * (i + 1)) (n * n))
  where
    by : (b : Bool) → e ≤ cond b (2048 * (i + 1) - 1) (n * n - 1)
    by true = omega (arith, here)
    by false = omega (arith, inside)

-- A page doesn't change if its tile has no void point in the box, or the page has no row of the box.
pub fills_leave : (n : ℕ) (m : Mosaic) (patch : Patch) (corners : List Corner) → IsMosaic m → m.side ≡ n → AreVoidTiles m patch.from patch.to corners → (t : Tile) → Contains m.tiles t → (c : Corner) → t.corner ≡ c → (i : ℕ)
    → (is_listed c corners && has_rows n c i patch) ≡ false → LeavesPage n (filled m patch) c i
fills_leave n m patch corners valid side finds t there c same i out e inside here s = by (is_listed c corners) refl out
  where
    p : Point
    p = point_of n c e

    filled_as : (is_in_box patch.from patch.to p && is_void_at m p) ≡ false → filled m patch p s ≡ s
    filled_as none = ap (λ b. cond b patch.height s) none

    by : (b : Bool) → is_listed c corners ≡ b → (b && has_rows n c i patch) ≡ false → filled m patch p s ≡ s
    by true listed off =
        let begins : 2048 * i ≤ e = omega (arith, here) in
        let some : 0 < n * n = omega (arith, inside) in
        filled_as (ap (λ b. b && is_void_at m p) (passed_over n c patch.from patch.to (2048 * i) (last_in_page n i) e some begins (last_covers n i e inside here) off))
    by false unlisted off =
        let long : length t.samples ≡ m.side * m.side = (All-contains (IsTile m.side) m.tiles t valid.tiles there).whole in
        let within : e < length t.samples = omega (arith, long, subst (λ (k : ℕ). e < k * k) (sym side) inside) in
        let none = none_at m patch.from patch.to t.corner 0 t.samples e within (sym (finds t there) ∙ ap (λ (d : Corner). is_listed d corners) same ∙ unlisted) in
        let point : point_of m.side t.corner (0 + e) ≡ p = ap (point_of m.side t.corner) (let sum : 0 + e ≡ e = omega arith in sum) ∙ ap₂ (λ (k : ℕ) (q : Corner). point_of k q e) side same in
        filled_as (ap (λ (q : Point). is_in_box patch.from patch.to q && is_void_at m q) (sym point) ∙ none)
