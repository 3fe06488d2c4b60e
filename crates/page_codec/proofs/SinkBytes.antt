-- The bytes of a sink, which spell one sink only.
use Rattle.std.proofs.Common.{◌≡◌, ℕ, ◌-◌, ◌*◌, ◌≤◌, ℤ, pos, ◌+ℤ◌, ◌*ℤ◌, IsTrue, List, [], ◌++◌, length, sym, ap, ◌∙◌, arith, append_assoc}
use Rattle.std.specs.Prelude.{unsigned_abs}
use Rattle.page_codec.proofs.Prelude.{FitsSigned, IsHeld, IsSide, Point, and_parts, flat_map, is_corner, length-append, w32}
use Rattle.std.proofs.lemmas.Int.{ints, unsigned_abs-mul, fits_signed_from_abs}
use Rattle.std.proofs.Math.Nat.{mul-le-mul}
use Rattle.lattice.specs.Lattice.{is_along}
use Rattle.lattice.proofs.Along.{steps}
use Rattle.page_codec.specs.Numbers.{i32_bytes}
use Rattle.lattice.proofs.SamePoints.{same_place}
use Rattle.page_codec.specs.Sinks.{sink_bytes}
use Rattle.page_codec.proofs.Fields.{same_i32, length-i32_bytes}
use Rattle.page_codec.proofs.Items.{SpellsOne, length_items}

-- Degrees, counted in samples, are small.
edge_small : (degrees : ℤ) (m : ℕ) → unsigned_abs degrees ≤ 180 → m ≤ 3600 → unsigned_abs (degrees *ℤ pos m) ≤ 648000
edge_small degrees m few le = omega (arith, unsigned_abs-mul degrees (pos m), mul-le-mul {n₁ = unsigned_abs degrees} {m₁ = m} {n₂ = 180} {m₂ = 3600} few le)

fits_near : (v edge : ℤ) (j : ℕ) → unsigned_abs edge ≤ 648000 → j ≤ 3600 → v ≡ edge +ℤ pos j → FitsSigned w32 v
fits_near v edge j small le is = fits_signed_from_abs w32 v (grind (arith, ints))

-- A value between the two edges of a tile fits its bytes.
fits_along : (m : ℕ) (degrees v : ℤ) → unsigned_abs degrees ≤ 180 → m ≤ 3600 → IsTrue (is_along (pos m) degrees v) → FitsSigned w32 v
fits_along m degrees v few le along =
    let at = steps m degrees v along in
    fits_near v (degrees *ℤ pos m) at.0 (edge_small degrees m few le) (omega (arith, at.1.0, le)) at.1.1

-- the coordinates of a sink fit their bytes
pub sink_fits : (side : ℕ) (p : Point) → IsSide side → IsHeld side p → FitsSigned w32 p.y × FitsSigned w32 p.x
sink_fits side p known sink =
    let c = sink.0 in
    let corner : IsTrue (is_corner c) = sink.1.0 in
    let along = and_parts (is_along (pos (side - 1)) c.lat p.y) (is_along (pos (side - 1)) c.lon p.x) sink.1.1 in
    let lat : unsigned_abs c.lat ≤ 180 = grind (arith, ints, corner) in
    let lon : unsigned_abs c.lon ≤ 180 = grind (arith, ints, corner) in
    let m : side - 1 ≤ 3600 = omega (arith, known.1) in
    (fits_along (side - 1) c.lat p.y lat m along.0, fits_along (side - 1) c.lon p.x lon m along.1)

pub length-sink_bytes : (p : Point) → length (sink_bytes p) ≡ 8
unfolding sink_bytes
length-sink_bytes p = omega (arith, length-append (i32_bytes p.y) (i32_bytes p.x), length-i32_bytes p.y, length-i32_bytes p.x)

-- Points whose coordinates fit and whose bytes are equal are equal.
same_sink_bytes : (a b : Point) (x y : List ℕ) → FitsSigned w32 a.y × FitsSigned w32 a.x → FitsSigned w32 b.y × FitsSigned w32 b.x → sink_bytes a ++ x ≡ sink_bytes b ++ y → (a ≡ b) × (x ≡ y)
unfolding sink_bytes
same_sink_bytes a b x y p q e =
    let parts : i32_bytes a.y ++ (i32_bytes a.x ++ x) ≡ i32_bytes b.y ++ (i32_bytes b.x ++ y) = sym (append_assoc (i32_bytes a.y) (i32_bytes a.x) x) ∙ e ∙ append_assoc (i32_bytes b.y) (i32_bytes b.x) y in
    let first = same_i32 a.y b.y (i32_bytes a.x ++ x) (i32_bytes b.x ++ y) p.0 q.0 parts in
    let second = same_i32 a.x b.x x y p.1 q.1 first.1 in
    (same_place a b first.0 second.0, second.1)

pub one_sink : (side : ℕ) → IsSide side → SpellsOne sink_bytes (IsHeld side)
one_sink side known = record { same = λ a b x y p q e. same_sink_bytes a b x y (sink_fits side a known p) (sink_fits side b known q) e }

-- A point whose coordinates fit has the bytes of no other sink.
pub same_sink : (side : ℕ) (a b : Point) → IsSide side → FitsSigned w32 a.y → FitsSigned w32 a.x → IsHeld side b → sink_bytes a ≡ sink_bytes b → a ≡ b
same_sink side a b known y x sink same = (same_sink_bytes a b [] [] (y, x) (sink_fits side b known sink) (ap (λ (l : List ℕ). l ++ []) same)).0

pub length_sinks : (sinks : List Point) → length (flat_map sink_bytes sinks) ≡ 8 * length sinks
length_sinks sinks = length_items sink_bytes 8 length-sink_bytes sinks
