-- Every ground point of a mosaic has a path to an outlet: northwards, until no ground point is adjacent in the north.
use Rattle.lattice.proofs.Prelude.{Bool, IsMosaic, IsTile, IsTrue, LeadsOut, List, Mosaic, Point, Tile, ℕ, ℤ, [], and_from, and_parts, arith, by_seam_rule, cases_Bool, cond, false, holds, inl, inr, ints, list_any, lt-ltb, map, mul-le-mul_left, nat_abs, negsuc, or_cases, or_left, or_right, pos, sample_at, step, subst, suc, sym, true, true≢false, zero, ⊎_elim, ◌*ℤ◌, ◌*◌, ◌+ℤ◌, ◌+◌, ◌-ℤ◌, ◌-◌, ◌<ℤ◌, ◌<◌, ◌||◌, ◌∷◌, ◌≡◌, ◌≤ℤ◌, ◌≤◌}
use Rattle.std.specs.Prelude.{nat_lt, All, int_le, filter}
use Rattle.lattice.specs.declared.direction.Dir.TheVariants.{North}
use Rattle.lattice.specs.Ground.{is_ground, is_height, is_adjacent, is_sink, degree_of, terrain}
use Rattle.lattice.proofs.BoolTests.{one_at_most}
use Rattle.lattice.proofs.IntTests.{le_true}
use Rattle.lattice.proofs.Lawful.{terrain_is_lawful}

none : (b : Bool) → b ≡ false → cond b 1 0 ≤ 0
none true off = absurd (true≢false off)
none false off = omega arith

few : (a b c d e f g h : ℕ) → a ≤ 1 → b ≤ 1 → c ≤ 1 → d ≤ 1 → e ≤ 1 → f ≤ 1 → g ≤ 0 → h ≤ 1 → 0 + a + b + c + d + e + f + g + h < 8
few a b c d e f g h la lb lc ld le lf lg lh = omega arith

-- A point without an adjacent point to its north has fewer than eight adjacent points.
degree_few : (m : Mosaic) (p : Point) → is_adjacent m p (step North p) ≡ false → degree_of m p < 8
degree_few m p off = few _ _ _ _ _ _ _ _ (one_at_most _) (one_at_most _) (one_at_most _) (one_at_most _) (one_at_most _) (one_at_most _) (none _ off) (one_at_most _)

-- Some present tile has each ground point.
pub held : (n : ℕ) (p : Point) (tiles : List Tile) → IsTrue (is_height (by_seam_rule (map (λ t. sample_at n t p) (filter (λ t. holds n t.corner p) tiles)))) →
    IsTrue (list_any (λ t. holds n t.corner p) tiles)
held n p [] h = absurd (true≢false (sym h))
held n p (t ∷ rest) h = elim (cases_Bool (holds n t.corner p)) [
  | inl on ↦ or_left (holds n t.corner p) _ on
  | inr off ↦ or_right (holds n t.corner p) _ (held n p rest (subst (λ b. IsTrue (is_height (by_seam_rule (map (λ t. sample_at n t p) (cond b (t ∷ filter (λ t. holds n t.corner p) rest) (filter (λ t. holds n t.corner p) rest)))))) off h))
]

-- No edge is farther north than that of the northernmost corner.
scaled : (a : ℤ) (k : ℕ) → (a ≤ℤ pos 89) → ((a *ℤ pos k) ≤ℤ pos (89 * k))
scaled (pos x) k le = let small : x ≤ 89 = omega (arith, ints) in omega (arith, ints, mul-le-mul_left k small)
scaled (negsuc x) k le = omega (arith, ints)

north : (n : ℕ) (p : Point) (t : Tile) → IsTile n t → IsTrue (holds n t.corner p) → p.y ≤ℤ pos (90 * (n - 1))
north n p t is here =
    let along = and_parts (int_le (t.corner.lat *ℤ pos (n - 1)) p.y) _ (and_parts _ _ here).0 in
    let corner = and_parts (int_le (negsuc 89) t.corner.lat) (int_le t.corner.lat (pos 89)) (and_parts _ _ (and_parts _ _ is.corner).0).0 in
    let low : t.corner.lat ≤ℤ pos 89 = le_true _ _ corner.1 in
    let edge : p.y ≤ℤ (t.corner.lat *ℤ pos (n - 1) +ℤ pos (n - 1)) = le_true _ _ along.1 in
    omega (arith, ints, scaled t.corner.lat (n - 1) low)

-- One of the tiles extends as far north as the point.
reaches : (n : ℕ) (p : Point) (tiles : List Tile) → All (IsTile n) tiles → IsTrue (list_any (λ t. holds n t.corner p) tiles) → p.y ≤ℤ pos (90 * (n - 1))
reaches n p [] whole h = absurd (true≢false (sym h))
reaches n p (t ∷ rest) whole h =
    ⊎_elim (λ here. north n p t (whole 0 t (omega arith)) here) (λ later. reaches n p rest (λ k d lt. whole (suc k) d (omega arith)) later) (or_cases (holds n t.corner p) _ h)

module _ (m : Mosaic) (is : IsMosaic m) where
  -- No point is north of the northernmost latitude.
  top : (p : Point) → IsTrue (is_ground m p) → p.y ≤ℤ pos (90 * (m.side - 1))
  top p solid = reaches m.side p m.tiles is.tiles (held m.side p m.tiles solid)

  climb : (k : ℕ) (p : Point) → IsTrue (is_ground m p) → (pos (90 * (m.side - 1)) -ℤ p.y) <ℤ pos k → (rest : List Point) × LeadsOut (terrain m) p rest
  climb zero p solid near = let high = top p solid in absurd (omega (arith, ints))
  climb (suc k) p solid near = elim (cases_Bool (is_adjacent m p (step North p))) [
    | inl on ↦
        let further = climb k (step North p) ((terrain_is_lawful m).to_ground p (step North p) on) (omega (arith, ints)) in
        (step North p ∷ further.0, record { path = (on, further.1.path); outlet = further.1.outlet })
    | inr off ↦ ([], record { path = solid; outlet = and_from (is_ground m p) (nat_lt (degree_of m p) 8 || is_sink m p) solid (or_left (nat_lt (degree_of m p) 8) (is_sink m p) (lt-ltb (degree_of m p) 8 (degree_few m p off))) })
  ]

  pub way_out : (p : Point) → IsTrue (is_ground m p) → (rest : List Point) × LeadsOut (terrain m) p rest
  way_out p solid = climb (suc (nat_abs (pos (90 * (m.side - 1)) -ℤ p.y))) p solid (omega (arith, ints))
