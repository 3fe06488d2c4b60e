-- The terrain of a mosaic is a grid: adjacent points are a step apart, and all ground is above the void.
use Rattle.std.proofs.Common.{rules}
use Rattle.std.proofs.Common.{◌≡◌, ℕ, suc, ◌<◌, ℤ, pos, negsuc, ◌+ℤ◌, ◌-ℤ◌, ◌≤ℤ◌, ◌⊎◌, inl, inr, ⊎_elim, true, false, not, List, [], ◌∷◌, sym, ap₂, ◌∙◌, subst, arith, nat_abs, true≢false, nat_lt, int_lt, All, filter, slice_index_or, if◌then◌else◌, cond, map, length}
use Rattle.water.specs.Grid.{IsGrid}
use Rattle.lattice.proofs.Lawful.{five_parts, terrain_is_lawful}
use Rattle.std.proofs.lemmas.List.{get_or_past}
use Rattle.std.specs.Ordering.{int_eq}
use Rattle.std.proofs.lemmas.Int.{ints}
use Rattle.lattice.proofs.Levels.{≤ℤ_same}
use Rattle.std.proofs.lemmas.Bool.{ltb-true, not-true, cases_Bool, cases_lt, and_parts, and_from}
use Rattle.lattice.specs.declared.point.Point.{Point}
use Rattle.lattice.specs.declared.direction.Dir.{Dir}
use Rattle.lattice.specs.declared.direction.Dir.TheVariants.{East, SouthEast, South, SouthWest, West, NorthWest, North, NorthEast}
use Rattle.lattice.specs.Steps.{step}
use Rattle.lattice.specs.declared.height.Height.TheVariants.{At}
use Rattle.lattice.specs.Lattice.{holds, index_of}
use Rattle.lattice.specs.Mosaic.{Mosaic, Tile, IsMosaic, IsTile, IsSample, void, is_void}
use Rattle.lattice.specs.Height.{sample_at, samples_at, first_height, by_seam_rule}
use Rattle.lattice.specs.Ground.{is_ground, same_point, is_near, share_tile, terrain, metres}
use Rattle.lattice.proofs.IntTests.{lt_true, lt_false, eq_from}
use Rattle.lattice.specs.Terrain.{IsFilledLevel, IsPath}
use Rattle.std.specs.Prelude.{IsTrue}

shifted : (a b : ℤ) → nat_abs (a -ℤ b) < 2 → (b ≡ a +ℤ pos 0) ⊎ ((b ≡ a +ℤ pos 1) ⊎ (b ≡ a +ℤ negsuc 0))
shifted a b near = search rules

at : (q : Point) (y x : ℤ) → q.y ≡ y → q.x ≡ x → q ≡ record { y = y; x = x }
at q y x hy hx = ap₂ (λ (v w : ℤ). record { y = v; x = w }) hy hx

unfoldable pub Away : Point → Point → Type 0
Away p q = (d : Dir) × (q ≡ step d p)

in_row : (p q : Point) (same : same_point p q ≡ false) → q.y ≡ p.y +ℤ pos 0 → (q.x ≡ p.x +ℤ pos 0) ⊎ ((q.x ≡ p.x +ℤ pos 1) ⊎ (q.x ≡ p.x +ℤ negsuc 0)) → Away p q
unfolding Away
in_row p q same hy (inl hx) = absurd (true≢false (sym (and_from (int_eq p.y q.y) (int_eq p.x q.x) (eq_from p.y q.y (omega (arith, ints))) (eq_from p.x q.x (omega (arith, ints)))) ∙ same))
in_row p q same hy (inr (inl hx)) = (East, at q (p.y +ℤ pos 0) (p.x +ℤ pos 1) hy hx)
in_row p q same hy (inr (inr hx)) = (West, at q (p.y +ℤ pos 0) (p.x +ℤ negsuc 0) hy hx)

to_north : (p q : Point) → q.y ≡ p.y +ℤ pos 1 → (q.x ≡ p.x +ℤ pos 0) ⊎ ((q.x ≡ p.x +ℤ pos 1) ⊎ (q.x ≡ p.x +ℤ negsuc 0)) → Away p q
unfolding Away
to_north p q hy (inl hx) = (North, at q (p.y +ℤ pos 1) (p.x +ℤ pos 0) hy hx)
to_north p q hy (inr (inl hx)) = (NorthEast, at q (p.y +ℤ pos 1) (p.x +ℤ pos 1) hy hx)
to_north p q hy (inr (inr hx)) = (NorthWest, at q (p.y +ℤ pos 1) (p.x +ℤ negsuc 0) hy hx)

to_south : (p q : Point) → q.y ≡ p.y +ℤ negsuc 0 → (q.x ≡ p.x +ℤ pos 0) ⊎ ((q.x ≡ p.x +ℤ pos 1) ⊎ (q.x ≡ p.x +ℤ negsuc 0)) → Away p q
unfolding Away
to_south p q hy (inl hx) = (South, at q (p.y +ℤ negsuc 0) (p.x +ℤ pos 0) hy hx)
to_south p q hy (inr (inl hx)) = (SouthEast, at q (p.y +ℤ negsuc 0) (p.x +ℤ pos 1) hy hx)
to_south p q hy (inr (inr hx)) = (SouthWest, at q (p.y +ℤ negsuc 0) (p.x +ℤ negsuc 0) hy hx)

pub away : (p q : Point) → same_point p q ≡ false → is_near p q ≡ true → Away p q
away p q same near =
    let parts = and_parts (nat_lt (nat_abs (p.y -ℤ q.y)) 2) (nat_lt (nat_abs (p.x -ℤ q.x)) 2) near in
    let xs = shifted p.x q.x (ltb-true _ _ parts.1) in
    ⊎_elim (λ row. in_row p q same row xs) (λ other. ⊎_elim (λ north. to_north p q north xs) (λ south. to_south p q south xs) other)
    (shifted p.y q.y (ltb-true _ _ parts.0))

-- the first height among samples above the void is above the void
abbrev Holds : List ℤ → Type 0
Holds samples = void ≤ℤ metres (first_height samples)

one_more : (s : ℤ) (later : List ℤ) → void ≤ℤ s → Holds later → Holds (s ∷ later)
one_more s later low rest = elim (is_void s) as (λ b. void ≤ℤ metres (if b then first_height later else At s)) [ true ↦ rest | false ↦ low ]

sample_low : (samples : List ℤ) (e : ℕ) → All IsSample samples → void ≤ℤ slice_index_or samples e void
sample_low samples e all = elim (cases_lt e (length samples)) [
  | inl within ↦ (all e void within).0
  | inr past ↦ subst (λ v. void ≤ℤ v) (sym (get_or_past samples e void past)) (≤ℤ_same void)
]

all_low : (n : ℕ) (p : Point) (tiles : List Tile) → All (IsTile n) tiles → Holds (map (λ t. sample_at n t p) (filter (λ t. holds n t.corner p) tiles))
all_low n p [] whole = ≤ℤ_same void
all_low n p (t ∷ rest) whole =
    let later = all_low n p rest (λ k d lt. whole (suc k) d (omega arith)) in
    elim (holds n t.corner p) as (λ b. Holds (map (λ t. sample_at n t p) (cond b (t ∷ filter (λ t. holds n t.corner p) rest) (filter (λ t. holds n t.corner p) rest)))) [
      | true ↦ one_more (sample_at n t p) (map (λ t. sample_at n t p) (filter (λ t. holds n t.corner p) rest)) (sample_low t.samples (index_of n t.corner p) (whole 0 t (omega arith)).samples) later
      | false ↦ later
    ]

by_rule : (samples : List ℤ) → Holds samples → void ≤ℤ metres (by_seam_rule samples)
by_rule [] h = h
by_rule (s ∷ later) h = h

pub mosaic_is_grid : (m : Mosaic) → IsMosaic m → IsGrid (terrain m) void
unfolding Away
mosaic_is_grid m is = record {
  lawful = terrain_is_lawful m;
  steps = λ p q h. let parts = five_parts (is_ground m p) (is_ground m q) (not (same_point p q)) (is_near p q) (share_tile m p q) h in
      away p q (not-true (same_point p q) parts.third) parts.fourth;
  bottom_below = λ p solid. by_rule (samples_at m p) (all_low m.side p m.tiles is.tiles);
}

-- a point with a filled level is ground
pub level_ground : (m : Mosaic) → (p : Point) (v : ℤ) → IsFilledLevel (terrain m) p v → IsTrue (is_ground m p)
level_ground m p v filled = from filled.reached.0 filled.reached.1.0.path
  where
    from : (rest : List Point) → IsPath (terrain m) p rest → IsTrue (is_ground m p)
    from [] path = path
    from (y ∷ rest) path = (terrain_is_lawful m).from_ground p y path.0
