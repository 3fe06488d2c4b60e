-- Heights are numbers of 16 bits, as samples are.
use Rattle.lattice.proofs.Prelude.{List, Point, ℕ, ℤ, [], arith, cond, false, get_or, holds, index_of, int_lt, int_max, ints, map, suc, true, zero, ◌∷◌}
use Rattle.std.specs.List.{All, filter}
use Rattle.std.proofs.lemmas.List.Elements.{All-nil, All-cons, All-head, All-tail}
use Rattle.lattice.specs.declared.height.Height.TheVariants.{At}
use Rattle.lattice.specs.Mosaic.{Tile, Mosaic, IsTile, IsMosaic, IsSample, is_void, void}
use Rattle.lattice.specs.Height.{sample_at, samples_at, first_height, by_seam_rule, height_of}
use Rattle.lattice.specs.Ground.{metres}

void_is_sample : IsSample void
void_is_sample = (omega (arith, ints), omega (arith, ints))

pub max_is_sample : (a b : ℤ) → IsSample a → IsSample b → IsSample (int_max a b)
max_is_sample a b one other = elim (int_lt b a) as (λ v. IsSample (cond v a b)) [ true ↦ one | false ↦ other ]

-- the sample of a point in a tile
tile_says_sample : (n : ℕ) (t : Tile) (p : Point) → IsTile n t → IsSample (sample_at n t p)
tile_says_sample n t p tile = by t.samples (index_of n t.corner p) tile.samples
  where
    by : (l : List ℤ) (i : ℕ) → All IsSample l → IsSample (get_or l i void)
    by [] i all = void_is_sample
    by (s ∷ rest) zero all = All-head IsSample s rest all
    by (s ∷ rest) (suc i) all = by rest i (All-tail IsSample s rest all)

samples_at_are : (n : ℕ) (ts : List Tile) (p : Point) → All (IsTile n) ts → All IsSample (map (λ t. sample_at n t p) (filter (λ t. holds n t.corner p) ts))
samples_at_are n [] p all = All-nil IsSample
samples_at_are n (t ∷ ts) p all = elim (holds n t.corner p) as (λ b. All IsSample (map (λ u. sample_at n u p) (cond b (t ∷ filter (λ u. holds n u.corner p) ts) (filter (λ u. holds n u.corner p) ts)))) [
  | true ↦ All-cons IsSample (sample_at n t p) (map (λ u. sample_at n u p) (filter (λ u. holds n u.corner p) ts)) (tile_says_sample n t p (All-head (IsTile n) t ts all)) (samples_at_are n ts p (All-tail (IsTile n) t ts all))
  | false ↦ samples_at_are n ts p (All-tail (IsTile n) t ts all)
]

first_is_sample : (l : List ℤ) → All IsSample l → IsSample (metres (first_height l))
first_is_sample [] all = void_is_sample
first_is_sample (s ∷ rest) all = elim (is_void s) as (λ b. IsSample (metres (cond b (first_height rest) (At s)))) [
  | true ↦ first_is_sample rest (All-tail IsSample s rest all)
  | false ↦ All-head IsSample s rest all
]

-- a height is a number of 16 bits
pub metres_are_sample : (m : Mosaic) (p : Point) → IsMosaic m → IsSample (metres (height_of m p))
metres_are_sample m p valid = by (samples_at m p) (samples_at_are m.side m.tiles p valid.tiles)
  where
    by : (l : List ℤ) → All IsSample l → IsSample (metres (by_seam_rule l))
    by [] all = void_is_sample
    by (s ∷ rest) all = first_is_sample (s ∷ rest) all
