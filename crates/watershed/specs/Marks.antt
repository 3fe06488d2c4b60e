-- Which points are marked. Each point has a bit in a segment of 4,096 points of its row, in 64 words. The definitions are
-- this product's own.
use Rattle.std.specs.Prelude.{◌≡◌, ℕ, ◌+◌, ◌*◌, ◌/◌, ◌%◌, ◌<◌, pos, ◌+ℤ◌, ◌^◌, Option, Some, None, List, length, slice_index_or}
use Rattle.std.specs.Int.{bit_at}
use Rattle.std.specs.BTreeMap.{get}
use Rattle.std.specs.Ordering.{nat_cmp}
use Rattle.lattice.specs.declared.point.Point.{Point}
use Rattle.watershed.specs.declared.marks.Marks.{Marks}

-- the point has rank n: n points come before it, north first, then west first, among all points with 32-bit coordinates
pub record IsRank (p : Point) (n : ℕ) : Type 0 where
  pub row : (pos (n / 4294967296) +ℤ p.y) ≡ pos 2147483647
  pub column : (p.x +ℤ pos 2147483648) ≡ pos (n % 4294967296)

-- the place of the segment with this number
abbrev pub place_of : Marks → ℕ → Option ℕ
place_of marks number = get nat_cmp marks.places number

-- the k-th word of the segment at this place; 0 for None
abbrev pub word_in : List ℕ → Option ℕ → ℕ → ℕ
word_in words None k = 0
word_in words (Some place) k = slice_index_or words (place * 64 + k) 0

-- the word of the point with rank n
abbrev pub word_of : Marks → ℕ → ℕ
word_of marks n = word_in marks.words.items (place_of marks (n / 4096)) (n / 64 % 64)

pub record IsMarked (marks : Marks) (p : Point) : Type 0 where
  pub rank : ℕ
  pub is : IsRank p rank
  pub set : bit_at (word_of marks rank) (rank % 64) ≡ 1

-- each segment in the map is at its place, and each place is in the map
pub record IsIndexed (marks : Marks) : Type 0 where
  pub whole : length marks.words.items ≡ length marks.numbers.items * 64
  pub small : (k : ℕ) → k < length marks.numbers.items → slice_index_or marks.numbers.items k 0 < 2 ^ 52
  pub listed : (number place : ℕ) → place_of marks number ≡ Some place → (place < length marks.numbers.items) × (slice_index_or marks.numbers.items place 0 ≡ number)
  pub each : (k : ℕ) → k < length marks.numbers.items → place_of marks (slice_index_or marks.numbers.items k 0) ≡ Some k

-- p is among the first `count` points of the segment with this number, and its bit is set in the words at this place
pub record IsInSegment (words : List ℕ) (number place count : ℕ) (p : Point) : Type 0 where
  pub rank : ℕ
  pub is : IsRank p rank
  pub segment : rank / 4096 ≡ number
  pub low : rank % 4096 < count
  pub set : bit_at (slice_index_or words (place * 64 + rank / 64 % 64) 0) (rank % 64) ≡ 1

-- p is one of `count` points from rank `first` on, and its bit is set in the word
pub record IsInWord (bits first count : ℕ) (p : Point) : Type 0 where
  pub bit : ℕ
  pub is : IsRank p (first + bit)
  pub low : bit < count
  pub set : bit_at bits bit ≡ 1
