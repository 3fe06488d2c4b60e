-- Marks of two bits, 32 in a word.
use Rattle.std.specs.Prelude.{ℕ, ◌*◌, ◌/◌, ◌%◌, ◌^◌, List, map, slice_index_or}
use Rattle.std.specs.List.{range_with_len}

abbrev pub mark_of : ℕ → ℕ → ℕ
mark_of word place = word / 2 ^ (2 * place) % 4

abbrev pub mark_in : List ℕ → ℕ → ℕ
mark_in words k = mark_of (slice_index_or words (k / 32) 0) (k % 32)

abbrev pub marks_in : List ℕ → ℕ → List ℕ
marks_in words count = map (mark_in words) (range_with_len 0 count)
