-- Names of tiles (SRTM documentation: N or S and two digits of latitude, E or W and three digits of longitude, of the
-- tile's south-west sample) and of their files (defined by this product).
use Rattle.std.specs.Prelude.{◌≡◌, ◌⊎◌, ℕ, ◌+◌, ◌-◌, ◌*◌, ◌/◌, ◌%◌, ◌≤◌, ℤ, pos, neg_ℤ, int_lt, nat_abs, IsTrue, ◌==◌, if◌then◌else◌, List, [], ◌∷◌, ◌++◌, length, All, slice_index, slice_range, take, drop, fold, codes}
use Rattle.std.specs.List.{after_last}
use Rattle.std.specs.Char.{IsAsciiDigit, to_ascii_uppercase}
use Rattle.std.specs.Str.{str_to_ascii_lowercase, byte}
use Rattle.lattice.specs.Corners.{Corner, is_corner}

-- the number that decimal digits spell, most significant first
abbrev pub decimal : List ℕ → ℕ
decimal digits = fold (λ value digit. 10 * value + (digit - byte "0")) 0 digits

-- a letter in either case, for values from zero up or from zero down, and its digits
abbrev pub IsDegrees : ℕ → ℕ → ℕ → List ℕ → ℤ → Type 0
IsDegrees up down letter digits value = All IsAsciiDigit digits
    × (((to_ascii_uppercase letter ≡ up) × (value ≡ pos (decimal digits))) ⊎ ((to_ascii_uppercase letter ≡ down) × (value ≡ neg_ℤ (pos (decimal digits)))))

-- the text is a name of the corner
pub record IsName (text : List ℕ) (c : Corner) : Type 0 where
  pub whole : length text ≡ 7
  pub lat : IsDegrees (byte "N") (byte "S") (slice_index text 0) (slice_range text 1 3) c.lat
  pub lon : IsDegrees (byte "E") (byte "W") (slice_index text 3) (slice_range text 4 7) c.lon
  pub corner : IsTrue (is_corner c)

-- the text after the last slash of a path
abbrev pub base_name : List ℕ → List ℕ
base_name path = after_last (λ c. c == byte "/") path

-- The path is that of a file with the corner's tile: its base name begins with a name and ends in .hgt, in any case.
pub record IsFileName (path : List ℕ) (c : Corner) : Type 0 where
  pub long : 11 ≤ length (base_name path)
  pub ending : str_to_ascii_lowercase (drop (length (base_name path) - 4) (base_name path)) ≡ codes ".hgt"
  pub name : IsName (take 7 (base_name path)) c

-- The name as it is printed.

abbrev pub letter_of : ℕ → ℕ → ℤ → ℕ
letter_of up down value = if int_lt value (pos 0) then down else up

abbrev pub two_digits : ℕ → List ℕ
two_digits n = (byte "0" + n / 10) ∷ (byte "0" + n % 10) ∷ []

abbrev pub three_digits : ℕ → List ℕ
three_digits n = (byte "0" + n / 100) ∷ two_digits (n % 100)

abbrev pub name_bytes : Corner → List ℕ
name_bytes c = (letter_of (byte "N") (byte "S") c.lat ∷ two_digits (nat_abs c.lat)) ++ (letter_of (byte "E") (byte "W") c.lon ∷ three_digits (nat_abs c.lon))
