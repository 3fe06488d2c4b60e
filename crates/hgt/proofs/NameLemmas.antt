-- Names: the base name of a path, and the corner that letters and digits name.
use Rattle.std.proofs.Common.{◌≡◌, ◌≢◌, ℕ, ◌-◌, ◌<◌, ◌≤◌, ℤ, List, length, get_or, drop, true, false, ap, sym, subst, ◌∙◌, arith, nat_eq, IsTrue, Option, Some, None, inl, inr, rules}
use Rattle.std.specs.Prelude.{not, MatchOption, SomeIff, slice_range}
use Rattle.std.proofs.lemmas.List.Sums.{suffix_len_is}
use Rattle.std.proofs.lemmas.Bool.Decides.{nat_tests}
use Rattle.lattice.specs.Corners.{Corner, is_corner}
use Rattle.hgt.specs.Names.{base_name, IsDegrees, IsName, name_bytes}

is_slash : (c : ℕ) → c ≡ 47 → not (nat_eq c 47) ≡ false
is_slash c e = rw e

is_no_slash : (c : ℕ) → c ≢ 47 → not (nat_eq c 47) ≡ true
is_no_slash c e = grind (arith, nat_tests)

-- If a slash comes just before an index and none after it, the base name begins at the index.
pub base_name_from : (path : List ℕ) (n : ℕ) → n ≤ length path → (0 < n → get_or path (n - 1) 0 ≡ 47) → ((k : ℕ) → n ≤ k → k < length path → get_or path k 0 ≢ 47)
    → drop n path ≡ base_name path
base_name_from path n within here later =
    let from = suffix_len_is (λ (c : ℕ). not (nat_eq c 47)) path n 0 within
    (λ k low high. is_no_slash _ (later k low high))
    (λ some. is_slash _ (here some)) in
    ap (λ m. drop m path) (omega (arith, from))

-- A letter and digits have at most one value.
pub IsDegrees-same : (up down letter : ℕ) (digits : List ℕ) (v w : ℤ) → up ≢ down → IsDegrees up down letter digits v → IsDegrees up down letter digits w → v ≡ w
IsDegrees-same up down letter digits v w apart (a, inl x) (b, inl y) = x.1 ∙ sym y.1
IsDegrees-same up down letter digits v w apart (a, inl x) (b, inr y) = absurd (apart (sym x.0 ∙ y.0))
IsDegrees-same up down letter digits v w apart (a, inr x) (b, inl y) = absurd (apart (sym y.0 ∙ x.0))
IsDegrees-same up down letter digits v w apart (a, inr x) (b, inr y) = x.1 ∙ sym y.1

-- If the letters and digits have these values, the corner is the one at these degrees, if there is one.
pub named : (text : List ℕ) (lat lon m n : ℤ) (r : Option Corner) → length text ≡ 7
    → IsDegrees 78 83 (get_or text 0 0) (slice_range text 1 3) lat → IsDegrees 69 87 (get_or text 3 0) (slice_range text 4 7) lon
    → m ≡ lat → n ≡ lon → SomeIff r (IsTrue (is_corner (record { lat = m; lon = n }))) (record { lat = m; lon = n })
    → MatchOption r ((c : Corner) → ¬ IsName text c) (IsName text)
named text lat lon m n None whole is_lat is_lon same_lat same_lon none = λ c is.
    let lat_is : m ≡ c.lat = same_lat ∙ IsDegrees-same 78 83 (get_or text 0 0) (slice_range text 1 3) lat c.lat (λ e. omega arith) is_lat is.lat in
    let lon_is : n ≡ c.lon = same_lon ∙ IsDegrees-same 69 87 (get_or text 3 0) (slice_range text 4 7) lon c.lon (λ e. omega arith) is_lon is.lon in
    let here : IsTrue (is_corner (record { lat = m; lon = n })) = rw (lat_is, lon_is) is.corner in
    none here
named text lat lon m n (Some c) whole is_lat is_lon same_lat same_lon some =
    let there : IsName text (record { lat = m; lon = n }) = record { whole = whole; lat = rw same_lat is_lat; lon = rw same_lon is_lon; corner = some.0 } in
    subst (IsName text) (sym some.1) there

pub IsName-name_bytes : (c : Corner) → IsTrue (is_corner c) → IsName (name_bytes c) c
IsName-name_bytes c is = search rules

pub IsName-same : (text : List ℕ) (c d : Corner) → IsName text c → IsName text d → c ≡ d
IsName-same text c d is_c is_d = search rules
