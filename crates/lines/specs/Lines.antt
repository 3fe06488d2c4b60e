-- Lines and payloads as the reader takes them (defined by this product).
use Rattle.std.specs.Prelude.{◌≡◌, ◌≢◌, ℕ, ◌<◌, List, [], ◌∷◌, All, length, Option, Some, None, nat_le, if◌then◌else◌}
use Rattle.std.specs.Coded.{Coded, coded_list, coded_ℕ, coded_option}
use Rattle.lines.specs.declared.source.Extent.{Extent}
use Rattle.lines.specs.declared.source.Extent.TheVariants.{Whole, Cut}

-- the bytes of one line, without an LF
abbrev pub IsLine : List ℕ → Type 0
IsLine text = All (λ b. b ≢ 10) text

-- the LF that ended a line, if one did
abbrev pub line_feed : Extent → List ℕ
line_feed Whole = 10 ∷ []
line_feed Cut = []

-- a line of at most 2048 bytes, or None if it is longer
abbrev pub kept : List ℕ → Option (List ℕ)
kept text = if nat_le (length text) 2048 then Some text else None

abbrev pub line_code : Coded (Option (List ℕ))
line_code = coded_option (coded_list coded_ℕ)

-- how many bytes of a payload of this length were read
abbrev pub Reaches : Extent → ℕ → ℕ → Type 0
Reaches Whole count len = count ≡ len
Reaches Cut count len = count < len
