-- What the calls of a disk do to its sectors and counts. Source: this product's own disk model.
use Rattle.std.specs.Prelude.{◌≡◌, ◌≢◌, ◌⊎◌, ℕ, ◌+◌, ◌≤◌, min, List, Result, IsOk, IsErr}

-- the contents of each sector, by its number
abbrev pub Image : Type 0
Image = ℕ → List ℕ

-- Two images are equal except in one sector.
abbrev pub SameBut : ℕ → Image → Image → Type 0
SameBut s a b = (k : ℕ) → k ≢ s → a k ≡ b k

-- The image is one of these images, with any bytes in one sector.
abbrev pub TornAt : ℕ → (Image → Type 0) → Image → Type 0
TornAt s images c = (d : Image) × images d × SameBut s d c

-- Each new image is also an old one.
abbrev pub NoneNew : (Image → Type 0) → (Image → Type 0) → Type 0
NoneNew old new = (c : Image) → new c → old c

-- This image is the only one that these images may contain.
abbrev pub Only : Image → (Image → Type 0) → Type 0
Only image images = (c : Image) → images c → c ≡ image

-- the number, or the largest 64-bit number if that is less
abbrev pub saturated : ℕ → ℕ
saturated n = min n 18446744073709551615

-- the number plus one, at most the largest 64-bit number
abbrev pub counted : ℕ → ℕ
counted n = saturated (n + 1)

-- A count has risen, or it is the largest 64-bit number.
abbrev pub HasRisen : ℕ → ℕ → Type 0
HasRisen before now = counted before ≤ now

-- The count of failures rises if the call fails, and only then.
pub record CountsFault {T E : Type 0} (before now : ℕ) (result : Result T E) : Type 0 where
  pub later : before ≤ now
  pub ok : IsOk result → now ≡ before
  pub failed : IsErr result → now ≡ counted before

-- Time passes over one call: a stop since t might have left an image that it might have left before, or one that the
-- call added.
pub record Elapses (before now : ℕ) (past since : ℕ → Image → Type 0) (added : Image → Type 0) : Type 0 where
  pub later : before ≤ now
  pub nothing_else : (t : ℕ) (c : Image) → t ≤ before → since t c → past t c ⊎ added c
  pub keeps : (t : ℕ) (c : Image) → t ≤ before → past t c → since t c

-- no image: what a call adds that changes no sector
abbrev pub Nothing : Image → Type 0
Nothing c = ⊥
