-- Paths over links up to some level to one node, and the least level at which there is such a path.
use Rattle.std.specs.Prelude.{◌≡◌, ℤ, ◌≤ℤ◌, List, [], ◌∷◌}

module _ {Q : Type 0} (IsLink : Q → Q → ℤ → Type 0) (out : Q) where
  -- a link leads from x to y at no more than the level
  abbrev pub IsLinkBelow : ℤ → Q → Q → Type 0
  IsLinkBelow level x y = (l : ℤ) × (IsLink x y l × (l ≤ℤ level))

  -- the nodes form a path from x to the outlet node, and each link on it has at most the level
  abbrev pub IsWayBelow : ℤ → Q → List Q → Type 0
  IsWayBelow level x [] = x ≡ out
  IsWayBelow level x (y ∷ rest) = IsLinkBelow level x y × IsWayBelow level y rest

  -- the level is the least at which a path leads from x to the outlet node
  pub record IsJoinedLevel (x : Q) (level : ℤ) : Type 0 where
    pub reached : (rest : List Q) × IsWayBelow level x rest
    pub least : (lower : ℤ) (rest : List Q) → IsWayBelow lower x rest → level ≤ℤ lower
