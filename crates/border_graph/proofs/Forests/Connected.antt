-- Places that are joined by paths at no more than a level.
use Rattle.border_graph.proofs.Prelude.{AreJoined, Contains, IsPass, IsWayBelow, List, Pass, ℕ, ℤ, [], inl, inr, refl, ◌∷◌, ◌≤ℤ◌}
use Rattle.border_graph.proofs.Onward.{go_on}

-- a path over some links is a path over a larger set of links
pub over_more : (L L' : ℕ → ℕ → ℤ → Type 0) → ((x y : ℕ) (l : ℤ) → L x y l → L' x y l) → (out : ℕ) (level : ℤ) (x : ℕ) (rest : List ℕ) → IsWayBelow L out level x rest → IsWayBelow L' out level x rest
over_more L L' more out level x [] way = way
over_more L L' more out level x (y ∷ rest) way = ((way.0.0, (more x y way.0.0 way.0.1.0, way.0.1.1)), over_more L L' more out level y rest way.1)

pub more_passes : (some all : List Pass) → ((p : Pass) → Contains some p → Contains all p) → (x y : ℕ) (l : ℤ) → IsPass some x y l → IsPass all x y l
more_passes some all more x y l (inl there) = inl (more (record { level = l; a = x; b = y }) there)
more_passes some all more x y l (inr back) = inr (more (record { level = l; a = y; b = x }) back)

module _ (passes : List Pass) (level : ℤ) where
  pub joined_self : (x : ℕ) → AreJoined passes level x x
  joined_self x = (([], refl), ([], refl))

  pub joined_turn : (x y : ℕ) → AreJoined passes level x y → AreJoined passes level y x
  joined_turn x y j = (j.1, j.0)

  pub joined_on : (x y z : ℕ) → AreJoined passes level x y → AreJoined passes level y z → AreJoined passes level x z
  joined_on x y z j k = (go_on (IsPass passes) y z level x j.0.0 k.0.0 j.0.1 k.0.1, go_on (IsPass passes) y x level z k.1.0 j.1.0 k.1.1 j.1.1)

  pub joined_by : (x y : ℕ) (l : ℤ) → l ≤ℤ level → Contains passes (record { level = l; a = x; b = y }) → AreJoined passes level x y
  joined_by x y l low has = ((y ∷ [], ((l, (inl has, low)), refl)), (x ∷ [], ((l, (inr has, low)), refl)))

pub joined_more : (some all : List Pass) → ((p : Pass) → Contains some p → Contains all p) → (level : ℤ) (x y : ℕ) → AreJoined some level x y → AreJoined all level x y
joined_more some all more level x y j = ((j.0.0, over_more (IsPass some) (IsPass all) (more_passes some all more) y level x j.0.0 j.0.1), (j.1.0, over_more (IsPass some) (IsPass all) (more_passes some all more) x level y j.1.0 j.1.1))
