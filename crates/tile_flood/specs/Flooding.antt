-- Which points have their levels during a flood.
use Rattle.std.specs.Prelude.{◌≡◌, ℕ, ◌+◌, ◌*◌, ◌<◌, ◌≤◌, ℤ, false, cond, IsTrue, List, ◌⊎◌, sum_by}
use Rattle.std.specs.Ordering.{int_eq}
use Rattle.lattice.specs.Mosaic.{void}
use Rattle.lattice.specs.Block.{Block, is_solid, is_exit, is_inner_outlet, is_rim, is_beside}
use Rattle.labelling.specs.Blocks.{bare_block}
use Rattle.labelling.specs.Blocks.{is_marked}
use Rattle.labelling.specs.Labelling.{Names, OUT}

abbrev pub lack : ℤ → ℕ
lack level = cond (int_eq level void) 1 0

-- how many points have no level yet
abbrev pub unmarked : List ℤ → ℕ
unmarked levels = sum_by lack levels

abbrev pub AreMarkedStill : List ℤ → List ℤ → Type 0
AreMarkedStill old new = (e : ℕ) → IsTrue (is_marked old e) → IsTrue (is_marked new e)

-- e is on the rim, or at most one row and one column away from c
abbrev pub IsNear : ℕ → ℕ → ℕ → Type 0
IsNear n c e = IsTrue (is_rim n e) ⊎ IsTrue (is_beside n c e)

-- all points of row i in these columns are ground
abbrev pub IsFullSpan : ℕ → List ℤ → ℕ → ℕ → ℕ → Type 0
IsFullSpan n heights i from to = (j : ℕ) → from ≤ j → j < to → IsTrue (is_solid (bare_block n heights) (i * n + j))

-- no point of row i in these columns is an outlet
abbrev pub IsPlainSpan : Block → ℕ → ℕ → ℕ → Type 0
IsPlainSpan b i from to = (j : ℕ) → from ≤ j → j < to → is_exit b (i * b.side + j) ≡ false

-- the label that a flood starts with at outlet e
pub record IsOwnLabel (b : Block) (e label : ℕ) : Type 0 where
  pub names : Names b label e
  pub inner_outlet : IsTrue (is_inner_outlet b e) → label ≡ OUT
