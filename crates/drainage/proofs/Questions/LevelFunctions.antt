-- Some function gives the filled level of each ground point.
use Rattle.drainage.proofs.Prelude.{Bool, IsFilledLevel, IsMosaic, Mosaic, Point, ℤ, false, false≢true, is_ground, refl, terrain, true, void, ◌≡◌}
use Rattle.lattice.proofs.FilledLevels.{filled_level_exists}
use Rattle.drainage.specs.Draining.{LevelFunctionsExist}

module _ (m : Mosaic) (is : IsMosaic m) where
  abbrev level_by : (p : Point) (b : Bool) → is_ground m p ≡ b → ℤ
  level_by p true on = (filled_level_exists m is p on).0
  level_by p false off = void

  level_is : (p : Point) (b : Bool) (e : is_ground m p ≡ b) → b ≡ true → IsFilledLevel (terrain m) p (level_by p b e)
  level_is p true on h = (filled_level_exists m is p on).1
  level_is p false off h = absurd (false≢true h)

pub level_function : LevelFunctionsExist
level_function m is = ((λ p. level_by m is p (is_ground m p) refl), λ p on. level_is m is p (is_ground m p) refl on)
