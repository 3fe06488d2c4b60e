-- What code that reads grids of levels requires of a terrain.
use Rattle.std.specs.Prelude.{◌≡◌, ℤ, IsTrue, if◌then◌else◌}
use Rattle.flow_d8.specs.Prelude.{Point, Dir, step, Terrain, IsLawful, void}

-- the level of the adjacent point in the direction; void if there is none
abbrev pub level_beside : Terrain Point → (Point → ℤ) → Point → Dir → ℤ
level_beside t level p d = if t.is_adjacent p (step d p) then level (step d p) else void

-- adjacent points are a step apart, and no level of ground is the void
pub record IsLevelGrid (t : Terrain Point) (level : Point → ℤ) : Type 0 where
  pub lawful : IsLawful t
  pub steps : (x y : Point) → IsTrue (t.is_adjacent x y) → (d : Dir) × (y ≡ step d x)
  pub some : (x : Point) → IsTrue (t.is_ground x) → level x ≡ void → ⊥
