-- The filled levels that a change of one point can't change. The definitions are this product's own.
use Rattle.std.specs.Prelude.{◌≡◌, ◌≢◌, ◌⊎◌, ℤ, pos, ◌-ℤ◌, ◌<ℤ◌, ◌≤ℤ◌, List, All, Option, Some, None, true}
use Rattle.lattice.specs.declared.point.Point.{Point}
use Rattle.lattice.specs.declared.height.Height.TheVariants.{At}
use Rattle.lattice.specs.Ground.{is_ground, terrain}
use Rattle.lattice.specs.Height.{height_of}
use Rattle.lattice.specs.Mosaic.{Mosaic, void}
use Rattle.lattice.specs.Terrain.{IsFilledLevel}
use Rattle.edits.specs.declared.edit.NewHeight.{NewHeight}

-- the level lies below both heights, or above both
abbrev pub LiesApart : ℤ → ℤ → ℤ → Type 0
LiesApart was is level = ((level <ℤ was) × (level <ℤ is)) ⊎ ((was <ℤ level) × (is <ℤ level))

-- a change of a ground point's height from `was` to `is` can't move the level, which lies below both or above both
abbrev pub IsSpared : ℤ → ℤ → ℤ → Type 0
IsSpared was is level = (is ≢ void) × LiesApart was is level

-- the point's new height is its old one
abbrev pub IsUnchanged : NewHeight → Type 0
IsUnchanged h = h.was ≡ h.metres

-- the point's new height is its old one, or the change can't move the level
abbrev pub IsSparedBy : ℤ → NewHeight → Type 0
IsSparedBy level h = IsUnchanged h ⊎ IsSpared h.was h.metres level

-- none of these heights can change the level
abbrev pub AreSparing : List NewHeight → ℤ → Type 0
AreSparing heights level = All (IsSparedBy level) heights

-- the level is at most `most`; for None, no level is
abbrev pub IsNoHigher : Option ℤ → ℤ → Type 0
IsNoHigher None level = ⊥
IsNoHigher (Some most) level = level ≤ℤ most

-- the greatest whole number of metres below the height; None for None
abbrev pub one_lower : Option ℤ → Option ℤ
one_lower None = None
one_lower (Some h) = Some (h -ℤ pos 1)

-- filled levels that satisfy `stays` are filled levels of the changed mosaic too
abbrev pub AreLevelsStill : (ℤ → Type 0) → Mosaic → Mosaic → Type 0
AreLevelsStill stays m new = (q : Point) (level : ℤ) → stays level → IsFilledLevel (terrain m) q level → IsFilledLevel (terrain new) q level

-- the point has its old height, or, if it was ground, the height h
abbrev pub IsSetTo : Mosaic → Mosaic → Point → ℤ → Type 0
IsSetTo m new p h = (height_of new p ≡ height_of m p) ⊎ (h ≢ void → is_ground m p ≡ true → height_of new p ≡ At h)
