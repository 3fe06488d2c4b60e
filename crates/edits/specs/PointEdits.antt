-- How burns and walls change a height (defined by this product).
use Rattle.std.specs.Prelude.{◌≡◌, ℤ, pos, ◌-ℤ◌, Bool, true, false, if◌then◌else◌, Result, Err, List}
use Rattle.std.specs.Int.{int_max}
use Rattle.lattice.specs.declared.height.Height.{Height}
use Rattle.lattice.specs.declared.height.Height.TheVariants as height
use Rattle.lattice.specs.declared.refusal.Refusal.{Refusal}
use Rattle.lattice.specs.declared.refusal.Refusal.TheVariants.{Outside, Void, TooDeep, Repeated, Device, Failed, Damaged}
use Rattle.lattice.specs.declared.point.Point.{Point}
use Rattle.lattice.specs.Mosaic.{Mosaic}
use Rattle.lattice.specs.Height.{height_of}
use Rattle.lattice.specs.Ground.{metres}
use Rattle.edits.specs.Effect.{is_named, is_repeated, first_fault, unless_fault, edited}
use Rattle.edits.specs.declared.point_edit.PointEdit.{PointEdit}
use Rattle.edits.specs.declared.point_edit.PointEdit.TheVariants.{Lower, Raise}

-- the new height in metres, from the old one
abbrev pub edited_metres : PointEdit → ℤ → ℤ
edited_metres (Lower by) h = h -ℤ pos by
edited_metres (Raise to) h = int_max h to

-- the depth by which a height is lowered
abbrev pub depth_of : PointEdit → ℤ
depth_of (Lower by) = pos by
depth_of (Raise to) = pos 0

-- the refusal for a point without a height, unless the refusal is that of a read
abbrev pub fault_of : Height → Refusal → Type 0
fault_of h Outside = h ≡ height.Outside
fault_of h Void = h ≡ height.Void
fault_of h Device = Unit {0}
fault_of h Failed = Unit {0}
fault_of h Damaged = Unit {0}
fault_of h _ = ⊥

-- The refusal says that the point has no height.
abbrev pub is_groundless : Refusal → Bool
is_groundless Outside = true
is_groundless Void = true
is_groundless _ = false

-- The refusal says that the point has no height, or would be too low.
abbrev pub is_fault : PointEdit → Refusal → Bool
is_fault (Lower by) TooDeep = true
is_fault t r = is_groundless r

-- the new sample at a point, if these points are edited
abbrev pub edited_sample : PointEdit → Mosaic → List Point → Point → ℤ → ℤ
edited_sample t m points p s = if is_named points p then edited_metres t (metres (height_of m p)) else s

-- the mosaic after these points are edited, or the first refusal that applies
abbrev pub edit_points : PointEdit → Mosaic → List Point → Result Mosaic Refusal
edit_points t m points = if is_repeated points then Err Repeated else unless_fault (first_fault m (depth_of t) points) (edited (edited_sample t m points) m)

-- the refusals of an edit's tests
abbrev pub refuses : PointEdit → Refusal → Bool
refuses t Repeated = true
refuses t r = is_fault t r
