-- What the result of a question says about the mosaic (defined by this product).
use Rattle.std.specs.Global.{Vec}
use Rattle.std.specs.Prelude.{◌≡◌, ◌≢◌, IsTrue, if◌then◌else◌, List, length, Option, Some, None, Result, Ok, Err}
use Rattle.lattice.specs.Corners.{Corner, is_corner}
use Rattle.lattice.specs.Height.{height_of}
use Rattle.lattice.specs.Mosaic.{Mosaic, is_present, samples_of}
use Rattle.lattice.specs.declared.point.Point.{Point}
use Rattle.lattice.specs.declared.height.Height.TheVariants as height
use Rattle.lattice.specs.declared.refusal.Refusal.{Refusal}
use Rattle.lattice.specs.declared.refusal.Refusal.TheVariants.{BadName, BadLength, NoTile, Outside, Void, Device, NoMemory, Failed}

-- refusals that don't depend on the mosaic: Device, Failed and NoMemory
abbrev pub IsOfCall : Refusal → Type 0
IsOfCall Device = Unit {0}
IsOfCall NoMemory = Unit {0}
IsOfCall Failed = Unit {0}
IsOfCall r = ⊥

-- The value meets this, or the refusal doesn't depend on the mosaic.
abbrev pub OfAny : {X : Type 0} → (X → Type 0) → Result X Refusal → Type 0
OfAny Says (Ok x) = Says x
OfAny Says (Err r) = IsOfCall r

-- The point's value meets this, or the point isn't ground, or the refusal doesn't depend on the mosaic.
abbrev pub OfPoint : {X : Type 0} → Mosaic → Point → (X → Type 0) → Result X Refusal → Type 0
OfPoint m p Says (Ok x) = Says x
OfPoint m p Says (Err Outside) = height_of m p ≡ height.Outside
OfPoint m p Says (Err Void) = height_of m p ≡ height.Void
OfPoint m p Says (Err r) = IsOfCall r

-- The values are a tile's, or the tile isn't present.
abbrev pub OfTile : {X : Type 0} → Mosaic → Corner → (List X → Type 0) → Result (Vec X) Refusal → Type 0
OfTile m c Says (Ok xs) = IsTrue (is_present m c) × Says xs.items
OfTile m c Says (Err NoTile) = samples_of m c ≡ None
OfTile m c Says (Err r) = IsOfCall r

-- The slice has a tile's values and their length, or the tile isn't present.
abbrev pub OfCopy : {X : Type 0} → Mosaic → Corner → (List X → Type 0) → List X → Result (Unit {0}) Refusal → Type 0
OfCopy m c Says values (Ok x) = IsTrue (is_present m c) × Says values
OfCopy m c Says values (Err NoTile) = samples_of m c ≡ None
OfCopy m c Says values (Err BadLength) = IsTrue (is_present m c) × ((xs : List _) × (Says xs × (length xs ≢ length values)))
OfCopy m c Says values (Err r) = IsOfCall r

-- BadName for a corner out of range, else no refusal
abbrev pub refused_corner : Corner → Option Refusal
refused_corner c = if is_corner c then None else Some BadName
