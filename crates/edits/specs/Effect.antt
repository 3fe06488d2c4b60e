-- The effect of a command on a mosaic: a mosaic, or the first refusal that applies (defined by this product).
use Rattle.std.specs.Prelude.{ℕ, ◌+◌, ◌*◌, ℤ, pos, negsuc, ◌-ℤ◌, int_lt, int_le, Bool, true, false, ◌&&◌, ◌||◌, not, if◌then◌else◌, nat_eq, nat_lt, Option, Some, None, Result, Ok, Err, List, [], ◌∷◌, length, map}
use Rattle.std.specs.Int.{int_max}
use Rattle.std.specs.List.{list_any}
use Rattle.lattice.specs.Corners.{Corner}
use Rattle.lattice.specs.declared.point.Point.{Point}
use Rattle.lattice.specs.declared.height.Height.{Height}
use Rattle.lattice.specs.declared.height.Height.TheVariants as height
use Rattle.lattice.specs.declared.refusal.Refusal.{Refusal}
use Rattle.lattice.specs.declared.refusal.Refusal.TheVariants.{BadLength, TileThere, NoTile, Full, Outside, Void, NothingVoid, BadHeight, BadDepth, BadBox, Repeated, TooDeep}
use Rattle.lattice.specs.Lattice.{point_of}
use Rattle.lattice.specs.Mosaic.{Mosaic, is_present}
use Rattle.lattice.specs.Height.{height_of}
use Rattle.lattice.specs.Ground.{same_point, metres}
use Rattle.hgt.specs.Bytes.{samples_in}
use Rattle.catalogue.specs.Tiles.{added, without}
use Rattle.edits.specs.declared.command.Command.{Command}
use Rattle.edits.specs.declared.command.Command.TheVariants.{Import, Remove, Patch, Burn, Wall, Sink, Unsink}
use Rattle.edits.specs.Sinks.{sunk, unsunk}

-- the samples from index e on, each changed by a function of its index and value
abbrev pub changed_from : (ℕ → ℤ → ℤ) → ℕ → List ℤ → List ℤ
changed_from f e [] = []
changed_from f e (s ∷ rest) = f e s ∷ changed_from f (e + 1) rest

-- the mosaic with every sample of every present tile changed by a function of its point and value, so that all tiles
-- with a point get the same change
abbrev pub edited : (Point → ℤ → ℤ) → Mosaic → Mosaic
edited f m = record m { tiles = map (λ t. record { corner = t.corner; samples = changed_from (λ e s. f (point_of m.side t.corner e) s) 0 t.samples }) m.tiles }

abbrev pub is_named : List Point → Point → Bool
is_named points p = list_any (same_point p) points

-- Two of the points are equal.
abbrev pub is_repeated : List Point → Bool
is_repeated [] = false
is_repeated (p ∷ rest) = is_named rest p || is_repeated rest

-- The height is from -32767 to 32767.
abbrev pub is_height : ℤ → Bool
is_height h = int_le (negsuc 32766) h && int_le h (pos 32767)

-- The depth is from 1 to 32767.
abbrev pub is_depth : ℤ → Bool
is_depth d = int_le (pos 1) d && int_le d (pos 32767)

-- The point is in the box, ends included.
abbrev pub is_in_box : Point → Point → Point → Bool
is_in_box from to p = int_le from.y p.y && int_le p.y to.y && int_le from.x p.x && int_le p.x to.x

-- The box's corners are in order, with at most n points in each direction.
abbrev pub is_box : ℕ → Point → Point → Bool
is_box n from to = int_le from.y to.y && int_le from.x to.x && int_lt (to.y -ℤ from.y) (pos n) && int_lt (to.x -ℤ from.x) (pos n)

abbrev pub is_void_height : Height → Bool
is_void_height height.Void = true
is_void_height _ = false

abbrev pub is_void_at : Mosaic → Point → Bool
is_void_at m p = is_void_height (height_of m p)

-- Some sample of the tile, from index e on, is at a void point of the box.
abbrev pub has_void_from : Mosaic → Point → Point → Corner → ℕ → List ℤ → Bool
has_void_from m from to c e [] = false
has_void_from m from to c e (s ∷ rest) =
    (is_in_box from to (point_of m.side c e) && is_void_at m (point_of m.side c e)) || has_void_from m from to c (e + 1) rest

-- Some point of the box is void.
abbrev pub has_void : Mosaic → Point → Point → Bool
has_void m from to = list_any (λ t. has_void_from m from to t.corner 0 t.samples) m.tiles

-- the refusal for the first point, in the order given, that is outside, void, or too low after the depth is taken off
abbrev pub fault_at : ℤ → Height → Option Refusal → Option Refusal
fault_at depth height.Outside later = Some Outside
fault_at depth height.Void later = Some Void
fault_at depth (height.At h) later = if int_lt (h -ℤ depth) (negsuc 32766) then Some TooDeep else later

abbrev pub first_fault : Mosaic → ℤ → List Point → Option Refusal
first_fault m depth [] = None
first_fault m depth (p ∷ rest) = fault_at depth (height_of m p) (first_fault m depth rest)

abbrev pub unless_fault : Option Refusal → Mosaic → Result Mosaic Refusal
unless_fault None m = Ok m
unless_fault (Some r) m = Err r

abbrev pub patched : Point → Point → ℤ → Mosaic → Mosaic
patched from to h m = edited (λ p s. if is_in_box from to p && is_void_at m p then h else s) m

abbrev pub burnt : ℤ → List Point → Mosaic → Mosaic
burnt depth points m = edited (λ p s. if is_named points p then metres (height_of m p) -ℤ depth else s) m

abbrev pub walled : ℤ → List Point → Mosaic → Mosaic
walled h points m = edited (λ p s. if is_named points p then int_max (metres (height_of m p)) h else s) m

-- the effect of a command, where at most `capacity` tiles may be present
abbrev pub effect : ℕ → Mosaic → Command → Result Mosaic Refusal
effect capacity m (Import c bytes) =
    if not (nat_eq (length bytes) (2 * (m.side * m.side))) then Err BadLength
    else (if is_present m c then Err TileThere
    else (if not (nat_lt (length m.tiles) capacity) then Err Full
    else Ok (added (record { corner = c; samples = samples_in bytes }) m)))
effect capacity m (Remove c) =
    if not (is_present m c) then Err NoTile
    else Ok (without c m)
effect capacity m (Patch from to h) =
    if not (is_height h) then Err BadHeight
    else (if not (is_box m.side from to) then Err BadBox
    else (if not (has_void m from to) then Err NothingVoid
    else Ok (patched from to h m)))
effect capacity m (Burn depth points) =
    if not (is_depth depth) then Err BadDepth
    else (if is_repeated points.items then Err Repeated
    else unless_fault (first_fault m depth points.items) (burnt depth points.items m))
effect capacity m (Wall h points) =
    if not (is_height h) then Err BadHeight
    else (if is_repeated points.items then Err Repeated
    else unless_fault (first_fault m (pos 0) points.items) (walled h points.items m))
effect capacity m (Sink p) = sunk m p
effect capacity m (Unsink p) = unsunk m p

-- the new mosaic, or the old one after a refusal
abbrev pub unless_refused : Mosaic → Result Mosaic Refusal → Mosaic
unless_refused m (Ok new) = new
unless_refused m (Err r) = m

-- the mosaic after the commands, one after another; a refused command leaves it unchanged
abbrev pub after : ℕ → Mosaic → List Command → Mosaic
after capacity m [] = m
after capacity m (c ∷ rest) = after capacity (unless_refused m (effect capacity m c)) rest

-- the number of accepted commands
abbrev pub accepted : ℕ → Mosaic → List Command → ℕ
accepted capacity m [] = 0
accepted capacity m (c ∷ rest) = count_if_ok (effect capacity m c) + accepted capacity (unless_refused m (effect capacity m c)) rest
  where
    count_if_ok : Result Mosaic Refusal → ℕ
    count_if_ok (Ok new) = 1
    count_if_ok (Err r) = 0
