-- The effect of declaring a sink and of removing one on a mosaic (defined by this product).
use Rattle.std.specs.Prelude.{◌≡◌, Bool, true, false, not, if◌then◌else◌, nat_lt, Result, Ok, Err, List, [], ◌∷◌, length, filter}
use Rattle.lattice.specs.declared.point.Point.{Point}
use Rattle.lattice.specs.declared.height.Height.{Height}
use Rattle.lattice.specs.declared.height.Height.TheVariants as height
use Rattle.lattice.specs.declared.refusal.Refusal.{Refusal}
use Rattle.lattice.specs.declared.refusal.Refusal.TheVariants.{Outside, Void, SinkThere, SinksFull, NoSink}
use Rattle.lattice.specs.Limits.{most_sinks}
use Rattle.lattice.specs.Points.{is_point_before}
use Rattle.lattice.specs.Mosaic.{Mosaic, IsMosaic}
use Rattle.lattice.specs.Height.{height_of}
use Rattle.lattice.specs.Ground.{same_point, is_sink}
use Rattle.catalogue.specs.Tiles.{with_sinks}

-- the points with one more, in order
abbrev pub with_point : Point → List Point → List Point
with_point p [] = p ∷ []
with_point p (q ∷ rest) = if is_point_before p q then p ∷ (q ∷ rest) else q ∷ with_point p rest

-- the points without this one, in order
abbrev pub without_point : Point → List Point → List Point
without_point p points = filter (λ s. not (same_point s p)) points

-- the effect of declaring a sink, by the point's height: it has to be ground and no sink yet, and one more sink has to
-- be allowed
abbrev pub sunk_at : Height → Point → Mosaic → Result Mosaic Refusal
sunk_at height.Outside p m = Err Outside
sunk_at height.Void p m = Err Void
sunk_at (height.At h) p m =
    if is_sink m p then Err SinkThere
    else (if not (nat_lt (length m.sinks) most_sinks) then Err SinksFull
    else Ok (with_sinks (with_point p m.sinks) m))

-- the effect of declaring the point a sink
abbrev pub sunk : Mosaic → Point → Result Mosaic Refusal
sunk m p = sunk_at (height_of m p) p m

-- the effect of removing the sink at the point, which may be anywhere
abbrev pub unsunk : Mosaic → Point → Result Mosaic Refusal
unsunk m p = if is_sink m p then Ok (with_sinks (without_point p m.sinks) m) else Err NoSink

-- the refusals of declaring a sink
abbrev pub refuses_sink : Refusal → Bool
refuses_sink Outside = true
refuses_sink Void = true
refuses_sink SinkThere = true
refuses_sink SinksFull = true
refuses_sink r = false

-- Declaring or removing a sink makes a mosaic with the same tiles.
abbrev pub SinksMakeMosaics : Type 0
SinksMakeMosaics = (m : Mosaic) (p : Point) (new : Mosaic) → IsMosaic m → sunk m p ≡ Ok new → IsMosaic new × (new ≡ with_sinks new.sinks m)

abbrev pub SinksLeaveMosaics : Type 0
SinksLeaveMosaics = (m : Mosaic) (p : Point) (new : Mosaic) → IsMosaic m → unsunk m p ≡ Ok new → IsMosaic new × (new ≡ with_sinks new.sinks m)
