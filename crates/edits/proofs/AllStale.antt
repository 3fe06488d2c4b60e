-- After a command each present tile was present before, or is stale.
use Rattle.std.proofs.Common.{◌≡◌, ℕ, zero, suc, ◌*◌, ◌<◌, ℤ, pos, ◌-ℤ◌, Bool, true, false, cond, ◌||◌, ◌&&◌, List, [], ◌∷◌, length, map, filter, nat_eq, nat_lt, nat_abs, get_or, refl, sym, ◌∙◌, ap, subst, arith, not}
use Rattle.edits.proofs.Prelude.{All, All-cons, All-head, All-nil, All-tail, BadBox, BadDepth, BadHeight, BadLength, Burn, Command, Corner, Err, Full, Import, Mosaic, NoTile, None, NothingVoid, Ok, Option, Patch, Refusal, Remove, Repeated, Result, Sink, Some, Tile, TileThere, Unsink, Wall, added, are_neighbours, burnt, corners_of, effect, first_fault, goes_stale, has_void, height_of, if◌then◌else◌, int_max, ints, is_before, is_box, is_depth, is_height, is_in_box, is_named, is_present, is_repeated, is_void_at, list_any, metres, or_left, or_right, patched, same_corner, same_from, samples_in, unless_fault, walled, with_point, with_sinks, with_tile, without, without_point}
use Rattle.edits.proofs.Accepted.{accepted_is}
use Rattle.edits.proofs.EditedHeights.{edited_corners}

abbrev corner_of : Tile → Corner
corner_of t = t.corner

-- A property of all tiles' corners still holds for all when a tile with the property is added, or tiles are filtered out.

with_tile_each : (P : Corner → Type 0) (t : Tile) (ts : List Tile) → P t.corner → All P (map corner_of ts) → All P (map corner_of (with_tile t ts))
with_tile_each P t [] h each = All-cons P t.corner [] h (All-nil P)
with_tile_each P t (u ∷ us) h each = elim (is_before t.corner u.corner) as (λ b. All P (map corner_of (cond b (t ∷ (u ∷ us)) (u ∷ with_tile t us)))) [
  | true ↦ All-cons P t.corner (map corner_of (u ∷ us)) h each
  | false ↦ All-cons P u.corner (map corner_of (with_tile t us)) (All-head P u.corner (map corner_of us) each) (with_tile_each P t us h (All-tail P u.corner (map corner_of us) each))
]

filter_each : (P : Corner → Type 0) (f : Tile → Bool) (ts : List Tile) → All P (map corner_of ts) → All P (map corner_of (filter f ts))
filter_each P f [] each = each
filter_each P f (t ∷ ts) each =
    let rest = filter_each P f ts (All-tail P t.corner (map corner_of ts) each) in
    elim (f t) as (λ b. All P (map corner_of (cond b (t ∷ filter f ts) (filter f ts)))) [
      | true ↦ All-cons P t.corner (map corner_of (filter f ts)) (All-head P t.corner (map corner_of ts) each) rest
      | false ↦ rest
    ]

-- If all tiles were stale, all still are.

listed_at : (cs : List Corner) (k : ℕ) (d : Corner) → k < length cs → list_any (same_corner (get_or cs k d)) cs ≡ true
listed_at [] k d within = absurd (omega arith)
listed_at (c ∷ cs) zero d within = or_left (same_corner c c) (list_any (same_corner c) cs) (same_from c c refl)
listed_at (c ∷ cs) (suc k) d within = or_right (same_corner (get_or cs k d) c) (list_any (same_corner (get_or cs k d)) cs) (listed_at cs k d (omega arith))

no_way : (z : ℤ) → nat_lt (nat_abs (z -ℤ z)) 2 ≡ true
no_way z = let e : z -ℤ z ≡ pos 0 = omega (arith, ints) in rw e refl

pub near_itself : (c : Corner) → are_neighbours c c ≡ true
near_itself c = rw (no_way c.lat, no_way c.lon) refl

-- Tests that accept the tiles.

passes : (b : Bool) (r : Refusal) (rest : Result Mosaic Refusal) (new : Mosaic) → (if b then Err r else rest) ≡ Ok new → rest ≡ Ok new
passes true r rest new e = cc
passes false r rest new e = e

made_is : (made new : Mosaic) (r : Result Mosaic Refusal) → r ≡ Ok made → r ≡ Ok new → made ≡ new
made_is made new r f e = cc

no_fault : (f : Option Refusal) (made new : Mosaic) → unless_fault f made ≡ Ok new → made ≡ new
no_fault None made new e = cc
no_fault (Some r) made new e = cc

module _ (a b c : Bool) (p q r : Refusal) (made new : Mosaic) where
  passes_three : (if a then Err p else (if b then Err q else (if c then Err r else Ok made))) ≡ Ok new → made ≡ new
  passes_three e = made_is made new (Ok made) refl (passes c r (Ok made) new (passes b q (if c then Err r else Ok made) new (passes a p (if b then Err q else (if c then Err r else Ok made)) new e)))

module _ (a b : Bool) (p q : Refusal) (f : Option Refusal) (made new : Mosaic) where
  passes_faults : (if a then Err p else (if b then Err q else unless_fault f made)) ≡ Ok new → made ≡ new
  passes_faults e = no_fault f made new (passes b q (unless_fault f made) new (passes a p (if b then Err q else unless_fault f made) new e))

module _ (m : Mosaic) (c : Command) where
  abbrev pub stays_stale : Corner → Type 0
  stays_stale p = (list_any (same_corner p) (corners_of m) || goes_stale m c p) ≡ true

  old_stale : All stays_stale (corners_of m)
  old_stale k d within = or_left (list_any (same_corner (get_or (corners_of m) k d)) (corners_of m)) (goes_stale m c (get_or (corners_of m) k d)) (listed_at (corners_of m) k d within)

  abbrev pub AllStale : Mosaic → Type 0
  AllStale new = All stays_stale (corners_of new)

  same_stale : (made new : Mosaic) → corners_of made ≡ corners_of m → made ≡ new → AllStale new
  same_stale made new same is = subst (λ (cs : List Corner). All stays_stale cs) (sym same ∙ ap corners_of is) old_stale

-- Each present tile was present before, or the command makes it stale.
pub new_stale : (capacity : ℕ) (m new : Mosaic) (c : Command) → effect capacity m c ≡ Ok new → AllStale m c new
new_stale capacity m new (Import c bytes) e =
    let tile : Tile = record { corner = c; samples = samples_in bytes } in
    subst (AllStale m (Import c bytes))
    (passes_three (not (nat_eq (length bytes) (2 * (m.side * m.side)))) (is_present m c) (not (nat_lt (length m.tiles) capacity)) BadLength TileThere Full (added tile m) new e)
    (with_tile_each (stays_stale m (Import c bytes)) tile m.tiles (or_right (list_any (same_corner c) (corners_of m)) (are_neighbours c c) (near_itself c)) (old_stale m (Import c bytes)))
new_stale capacity m new (Remove c) e =
    subst (AllStale m (Remove c)) (made_is (without c m) new (Ok (without c m)) refl (passes (not (is_present m c)) NoTile (Ok (without c m)) new e))
    (filter_each (stays_stale m (Remove c)) (λ t. not (same_corner t.corner c)) m.tiles (old_stale m (Remove c)))
new_stale capacity m new (Patch from to h) e =
    same_stale m (Patch from to h) (patched from to h m) new (edited_corners (λ p s. if is_in_box from to p && is_void_at m p then h else s) m)
    (passes_three (not (is_height h)) (not (is_box m.side from to)) (not (has_void m from to)) BadHeight BadBox NothingVoid (patched from to h m) new e)
new_stale capacity m new (Burn depth points) e =
    same_stale m (Burn depth points) (burnt depth points.items m) new (edited_corners (λ p s. if is_named points.items p then metres (height_of m p) -ℤ depth else s) m)
    (passes_faults (not (is_depth depth)) (is_repeated points.items) BadDepth Repeated (first_fault m depth points.items) (burnt depth points.items m) new e)
new_stale capacity m new (Wall h points) e =
    same_stale m (Wall h points) (walled h points.items m) new (edited_corners (λ p s. if is_named points.items p then int_max (metres (height_of m p)) h else s) m)
    (passes_faults (not (is_height h)) (is_repeated points.items) BadHeight Repeated (first_fault m (pos 0) points.items) (walled h points.items m) new e)
new_stale capacity m new (Sink p) e = same_stale m (Sink p) (with_sinks (with_point p m.sinks) m) new refl (sym (accepted_is capacity m (Sink p) new e).1)
new_stale capacity m new (Unsink p) e = same_stale m (Unsink p) (with_sinks (without_point p m.sinks) m) new refl (sym (accepted_is capacity m (Unsink p) new e).1)
