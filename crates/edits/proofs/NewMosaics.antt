-- The effect of an accepted command is a mosaic.
use Rattle.std.proofs.Common.{◌≡◌, ℕ, ◌+◌, ◌*◌, ◌<◌, ◌≤◌, inl, inr, ℤ, pos, negsuc, ◌-ℤ◌, ◌≤ℤ◌, Bool, true, false, cond, not, ◌&&◌, List, [], ◌∷◌, length, map, refl, sym, ◌∙◌, ap, subst, arith}
use Rattle.edits.proofs.Prelude.{All, All-cons, All-head, All-nil, All-tail, AllAfter, Burn, Command, Corner, Height, Import, None, Ok, Option, Patch, Point, Refusal, Remove, Rising, Sink, Some, TooDeep, Unsink, Wall, added, adjacent_from, and_parts, burnt, changed_from, edited, effect, eqb-true, false≢true, fault_at, filter, first_fault, height_of, int_le, int_lt, int_max, ints, is_before, is_depth, is_height, is_in_box, is_named, is_void_at, length-map, ltb-true, metres, or_cases, patched, point_of, same_corner, same_point, same_point_says, samples_in, walled, with_point, with_sinks, with_tile, without, without_point}
use Rattle.lattice.specs.declared.height.Height.TheVariants as height
use Rattle.lattice.specs.Mosaic.{Tile, Mosaic, IsSample, IsTile, IsMosaic, void}
use Rattle.hgt.proofs.BytesLemmas.{length-samples_in, samples_in_are_samples}
use Rattle.catalogue.proofs.Mosaics.{corner_of, rising_tiles, mosaic-added, mosaic-without}
use Rattle.lattice.proofs.SampleRange.{max_is_sample, metres_are_sample}
use Rattle.edits.specs.EffectLaws.{IsCommand}
use Rattle.edits.proofs.Accepted.{IsMade, accepted_is}
use Rattle.edits.proofs.Placing.{length-changed_from}
use Rattle.edits.proofs.SinkLists.{sunk_makes, unsunk_leaves}

-- ---- samples

height_is_sample : (h : ℤ) → is_height h ≡ true → IsSample h
height_is_sample h e =
    let both = and_parts (int_le (negsuc 32766) h) (int_le h (pos 32767)) e in
    (low h both.0, high h both.1)
  where
    low : (z : ℤ) → int_le (negsuc 32766) z ≡ true → void ≤ℤ z
    low z e = let above : negsuc 32766 ≤ℤ z = grind (arith, ints) in omega (arith, ints)

    high : (z : ℤ) → int_le z (pos 32767) ≡ true → z ≤ℤ pos 32767
    high z e = grind (arith, ints)

-- ---- edits

samples_changed : (f : ℕ → ℤ → ℤ) (e : ℕ) (l : List ℤ) → ((i : ℕ) (s : ℤ) → IsSample s → IsSample (f i s)) → All IsSample l → All IsSample (changed_from f e l)
samples_changed f e [] keeps all = All-nil IsSample
samples_changed f e (s ∷ rest) keeps all =
    All-cons IsSample (f e s) (changed_from f (e + 1) rest) (keeps e s (All-head IsSample s rest all)) (samples_changed f (e + 1) rest keeps (All-tail IsSample s rest all))

module _ (m : Mosaic) (f : Point → ℤ → ℤ) (keeps : (p : Point) (s : ℤ) → IsSample s → IsSample (f p s)) where
  abbrev pub edit_tile : Tile → Tile
  edit_tile t = record { corner = t.corner; samples = changed_from (λ e s. f (point_of m.side t.corner e) s) 0 t.samples }

  tiles_edited : (n : ℕ) (ts : List Tile) → All (IsTile n) ts → All (IsTile n) (map edit_tile ts)
  tiles_edited n [] all = All-nil (IsTile n)
  tiles_edited n (t ∷ ts) all =
      let tile = All-head (IsTile n) t ts all in
      All-cons (IsTile n) (edit_tile t) (map edit_tile ts) (record {
        corner = tile.corner;
        whole = length-changed_from (λ e s. f (point_of m.side t.corner e) s) 0 t.samples ∙ tile.whole;
        samples = samples_changed (λ e s. f (point_of m.side t.corner e) s) 0 t.samples (λ i s. keeps (point_of m.side t.corner i) s) tile.samples;
      }) (tiles_edited n ts (All-tail (IsTile n) t ts all))

  after_edited : (c : Corner) (ts : List Tile) → AllAfter corner_of c ts → AllAfter corner_of c (map edit_tile ts)
  after_edited c [] h = tt
  after_edited c (t ∷ ts) h = (h.0, after_edited c ts h.1)

  rising_edited : (ts : List Tile) → Rising corner_of ts → Rising corner_of (map edit_tile ts)
  rising_edited [] h = tt
  rising_edited (t ∷ ts) h = (after_edited t.corner ts h.0, rising_edited ts h.1)

  pub edited_is_mosaic : IsMosaic m → IsMosaic (edited f m)
  edited_is_mosaic valid = record {
    side_low = valid.side_low;
    side_high = valid.side_high;
    tiles = tiles_edited m.side m.tiles valid.tiles;
    in_order = adjacent_from corner_of (map edit_tile m.tiles) (rising_edited m.tiles (rising_tiles m valid));
    sinks = valid.sinks;
  }

-- A burnt point has a height, and stays at or above the lowest height.
no_fault_says : (m : Mosaic) (depth : ℤ) (points : List Point) (p : Point) → first_fault m depth points ≡ None → is_named points p ≡ true →
    int_lt (metres (height_of m p) -ℤ depth) (negsuc 32766) ≡ false
no_fault_says m depth [] p none named = absurd (false≢true named)
no_fault_says m depth (q ∷ rest) p none named =
    elim (or_cases (same_point p q) (is_named rest p) named) [
      | inl same ↦ (let is = same_point_says p q same in ap (λ r. int_lt (metres (height_of m r) -ℤ depth) (negsuc 32766)) is ∙ (here (height_of m q) (first_fault m depth rest) none).0)
      | inr later ↦ no_fault_says m depth rest p ((here (height_of m q) (first_fault m depth rest) none).1) later
    ]
  where
    deep : (b : Bool) (later : Option Refusal) → cond b (Some TooDeep) later ≡ None → (b ≡ false) × (later ≡ None)
    deep true later e = absurd (cc)
    deep false later e = (refl, e)

    here : (h : Height) (later : Option Refusal) → fault_at depth h later ≡ None → (int_lt (metres h -ℤ depth) (negsuc 32766) ≡ false) × (later ≡ None)
    here height.Outside later e = absurd (cc)
    here height.Void later e = absurd (cc)
    here (height.At h) later e = deep (int_lt (h -ℤ depth) (negsuc 32766)) later e

lowered_is_sample : (h depth : ℤ) → IsSample h → is_depth depth ≡ true → int_lt (h -ℤ depth) (negsuc 32766) ≡ false → IsSample (h -ℤ depth)
lowered_is_sample h depth sample in_range shallow =
    let both = and_parts (int_le (pos 1) depth) (int_le depth (pos 32767)) in_range in
    let deep : pos 1 ≤ℤ depth = at_least depth both.0 in
    let above : negsuc 32766 ≤ℤ (h -ℤ depth) = not_below (h -ℤ depth) shallow in
    let top : h ≤ℤ pos 32767 = sample.1 in
    (omega (arith, ints), omega (arith, ints))
  where
    at_least : (z : ℤ) → int_le (pos 1) z ≡ true → pos 1 ≤ℤ z
    at_least z e = grind (arith, ints)

    not_below : (z : ℤ) → int_lt z (negsuc 32766) ≡ false → negsuc 32766 ≤ℤ z
    not_below z e = grind (arith, ints)

-- ---- the commands

pub new_is_mosaic : (capacity : ℕ) (m : Mosaic) (c : Command) (new : Mosaic) → IsMosaic m → IsCommand c → effect capacity m c ≡ Ok new → IsMosaic new
new_is_mosaic capacity m c new valid given made = by c given (accepted_is capacity m c new made)
  where
    by : (d : Command) → IsCommand d → IsMade capacity m d new → IsMosaic new
    by (Import corner bytes) given (whole, absent, room, is) =
        let tile : IsTile m.side (record { corner = corner; samples = samples_in bytes }) = record {
          corner = given.0;
          whole = length-samples_in bytes (m.side * m.side) (eqb-true (length bytes) (2 * (m.side * m.side)) whole);
          samples = samples_in_are_samples bytes given.1;
        } in
        subst IsMosaic (sym is) (mosaic-added (record { corner = corner; samples = samples_in bytes }) m valid tile absent)
    by (Remove corner) given is = subst IsMosaic (sym is) (mosaic-without corner m valid)
    by (Patch from to h) given (in_range, is) =
        subst IsMosaic (sym is) (edited_is_mosaic m (λ p s. cond (is_in_box from to p && is_void_at m p) h s)
        (λ p s sample. elim (is_in_box from to p && is_void_at m p) as (λ b. IsSample (cond b h s)) [ true ↦ height_is_sample h in_range | false ↦ sample ]) valid)
    by (Burn depth points) given (in_range, fine, is) =
        subst IsMosaic (sym is) (edited_is_mosaic m (λ p s. cond (is_named points.items p) (metres (height_of m p) -ℤ depth) s) (λ p s sample. burn p s sample (is_named points.items p) refl) valid)
      where
        burn : (p : Point) (s : ℤ) → IsSample s → (b : Bool) → is_named points.items p ≡ b → IsSample (cond b (metres (height_of m p) -ℤ depth) s)
        burn p s sample true named = lowered_is_sample (metres (height_of m p)) depth (metres_are_sample m p valid) in_range (no_fault_says m depth points.items p fine named)
        burn p s sample false _ = sample
    by (Wall h points) given (in_range, fine, is) =
        subst IsMosaic (sym is) (edited_is_mosaic m (λ p s. cond (is_named points.items p) (int_max (metres (height_of m p)) h) s)
        (λ p s sample. elim (is_named points.items p) as (λ b. IsSample (cond b (int_max (metres (height_of m p)) h) s)) [
          | true ↦ max_is_sample (metres (height_of m p)) h (metres_are_sample m p valid) (height_is_sample h in_range)
          | false ↦ sample
        ]) valid)
    by (Sink p) given (sinks, is) = (sunk_makes m p new valid sinks).0
    by (Unsink p) given (leaves, is) = (unsunk_leaves m p new valid leaves).0

pub new_side : (capacity : ℕ) (m : Mosaic) (c : Command) (new : Mosaic) → effect capacity m c ≡ Ok new → new.side ≡ m.side
new_side capacity m c new made = by c (accepted_is capacity m c new made)
  where
    by : (d : Command) → IsMade capacity m d new → new.side ≡ m.side
    by (Import corner bytes) (whole, absent, room, is) = ap (λ (x : Mosaic). x.side) is
    by (Remove corner) is = ap (λ (x : Mosaic). x.side) is
    by (Patch from to h) (in_range, is) = ap (λ (x : Mosaic). x.side) is
    by (Burn depth points) (in_range, fine, is) = ap (λ (x : Mosaic). x.side) is
    by (Wall h points) (in_range, fine, is) = ap (λ (x : Mosaic). x.side) is
    by (Sink p) (sinks, is) = ap (λ (x : Mosaic). x.side) is
    by (Unsink p) (leaves, is) = ap (λ (x : Mosaic). x.side) is

length-with_tile : (t : Tile) (ts : List Tile) → length (with_tile t ts) ≡ length ts + 1
length-with_tile t [] = refl
length-with_tile t (u ∷ ts) = elim (is_before t.corner u.corner) as (λ b. length (cond b (t ∷ (u ∷ ts)) (u ∷ with_tile t ts)) ≡ length (u ∷ ts) + 1) [
  | true ↦ omega arith
  | false ↦ (let more = length-with_tile t ts in omega arith)
]

length-filter : (test : Tile → Bool) (ts : List Tile) → length (filter test ts) ≤ length ts
length-filter test [] = omega arith
length-filter test (t ∷ ts) = elim (test t) as (λ b. length (cond b (t ∷ filter test ts) (filter test ts)) ≤ length (t ∷ ts)) [
  | true ↦ (let rest = length-filter test ts in omega arith)
  | false ↦ (let rest = length-filter test ts in omega arith)
]

pub new_within : (capacity : ℕ) (m : Mosaic) (c : Command) (new : Mosaic) → length m.tiles ≤ capacity → effect capacity m c ≡ Ok new → length new.tiles ≤ capacity
new_within capacity m c new few made = by c (accepted_is capacity m c new made)
  where
    count : (x : Mosaic) → new ≡ x → length x.tiles ≤ capacity → length new.tiles ≤ capacity
    count x is within = subst (λ (y : Mosaic). length y.tiles ≤ capacity) (sym is) within

    same : (f : Tile → Tile) → length (map f m.tiles) ≤ capacity
    same f = let kept = length-map m.tiles f in omega arith

    by : (d : Command) → IsMade capacity m d new → length new.tiles ≤ capacity
    by (Import corner bytes) (whole, absent, room, is) =
        let t : Tile = record { corner = corner; samples = samples_in bytes } in
        let below : length m.tiles < capacity = ltb-true (length m.tiles) capacity room in
        let more = length-with_tile t m.tiles in
        count (added t m) is (omega arith)
    by (Remove corner) is = count (without corner m) is (let fewer : length (without corner m).tiles ≤ length m.tiles = length-filter (λ t. not (same_corner t.corner corner)) m.tiles in omega arith)
    by (Patch from to h) (in_range, is) = count (patched from to h m) is (same _)
    by (Burn depth points) (in_range, fine, is) = count (burnt depth points.items m) is (same _)
    by (Wall h points) (in_range, fine, is) = count (walled h points.items m) is (same _)
    by (Sink p) (sinks, is) = count (with_sinks (with_point p m.sinks) m) is few
    by (Unsink p) (leaves, is) = count (with_sinks (without_point p m.sinks) m) is few
