-- A map from corners to samples, as a list of tiles.
use Rattle.std.proofs.Common.{◌≡◌, ℕ, ◌*◌, ◌<◌, ◌≤◌, ℤ, Bool, true, false, cond, not, ◌||◌, IsTrue, IsFalse, List, [], ◌∷◌, length, map, Some, None, option_map, refl, sym, ◌∙◌, ap, ap₂, subst, vec_len}
use Rattle.catalogue.proofs.Prelude.{All-head, All-tail, AllAfter, Corner, IsMosaic, IsSample, IsTile, Mosaic, Point, Rising, Tile, Vec, added, cond-false, false≢true, is_before, is_corner, is_present, is_some, or_parts, same_corner, samples_among, samples_of, slice_set, with_sample, with_sample_in, with_tile, without}
use Rattle.std.specs.List.{All, filter, list_any}
use Rattle.std.specs.Ordering.{MatchOrdering, match_ordering, is_eq}
use Rattle.std.specs.BTreeMap.{insert_entry, is_at}
use Rattle.std.specs.Map.{lookup, keys_of, remove_entry, set_value}
use Rattle.std.specs.declared.cmp.Ordering.{Ordering}
use Rattle.std.specs.declared.cmp.Ordering.TheVariants.{Less, Equal, Greater}
use Rattle.catalogue.specs.Entries.{tiles_in}
use Rattle.catalogue.proofs.Mosaics.{corner_of, rising_tiles, mosaic-added, mosaic-without, mosaic-with_sample}
use Rattle.lattice.proofs.CornerOrder.{corner_cmp, ranked_corners, same_says, same_from, before_not_same, after_not_same, before_not_back}

abbrev Entry : Type 0
Entry = Corner × Vec ℤ

abbrev is_among : Corner → List Tile → Bool
is_among c tiles = list_any (λ t. same_corner t.corner c) tiles

-- The comparison of the map's order shows whether the corners are equal.
pub tied_is : (c d : Corner) → is_eq (corner_cmp c d) ≡ same_corner d c
tied_is c d = by (corner_cmp c d) (ranked_corners c d)
  where
    by : (o : Ordering) → MatchOrdering o (is_before c d ≡ true) (c ≡ d) (is_before d c ≡ true) → is_eq o ≡ same_corner d c
    by Less h = sym (after_not_same c d h)
    by Equal h = sym (same_from d c (sym h))
    by Greater h = sym (before_not_same d c h)

pub tiles-insert : (c : Corner) (v : Vec ℤ) (es : List Entry) → is_among c (tiles_in es) ≡ false →
    tiles_in (insert_entry corner_cmp es c v) ≡ with_tile (record { corner = c; samples = v.items }) (tiles_in es)
tiles-insert c v [] absent = refl
tiles-insert c v (e ∷ es) absent = by (tiles-insert c v es apart.1) (corner_cmp c e.0) (ranked_corners c e.0)
  where
    apart : (same_corner e.0 c ≡ false) × (is_among c (tiles_in es) ≡ false)
    apart = or_parts (same_corner e.0 c) (is_among c (tiles_in es)) absent

    by : tiles_in (insert_entry corner_cmp es c v) ≡ with_tile (record { corner = c; samples = v.items }) (tiles_in es)
        → (o : Ordering) → MatchOrdering o (is_before c e.0 ≡ true) (c ≡ e.0) (is_before e.0 c ≡ true)
        → tiles_in (match_ordering o ((c, v) ∷ e ∷ es) ((e.0, v) ∷ es) (e ∷ insert_entry corner_cmp es c v))
        ≡ cond (is_before c e.0) (record { corner = c; samples = v.items } ∷ (record { corner = e.0; samples = e.1.items } ∷ tiles_in es)) (record { corner = e.0; samples = e.1.items } ∷ with_tile (record { corner = c; samples = v.items }) (tiles_in es))
    by rest Less h = rw h refl
    by rest Equal h = absurd (false≢true (sym apart.0 ∙ same_from e.0 c (sym h)))
    by rest Greater h = rw (before_not_back e.0 c h) (ap (λ (ts : List Tile). record { corner = e.0; samples = e.1.items } ∷ ts) rest)

pub samples-lookup : (c : Corner) (es : List Entry) → option_map (λ (v : Vec ℤ). v.items) (lookup (is_at (corner_cmp c)) es) ≡ samples_among (tiles_in es) c
samples-lookup c [] = refl
samples-lookup c (e ∷ es) = rw (tied_is c e.0) (elim (same_corner e.0 c) as (λ b. option_map (λ (v : Vec ℤ). v.items) (cond b (Some e.1) (lookup (is_at (corner_cmp c)) es)) ≡ cond b (Some e.1.items) (samples_among (tiles_in es) c)) [
  | true ↦ refl
  | false ↦ samples-lookup c es
])

-- A corner before those of all tiles is none of theirs.
pub not_among : (c : Corner) (tiles : List Tile) → AllAfter corner_of c tiles → is_among c tiles ≡ false
not_among c [] h = refl
not_among c (t ∷ ts) h = rw (after_not_same c t.corner h.0) (not_among c ts h.1)

pub filter-absent : (c : Corner) (tiles : List Tile) → is_among c tiles ≡ false → filter (λ t. not (same_corner t.corner c)) tiles ≡ tiles
filter-absent c [] absent = refl
filter-absent c (t ∷ ts) absent =
    let apart = or_parts (same_corner t.corner c) (is_among c ts) absent in
    rw apart.0 (ap (λ rest. t ∷ rest) (filter-absent c ts apart.1))

pub set-absent : (c : Corner) (i : ℕ) (s : ℤ) (tiles : List Tile) → is_among c tiles ≡ false → map (with_sample_in c i s) tiles ≡ tiles
set-absent c i s [] absent = refl
set-absent c i s (t ∷ ts) absent =
    let apart = or_parts (same_corner t.corner c) (is_among c ts) absent in
    ap₂ (λ (x : Tile) (xs : List Tile). x ∷ xs) (cond-false (same_corner t.corner c) _ _ apart.0) (set-absent c i s ts apart.1)

pub tiles-remove : (c : Corner) (es : List Entry) → Rising corner_of (tiles_in es) → tiles_in (remove_entry (is_at (corner_cmp c)) es) ≡ filter (λ t. not (same_corner t.corner c)) (tiles_in es)
tiles-remove c [] rising = refl
tiles-remove c (e ∷ es) rising = rw (tied_is c e.0) (by (tiles-remove c es rising.1) (same_corner e.0 c) refl)
  where
    by : tiles_in (remove_entry (is_at (corner_cmp c)) es) ≡ filter (λ t. not (same_corner t.corner c)) (tiles_in es)
        → (b : Bool) → same_corner e.0 c ≡ b → tiles_in (cond b es (e ∷ remove_entry (is_at (corner_cmp c)) es)) ≡ cond (not b) (record { corner = e.0; samples = e.1.items } ∷ filter (λ t. not (same_corner t.corner c)) (tiles_in es)) (filter (λ t. not (same_corner t.corner c)) (tiles_in es))
    by rest true same =
        let after : AllAfter corner_of c (tiles_in es) = subst (λ p. AllAfter corner_of p (tiles_in es)) (same_says e.0 c same) rising.0 in
        sym (filter-absent c (tiles_in es) (not_among c (tiles_in es) after))
    by rest false other = ap (λ (ts : List Tile). record { corner = e.0; samples = e.1.items } ∷ ts) rest

-- the tiles after one sample of the corner's entry changed
pub tiles-set : (c : Corner) (i : ℕ) (s : ℤ) (w : Vec ℤ) (es : List Entry) → Rising corner_of (tiles_in es)
    → ((v : Vec ℤ) → lookup (is_at (corner_cmp c)) es ≡ Some v → w.items ≡ slice_set v.items i s)
    → tiles_in (set_value (is_at (corner_cmp c)) es w) ≡ map (with_sample_in c i s) (tiles_in es)
tiles-set c i s w [] rising changed = refl
tiles-set c i s w (e ∷ es) rising changed = by (tiles-set c i s w es rising.1) (is_eq (corner_cmp c e.0)) refl
  where
    by : (((v : Vec ℤ) → lookup (is_at (corner_cmp c)) es ≡ Some v → w.items ≡ slice_set v.items i s) → tiles_in (set_value (is_at (corner_cmp c)) es w) ≡ map (with_sample_in c i s) (tiles_in es))
        → (b : Bool) → is_eq (corner_cmp c e.0) ≡ b → tiles_in (cond b ((e.0, w) ∷ es) (e ∷ set_value (is_at (corner_cmp c)) es w)) ≡ with_sample_in c i s (record { corner = e.0; samples = e.1.items }) ∷ map (with_sample_in c i s) (tiles_in es)
    by rest true tied =
        let same : same_corner e.0 c ≡ true = sym (tied_is c e.0) ∙ tied in
        let after : AllAfter corner_of c (tiles_in es) = subst (λ p. AllAfter corner_of p (tiles_in es)) (same_says e.0 c same) rising.0 in
        let items : w.items ≡ slice_set e.1.items i s = changed e.1 (rw tied refl) in
        rw (same, items, set-absent c i s (tiles_in es) (not_among c (tiles_in es) after)) refl
    by rest false other =
        let apart : same_corner e.0 c ≡ false = sym (tied_is c e.0) ∙ other in
        rw apart (ap (λ (ts : List Tile). record { corner = e.0; samples = e.1.items } ∷ ts) (rest (λ v found. changed v (rw other found))))

pub length-found : (n : ℕ) (c : Corner) (v : Vec ℤ) (es : List Entry) → All (IsTile n) (tiles_in es) → lookup (is_at (corner_cmp c)) es ≡ Some v → length v.items ≡ n * n
length-found n c v [] all found = absurd (cc)
length-found n c v (e ∷ es) all found = by (is_eq (corner_cmp c e.0)) found (length-found n c v es (All-tail (IsTile n) (record { corner = e.0; samples = e.1.items }) (tiles_in es) all))
  where
    by : (b : Bool) → cond b (Some e.1) (lookup (is_at (corner_cmp c)) es) ≡ Some v → (lookup (is_at (corner_cmp c)) es ≡ Some v → length v.items ≡ n * n) → length v.items ≡ n * n
    by true here later =
        let this : e.1 ≡ v = cc in
        ap (λ (w : Vec ℤ). length w.items) (sym this) ∙ (All-head (IsTile n) (record { corner = e.0; samples = e.1.items }) (tiles_in es) all).whole
    by false there later = later there

-- No tile has a corner without an entry.
pub absent-lookup : (c : Corner) (es : List Entry) → lookup (is_at (corner_cmp c)) es ≡ None → is_among c (tiles_in es) ≡ false
absent-lookup c [] none = refl
absent-lookup c (e ∷ es) none = by (same_corner e.0 c) (rw (← tied_is c e.0) none) (absent-lookup c es)
  where
    by : (b : Bool) → cond b (Some e.1) (lookup (is_at (corner_cmp c)) es) ≡ None → (lookup (is_at (corner_cmp c)) es ≡ None → is_among c (tiles_in es) ≡ false) → (b || is_among c (tiles_in es)) ≡ false
    by true here later = absurd (cc)
    by false there later = later there

-- ---- the mosaic of a table's fields, which is `now`
abbrev pub mosaic_in : ℕ → List Point → List Entry → Mosaic
mosaic_in n ps es = record { side = n; tiles = tiles_in es; sinks = ps }

module _ (n : ℕ) (ps : List Point) (es new : List Entry) (now : Mosaic) (view : mosaic_in n ps es ≡ now) (valid : IsMosaic (mosaic_in n ps es)) (c : Corner) where
  mosaic-inserted : (v : Vec ℤ) → IsFalse (is_present now c) → new ≡ insert_entry corner_cmp es c v
      → mosaic_in n ps new ≡ added (record { corner = c; samples = v.items }) (mosaic_in n ps es)
  mosaic-inserted v absent e =
      ap (λ (ts : List Tile). record { side = n; tiles = ts; sinks = ps }) (ap tiles_in e ∙ tiles-insert c v es (subst (λ (m : Mosaic). IsFalse (is_present m c)) (sym view) absent))

  pub added_is : (v : Vec ℤ) → IsFalse (is_present now c) → new ≡ insert_entry corner_cmp es c v
      → mosaic_in n ps new ≡ added (record { corner = c; samples = v.items }) now
  added_is v absent e = mosaic-inserted v absent e ∙ ap (added (record { corner = c; samples = v.items })) view

  pub added_valid : (v : Vec ℤ) → IsTrue (is_corner c) → vec_len v ≡ now.side * now.side → All IsSample v.items → IsFalse (is_present now c)
      → new ≡ insert_entry corner_cmp es c v → IsMosaic (mosaic_in n ps new)
  added_valid v corner whole samples absent e =
      let side : now.side ≡ n = sym (ap (λ (m : Mosaic). m.side) view) in
      let tile : IsTile n (record { corner = c; samples = v.items }) = record {
        corner = corner;
        whole = sym v.ok.0 ∙ whole ∙ ap (λ k. k * k) side;
        samples = samples;
      } in
      subst IsMosaic (sym (mosaic-inserted v absent e))
      (mosaic-added (record { corner = c; samples = v.items }) (mosaic_in n ps es) valid tile (subst (λ (m : Mosaic). IsFalse (is_present m c)) (sym view) absent))

  mosaic-removed : new ≡ remove_entry (is_at (corner_cmp c)) es → mosaic_in n ps new ≡ without c (mosaic_in n ps es)
  mosaic-removed e = ap (λ (ts : List Tile). record { side = n; tiles = ts; sinks = ps }) (ap tiles_in e ∙ tiles-remove c es (rising_tiles (mosaic_in n ps es) valid))

  pub removed_is : new ≡ remove_entry (is_at (corner_cmp c)) es → mosaic_in n ps new ≡ without c now
  removed_is e = mosaic-removed e ∙ ap (without c) view

  pub removed_valid : new ≡ remove_entry (is_at (corner_cmp c)) es → IsMosaic (mosaic_in n ps new)
  removed_valid e = subst IsMosaic (sym (mosaic-removed e)) (mosaic-without c (mosaic_in n ps es) valid)

  -- A tile's samples are as many as every tile has.
  pub range_within : (k : ℕ) (v : Vec ℤ) → Some v ≡ lookup (is_at (corner_cmp c)) es → k ≤ now.side * now.side → k ≤ length v.items
  range_within k v found small =
      let side : now.side ≡ n = sym (ap (λ (m : Mosaic). m.side) view) in
      subst (λ l. k ≤ l) (sym (length-found n c v es valid.tiles (sym found))) (subst (λ l. k ≤ l * l) side small)

  -- the corner's samples v, with another one at an index
  module _ (i : ℕ) (s : ℤ) (v w : Vec ℤ) (found : Some v ≡ lookup (is_at (corner_cmp c)) es) where
    pub index_within : i < now.side * now.side → i < vec_len v
    index_within small =
        let side : now.side ≡ n = sym (ap (λ (m : Mosaic). m.side) view) in
        subst (λ k. i < k) (sym (v.ok.0 ∙ length-found n c v es valid.tiles (sym found))) (subst (λ k. i < k * k) side small)

    mosaic-set : w.items ≡ slice_set v.items i s → new ≡ set_value (is_at (corner_cmp c)) es w → mosaic_in n ps new ≡ with_sample c i s (mosaic_in n ps es)
    mosaic-set items e =
        ap (λ (ts : List Tile). record { side = n; tiles = ts; sinks = ps }) (
        ap tiles_in e
        ∙ tiles-set c i s w es (rising_tiles (mosaic_in n ps es) valid) (λ u here. let same : v ≡ u = cc in items ∙ ap (λ (x : Vec ℤ). slice_set x.items i s) same))

    pub set_is : w.items ≡ slice_set v.items i s → new ≡ set_value (is_at (corner_cmp c)) es w → mosaic_in n ps new ≡ with_sample c i s now
    set_is items e = mosaic-set items e ∙ ap (with_sample c i s) view

    pub set_valid : IsSample s → w.items ≡ slice_set v.items i s → new ≡ set_value (is_at (corner_cmp c)) es w → IsMosaic (mosaic_in n ps new)
    set_valid sample items e = subst IsMosaic (sym (mosaic-set items e)) (mosaic-with_sample c i s (mosaic_in n ps es) valid sample)

  -- A present corner has samples.
  pub found_somewhere : IsTrue (is_present now c) → None ≡ lookup (is_at (corner_cmp c)) es → ⊥
  found_somewhere present none =
      false≢true (sym (absent-lookup c es (sym none)) ∙ subst (λ (m : Mosaic). IsTrue (is_present m c)) (sym view) present)

pub corners-tiles_in : (es : List Entry) → map (λ (t : Tile). t.corner) (tiles_in es) ≡ keys_of es
corners-tiles_in [] = refl
corners-tiles_in (e ∷ es) = ap (λ (cs : List Corner). e.0 ∷ cs) (corners-tiles_in es)

-- ---- the map's entry for a corner
pub some-lookup : (c : Corner) (es : List Entry) → is_some (lookup (is_at (corner_cmp c)) es) ≡ is_among c (tiles_in es)
some-lookup c [] = refl
some-lookup c (e ∷ es) = rw (tied_is c e.0) (elim (same_corner e.0 c) as (λ b. is_some (cond b (Some e.1) (lookup (is_at (corner_cmp c)) es)) ≡ (b || is_among c (tiles_in es))) [
  | true ↦ refl
  | false ↦ some-lookup c es
])

module _ (n : ℕ) (ps : List Point) (es : List Entry) (now : Mosaic) (view : mosaic_in n ps es ≡ now) (c : Corner) where
  pub found-present : is_some (lookup (is_at (corner_cmp c)) es) ≡ is_present now c
  found-present = some-lookup c es ∙ ap (λ (m : Mosaic). is_present m c) view

  pub samples-found : (v : Vec ℤ) → lookup (is_at (corner_cmp c)) es ≡ Some v → samples_of now c ≡ Some v.items
  samples-found v found = sym (ap (option_map (λ (w : Vec ℤ). w.items)) (sym found) ∙ samples-lookup c es ∙ ap (λ (m : Mosaic). samples_of m c) view)
