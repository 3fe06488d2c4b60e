-- What a command leaves unchanged: tiles that it doesn't touch, and blocks that aren't stale.
use Rattle.edits.proofs.Prelude.{All-contains, Bool, Burn, Command, Corner, Import, IsMosaic, IsTile, List, Mosaic, Ok, Patch, Point, Remove, Sink, Tile, Unsink, Wall, ℕ, ℤ, [], add-zero, added, adjacent_from, and_from, ap, ap₂, arith, both_ways, burnt, by_seam_rule, changed_from, cond, corners_of, edited, effect, false, false_from_ne_true, has_void_from, height_of, int_max, is_before, is_named, length, lt-ltb, map, metres, nat_abs, nat_lt, not, patched, refl, rising-filter, same_comm, same_corner, same_says, sample_at, samples_in, subst, suc, sym, true, walled, with_point, with_sinks, with_tile, without, without_point, zero, zero-add, ◌&&◌, ◌+◌, ◌-ℤ◌, ◌<◌, ◌||◌, ◌∙◌, ◌∷◌, ◌≡◌, ◌≤◌}
use Rattle.std.specs.List.{Contains, filter, list_any, AllAdjacentBelow}
use Rattle.lattice.specs.Lattice.{IsBefore, point_of, holds}
use Rattle.catalogue.proofs.Presence.{corners_rise}
use Rattle.edits.specs.Touched.{holds_one, is_touched, goes_stale, stale_after, is_near_one, are_neighbours}
use Rattle.edits.proofs.Accepted.{IsMade, accepted_is}
use Rattle.edits.proofs.BoxVoids.TouchedTiles.{HasOne, named_from, void_from}
use Rattle.edits.proofs.BoxVoids.Voids.{is_void_within, any_from}
use Rattle.catalogue.proofs.Nearby.{holders_near}

-- a tile that was there is there with one more
pub kept_with : (new t : Tile) (ts : List Tile) → Contains ts t → Contains (with_tile new ts) t
kept_with new t [] (k, below, here) = absurd (omega arith)
kept_with new t (u ∷ ts) there = elim (is_before new.corner u.corner) as (λ b. Contains (cond b (new ∷ (u ∷ ts)) (u ∷ with_tile new ts)) t) [
  | true ↦ (suc there.0, omega (arith, there.1), there.2)
  | false ↦ by there (kept_with new t ts)
]
  where
    by : Contains (u ∷ ts) t → (Contains ts t → Contains (with_tile new ts) t) → Contains (u ∷ with_tile new ts) t
    by (zero, below, here) again = (0, omega arith, here)
    by (suc k, below, here) again = let later = again (k, omega arith, here) in (suc later.0, omega (arith, later.1), later.2)

-- .. and among those that pass a test, if it does
pub kept_by : (test : Tile → Bool) (t : Tile) (ts : List Tile) → test t ≡ true → Contains ts t → Contains (filter test ts) t
kept_by test t [] passes (k, below, here) = absurd (omega arith)
kept_by test t (u ∷ ts) passes (zero, below, here) =
    subst (λ b. Contains (cond b (u ∷ filter test ts) (filter test ts)) t) (sym (ap test here ∙ passes)) (0, omega arith, here)
kept_by test t (u ∷ ts) passes (suc k, below, here) =
    let later = kept_by test t ts passes (k, omega arith, here) in
    elim (test u) as (λ b. Contains (cond b (u ∷ filter test ts) (filter test ts)) t) [
      | true ↦ (suc later.0, omega (arith, later.1), later.2)
      | false ↦ later
    ]

unchanged : (f : ℕ → ℤ → ℤ) (e : ℕ) (l : List ℤ) → ((k : ℕ) (s : ℤ) → k < length l → f (e + k) s ≡ s) → changed_from f e l ≡ l
unchanged f e [] same = refl
unchanged f e (s ∷ rest) same =
    ap₂ (λ (x : ℤ) (xs : List ℤ). x ∷ xs) (ap (λ i. f i s) (sym (add-zero e)) ∙ same 0 s (omega arith))
    (unchanged f (e + 1) rest (λ k x below. let next : e + 1 + k ≡ e + suc k = omega arith in ap (λ i. f i x) next ∙ same (suc k) x (omega arith)))

map_keeps : (g : Tile → Tile) (t : Tile) (ts : List Tile) → g t ≡ t → Contains ts t → Contains (map g ts) t
map_keeps g t [] same (k, below, here) = absurd (omega arith)
map_keeps g t (u ∷ ts) same (zero, below, here) = (0, omega arith, ap g here ∙ same)
map_keeps g t (u ∷ ts) same (suc k, below, here) = let later = map_keeps g t ts same (k, omega arith, here) in (suc later.0, omega (arith, later.1), later.2)

-- A tile without points that pass the test stays the same.
pub edit_same : (m : Mosaic) (test : Point → Bool) (sample : Point → ℤ → ℤ) (t : Tile) → IsTile m.side t → (HasOne m test t → ⊥) →
    ◌≡◌ {A = Tile} (record { corner = t.corner; samples = changed_from (λ e s. cond (test (point_of m.side t.corner e)) (sample (point_of m.side t.corner e) s) s) 0 t.samples }) t
edit_same m test sample t tile none =
    ap (λ (l : List ℤ). record { corner = t.corner; samples = l }) (unchanged (λ e s. cond (test (point_of m.side t.corner e)) (sample (point_of m.side t.corner e) s) s) 0 t.samples same)
  where
    same : (k : ℕ) (s : ℤ) → k < length t.samples → cond (test (point_of m.side t.corner (0 + k))) (sample (point_of m.side t.corner (0 + k)) s) s ≡ s
    same k s below =
        let p = point_of m.side t.corner (0 + k) in
        let fails : test p ≡ false = false_from_ne_true (test p) (λ passes. none (k, (omega (arith, tile.whole), ap (λ i. test (point_of m.side t.corner i)) (sym (zero-add k)) ∙ passes))) in
        ap (λ b. cond b (sample p s) s) fails

edited_keeps : (m : Mosaic) (test : Point → Bool) (sample : Point → ℤ → ℤ) (t : Tile) → IsTile m.side t → (HasOne m test t → ⊥) → Contains m.tiles t →
    Contains (edited (λ p s. cond (test p) (sample p s) s) m).tiles t
edited_keeps m test sample t tile none there =
    map_keeps (λ u. record { corner = u.corner; samples = changed_from (λ e s. cond (test (point_of m.side u.corner e)) (sample (point_of m.side u.corner e) s) s) 0 u.samples }) t m.tiles
    (edit_same m test sample t tile none) there

pub untouched_stays : (capacity : ℕ) (m : Mosaic) (c : Command) (new : Mosaic) (t : Tile) → IsMosaic m → effect capacity m c ≡ Ok new → Contains m.tiles t → is_touched m c t ≡ false → Contains new.tiles t
untouched_stays capacity m c new t valid made there untouched = by c untouched (accepted_is capacity m c new made)
  where
    tile : IsTile m.side t
    tile = All-contains (IsTile m.side) m.tiles t valid.tiles there

    here : (x : Mosaic) → new ≡ x → Contains x.tiles t → Contains new.tiles t
    here x is kept = subst (λ (y : Mosaic). Contains y.tiles t) (sym is) kept

    by : (d : Command) → is_touched m d t ≡ false → IsMade capacity m d new → Contains new.tiles t
    by (Import corner bytes) other (whole, absent, room, is) =
        let in_ : Tile = record { corner = corner; samples = samples_in bytes } in
        here (added in_ m) is (kept_with in_ t m.tiles there)
    by (Remove corner) other is =
        let apart : not (same_corner t.corner corner) ≡ true = ap not (same_comm corner t.corner other) in
        here (without corner m) is (kept_by (λ u. not (same_corner u.corner corner)) t m.tiles apart there)
    by (Patch from to h) other (in_range, is) =
        here (patched from to h m) is (edited_keeps m (is_void_within m from to) (λ _ _. h) t tile (λ one. both_ways (has_void_from m from to t.corner 0 t.samples) other (void_from m valid from to t tile one)) there)
    by (Burn depth points) other (in_range, fine, is) =
        here (burnt depth points.items m) is (edited_keeps m (is_named points.items) (λ p _. metres (height_of m p) -ℤ depth) t tile (λ one. both_ways (holds_one m points.items t.corner) other (named_from m valid points.items t tile one)) there)
    by (Wall h points) other (in_range, fine, is) =
        here (walled h points.items m) is (edited_keeps m (is_named points.items) (λ p _. int_max (metres (height_of m p)) h) t tile (λ one. both_ways (holds_one m points.items t.corner) other (named_from m valid points.items t tile one)) there)
    by (Sink p) other (sinks, is) = here (with_sinks (with_point p m.sinks) m) is there
    by (Unsink p) other (leaves, is) = here (with_sinks (without_point p m.sinks) m) is there

filtered_among : (test : Corner → Bool) (ps : List Corner) (p : Corner) → Contains (filter test ps) p → Contains ps p
filtered_among test [] p (k, below, here) = absurd (omega arith)
filtered_among test (q ∷ ps) p there = by (test q) there (filtered_among test ps p)
  where
    by : (b : Bool) → Contains (cond b (q ∷ filter test ps) (filter test ps)) p → (Contains (filter test ps) p → Contains ps p) → Contains (q ∷ ps) p
    by true (zero, below, here) again = (0, omega arith, here)
    by true (suc k, below, here) again = let later = again (k, omega arith, here) in (suc later.0, omega (arith, later.1), later.2)
    by false inside again = let later = again inside in (suc later.0, omega (arith, later.1), later.2)

pub stale_is_present : (m : Mosaic) (c : Command) (stale : List Corner) (new : Mosaic) (p : Corner) → Contains (stale_after m c stale new) p → Contains (corners_of new) p
stale_is_present m c stale new p there = filtered_among (λ q. list_any (same_corner q) stale || goes_stale m c q) (corners_of new) p there

pub stale_in_order : (m : Mosaic) (c : Command) (stale : List Corner) (new : Mosaic) → IsMosaic new → AllAdjacentBelow IsBefore (stale_after m c stale new) (length (stale_after m c stale new))
stale_in_order m c stale new valid =
    let test = λ (p : Corner). list_any (same_corner p) stale || goes_stale m c p in
    adjacent_from (λ (p : Corner). p) (filter test (corners_of new)) (rising-filter (λ (p : Corner). p) test (corners_of new) (corners_rise new valid))

-- ---- tiles with a common point are neighbours

both_hold : (n : ℕ) (a b : Corner) (q : Point) → 3 ≤ n → holds n a q ≡ true → holds n b q ≡ true → are_neighbours a b ≡ true
both_hold n a b q side at_a at_b =
    let near = holders_near n a b q side at_a at_b in
    and_from (nat_lt (nat_abs (a.lat -ℤ b.lat)) 2) (nat_lt (nat_abs (a.lon -ℤ b.lon)) 2) (lt-ltb _ 2 near.0) (lt-ltb _ 2 near.1)

-- ---- the samples of a point in the tiles

module _ (n : ℕ) (q : Point) where
  abbrev pub said : List Tile → List ℤ
  said ts = map (λ t. sample_at n t q) (filter (λ t. holds n t.corner q) ts)

  -- one tile more that doesn't hold it
  pub said_with : (t : Tile) (ts : List Tile) → holds n t.corner q ≡ false → said (with_tile t ts) ≡ said ts
  said_with t [] out = ap (λ b. map (λ u. sample_at n u q) (cond b (t ∷ []) [])) out
  said_with t (u ∷ ts) out = elim (is_before t.corner u.corner) as (λ b. said (cond b (t ∷ (u ∷ ts)) (u ∷ with_tile t ts)) ≡ said (u ∷ ts)) [
    | true ↦ ap (λ b. map (λ v. sample_at n v q) (cond b (t ∷ filter (λ v. holds n v.corner q) (u ∷ ts)) (filter (λ v. holds n v.corner q) (u ∷ ts)))) out
    | false ↦ later (holds n u.corner q) (said_with t ts out)
  ]
    where
      later : (b : Bool) → said (with_tile t ts) ≡ said ts →
          map (λ v. sample_at n v q) (cond b (u ∷ filter (λ v. holds n v.corner q) (with_tile t ts)) (filter (λ v. holds n v.corner q) (with_tile t ts)))
          ≡ map (λ v. sample_at n v q) (cond b (u ∷ filter (λ v. holds n v.corner q) ts) (filter (λ v. holds n v.corner q) ts))
      later true rest = ap (λ (l : List ℤ). sample_at n u q ∷ l) rest
      later false rest = rest

  -- one fewer that didn't
  pub said_without : (keep : Tile → Bool) (ts : List Tile) → ((t : Tile) → keep t ≡ false → holds n t.corner q ≡ false) → said (filter keep ts) ≡ said ts
  said_without keep [] out = refl
  said_without keep (t ∷ ts) out = by (keep t) refl (said_without keep ts out)
    where
      kept : (b : Bool) → said (filter keep ts) ≡ said ts →
          map (λ v. sample_at n v q) (cond b (t ∷ filter (λ v. holds n v.corner q) (filter keep ts)) (filter (λ v. holds n v.corner q) (filter keep ts)))
          ≡ map (λ v. sample_at n v q) (cond b (t ∷ filter (λ v. holds n v.corner q) ts) (filter (λ v. holds n v.corner q) ts))
      kept true rest = ap (λ (l : List ℤ). sample_at n t q ∷ l) rest
      kept false rest = rest

      by : (b : Bool) → keep t ≡ b → said (filter keep ts) ≡ said ts → said (cond b (t ∷ filter keep ts) (filter keep ts)) ≡ said (t ∷ ts)
      by true _ rest = kept (holds n t.corner q) rest
      by false gone rest = rest ∙ ap (λ b. map (λ v. sample_at n v q) (cond b (t ∷ filter (λ v. holds n v.corner q) ts) (filter (λ v. holds n v.corner q) ts))) (sym (out t gone))

  -- Tiles that are unchanged at the point give the same samples.
  said_same : (g : Tile → Tile) (ts : List Tile) → ((t : Tile) → (g t).corner ≡ t.corner) → ((t : Tile) → Contains ts t → holds n t.corner q ≡ true → g t ≡ t) → said (map g ts) ≡ said ts
  said_same g [] corners same = refl
  said_same g (t ∷ ts) corners same =
      ap (λ b. map (λ v. sample_at n v q) (cond b (g t ∷ filter (λ v. holds n v.corner q) (map g ts)) (filter (λ v. holds n v.corner q) (map g ts)))) (ap (λ (c : Corner). holds n c q) (corners t))
      ∙ by (holds n t.corner q) refl (said_same g ts corners (λ u there. same u (suc there.0, omega (arith, there.1), there.2)))
    where
      by : (b : Bool) → holds n t.corner q ≡ b → said (map g ts) ≡ said ts →
          map (λ v. sample_at n v q) (cond b (g t ∷ filter (λ v. holds n v.corner q) (map g ts)) (filter (λ v. holds n v.corner q) (map g ts)))
          ≡ map (λ v. sample_at n v q) (cond b (t ∷ filter (λ v. holds n v.corner q) ts) (filter (λ v. holds n v.corner q) ts))
      by true held rest = ap₂ (λ (s : ℤ) (l : List ℤ). s ∷ l) (ap (λ (u : Tile). sample_at n u q) (same t (0, omega arith, refl) held)) rest
      by false out rest = rest

module _ (m : Mosaic) (p : Corner) (q : Point) (valid : IsMosaic m) (inside : holds m.side p q ≡ true) where
  -- A tile that isn't a neighbour doesn't have the point.
  far : (c : Corner) → are_neighbours c p ≡ false → holds m.side c q ≡ false
  far c apart_ = false_from_ne_true (holds m.side c q) (λ held. both_ways (are_neighbours c p) apart_ (both_hold m.side c p q valid.side_low held inside))

  edit_stays : (test : Point → Bool) (sample : Point → ℤ → ℤ) (touched : Tile → Bool) → ((t : Tile) → IsTile m.side t → HasOne m test t → touched t ≡ true) → is_near_one touched m p ≡ false →
      height_of (edited (λ r s. cond (test r) (sample r s) s) m) q ≡ height_of m q
  edit_stays test sample touched from fresh =
      ap by_seam_rule (said_same m.side q (λ u. record { corner = u.corner; samples = changed_from (λ e s. cond (test (point_of m.side u.corner e)) (sample (point_of m.side u.corner e) s) s) 0 u.samples }) m.tiles (λ t. refl)
      (λ t there held. edit_same m test sample t (whole t there) (λ one. hit t there held (from t (whole t there) one))))
    where
      whole : (t : Tile) → Contains m.tiles t → IsTile m.side t
      whole t there = All-contains (IsTile m.side) m.tiles t valid.tiles there

      hit : (t : Tile) → Contains m.tiles t → holds m.side t.corner q ≡ true → touched t ≡ true → ⊥
      hit t there held yes_ = both_ways (is_near_one touched m p) fresh
          (any_from (λ (u : Tile). touched u && are_neighbours u.corner p) m.tiles t there (and_from (touched t) (are_neighbours t.corner p) yes_ (both_hold m.side t.corner p q valid.side_low held inside)))

pub fresh_stays : (capacity : ℕ) (m : Mosaic) (c : Command) (new : Mosaic) (p : Corner) (q : Point) → IsMosaic m → effect capacity m c ≡ Ok new → goes_stale m c p ≡ false → holds m.side p q ≡ true → height_of new q ≡ height_of m q
fresh_stays capacity m c new p q valid made fresh inside = by c fresh (accepted_is capacity m c new made)
  where
    as_made : (x : Mosaic) → new ≡ x → height_of x q ≡ height_of m q → height_of new q ≡ height_of m q
    as_made x is same = ap (λ (y : Mosaic). height_of y q) is ∙ same

    by : (d : Command) → goes_stale m d p ≡ false → IsMade capacity m d new → height_of new q ≡ height_of m q
    by (Import corner bytes) apart_ (whole, absent, room, is) =
        let t : Tile = record { corner = corner; samples = samples_in bytes } in
        as_made (added t m) is (ap by_seam_rule (said_with m.side q t m.tiles (far m p q valid inside corner apart_)))
    by (Remove corner) apart_ is =
        as_made (without corner m) is (ap by_seam_rule (said_without m.side q (λ t. not (same_corner t.corner corner)) m.tiles (λ t gone. far m p q valid inside t.corner (ap (λ (d : Corner). are_neighbours d p) (gone_is t gone) ∙ apart_))))
      where
        gone_is : (t : Tile) → not (same_corner t.corner corner) ≡ false → t.corner ≡ corner
        gone_is t gone = same_says t.corner corner (out (same_corner t.corner corner) gone)
          where
            out : (b : Bool) → not b ≡ false → b ≡ true
            out true e = refl
            out false e = sym e
    by (Patch from to h) fresh_ (in_range, is) =
        as_made (patched from to h m) is (edit_stays m p q valid inside (is_void_within m from to) (λ _ _. h) (λ t. has_void_from m from to t.corner 0 t.samples) (void_from m valid from to) fresh_)
    by (Burn depth points) fresh_ (in_range, fine, is) =
        as_made (burnt depth points.items m) is (edit_stays m p q valid inside (is_named points.items) (λ r _. metres (height_of m r) -ℤ depth) (λ t. holds_one m points.items t.corner) (named_from m valid points.items) fresh_)
    by (Wall h points) fresh_ (in_range, fine, is) =
        as_made (walled h points.items m) is (edit_stays m p q valid inside (is_named points.items) (λ r _. int_max (metres (height_of m r)) h) (λ t. holds_one m points.items t.corner) (named_from m valid points.items) fresh_)
    by (Sink r) fresh_ (sinks, is) = as_made (with_sinks (with_point r m.sinks) m) is refl
    by (Unsink r) fresh_ (leaves, is) = as_made (with_sinks (without_point r m.sinks) m) is refl
