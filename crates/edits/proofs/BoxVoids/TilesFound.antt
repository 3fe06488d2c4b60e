-- Which tiles have a void point in a box, tile by tile.
use Rattle.edits.proofs.Prelude.{All, All-contains, All-push, AllPairs, Bool, Contains, Contains-get_or, Corner, Ghosts, Holds, IsMosaic, IsTile, List, Mosaic, NothingVoid, OnlyReads, Patch, Point, Tile, ℕ, ℤ, [], all_pairs_push, and_parts, ap, ap₂, arith, both_ways, corners_of, effect, false, false_from_ne_true, false≢true, get_or, has_void, has_void_from, inl, inr, is_box, is_height, is_in_box, is_listed, is_void_at, length, length-append, list_any-append, or_cases, or_left, or_right, patched, point_of, pos, refl, same_corner, same_from, same_says, sym, take, true, ◌&&◌, ◌++◌, ◌<◌, ◌||◌, ◌∙◌, ◌∷◌, ◌≡◌, ◌≤◌, ◌⊎◌}
use Rattle.std.specs.Prelude.{Ok, Err, IsFalse}
use Rattle.std.proofs.Math.Bool.{or-true, and-false, or-false}
use Rattle.std.proofs.lemmas.List.{get_or-take, get_or_default, length-take-le}
use Rattle.lattice.proofs.Samples.{point_of_held}
use Rattle.edits.specs.Edits.{ArePresent, AreVoidTiles}
use Rattle.edits.proofs.BoxVoids.TouchedTiles.{void_says, some_edge}
use Rattle.edits.proofs.BoxVoids.Voids.{any_says, any_from, tile_at}

-- ---- corners without repetition

abbrev pub AreOnce : List Corner → Type 0
AreOnce corners = AllPairs (λ c d. IsFalse (same_corner c d)) corners

pub once_push : (corners : List Corner) (c : Corner) → AreOnce corners → is_listed c corners ≡ false → AreOnce (corners ++ c ∷ [])
once_push corners c once fresh = all_pairs_push (λ d e. IsFalse (same_corner d e)) corners c once apart
  where
    apart : (k : ℕ) (d : Corner) → k < length corners → same_corner (get_or corners k d) c ≡ false
    apart k d below = false_from_ne_true (same_corner (get_or corners k d) c) (λ same. both_ways (is_listed c corners) fresh (any_from (λ e. same_corner e c) corners (get_or corners k d) (Contains-get_or corners k d below) same))

-- The corner at an index isn't among those before it.
pub not_before : (corners : List Corner) (i : ℕ) (c : Corner) → AreOnce corners → i < length corners → c ≡ get_or corners i c → is_listed c (take i corners) ≡ false
not_before corners i c once below here = false_from_ne_true (is_listed c (take i corners)) (λ some.
    let found = any_says (λ d. same_corner d c) (take i corners) some in
    let k = found.1.0.0 in
    let before : k < i = let within = found.1.0.1 in let long = length-take-le i corners (omega arith) in omega (arith, within, long) in
    let at : get_or corners k c ≡ found.0 = get_or_default corners k c found.0 (omega arith) ∙ sym (get_or-take i corners k found.0 before) ∙ found.1.0.2 in
    both_ways (same_corner (get_or corners k c) (get_or corners i c)) (once k i c before below)
    (ap₂ same_corner at (sym here) ∙ found.1.1))

-- Of these tiles, exactly those that were searched and have a void point in the box were found.
pub record FindsTiles {S : Type 0} (g : Ghosts S) (from to : Point) (looked : List Corner) (old now : S) (tiles : List Corner) : Type 0 where
  pub reads : OnlyReads {T = Unit {0}} g old now (Ok tt)
  pub present : ArePresent (g.corners old) tiles
  pub among : (c : Corner) → is_listed c tiles ≡ true → is_listed c looked ≡ true
  pub finds : g.is_honest now → (t : Tile) → Contains (g.mosaic old).tiles t → is_listed t.corner tiles ≡ (is_listed t.corner looked && has_void_from (g.mosaic old) from to t.corner 0 t.samples)
  pub few : length tiles ≤ length looked

module _ {S : Type 0} (g : Ghosts S) (from to : Point) where
  module _ (looked : List Corner) (c : Corner) (old mid now : S) (tiles : List Corner) (so : FindsTiles g from to looked old mid tiles) (reads : OnlyReads {T = Unit {0}} g old now (Ok tt)) (still : g.is_honest now → g.is_honest mid) where
    listed_more : (list : List Corner) (p : Corner) → is_listed p (list ++ c ∷ []) ≡ (is_listed p list || same_corner c p)
    listed_more list p = list_any-append (λ d. same_corner d p) list (c ∷ []) ∙ ap (λ (b : Bool). is_listed p list || b) (or-false (same_corner c p))

    other_tile : (a l v s : Bool) → a ≡ (l && v) → s ≡ false → a ≡ ((l || s) && v)
    other_tile a l v true is no_ = absurd (false≢true (sym no_))
    other_tile a true v false is no_ = is
    other_tile a false v false is no_ = is

    among_more : (p : Corner) → is_listed p tiles ≡ true → is_listed p (looked ++ c ∷ []) ≡ true
    among_more p named = listed_more looked p ∙ or_left (is_listed p looked) (same_corner c p) (so.among p named)

    -- The next tile isn't present, or has no void point in the box.
    pub finds_skip : (g.is_honest now → (t : Tile) → Contains (g.mosaic old).tiles t → t.corner ≡ c → has_void_from (g.mosaic old) from to t.corner 0 t.samples ≡ false) →
        FindsTiles g from to (looked ++ c ∷ []) old now tiles
    finds_skip none = record {
      reads = reads;
      present = so.present;
      among = among_more;
      finds = λ honest t there. by t (same_corner c t.corner) refl (so.finds (still honest) t there) (none honest t there) ∙ ap (λ (b : Bool). b && has_void_from (g.mosaic old) from to t.corner 0 t.samples) (sym (listed_more looked t.corner));
      few = let more = length-append looked (c ∷ []) in omega (arith, so.few, more);
    }
      where
        this : (a l v s : Bool) → a ≡ (l && v) → v ≡ false → a ≡ ((l || s) && v)
        this a l true s is no_ = absurd (false≢true (sym no_))
        this a true false s is no_ = is
        this a false false s is no_ = is ∙ sym (and-false s)

        by : (t : Tile) (b : Bool) → same_corner c t.corner ≡ b → is_listed t.corner tiles ≡ (is_listed t.corner looked && has_void_from (g.mosaic old) from to t.corner 0 t.samples)
            → (t.corner ≡ c → has_void_from (g.mosaic old) from to t.corner 0 t.samples ≡ false)
            → is_listed t.corner tiles ≡ ((is_listed t.corner looked || same_corner c t.corner) && has_void_from (g.mosaic old) from to t.corner 0 t.samples)
        by t true same is known =
            this (is_listed t.corner tiles) (is_listed t.corner looked) (has_void_from (g.mosaic old) from to t.corner 0 t.samples) (same_corner c t.corner) is (known (sym (same_says c t.corner same)))
        by t false apart is known = other_tile (is_listed t.corner tiles) (is_listed t.corner looked) (has_void_from (g.mosaic old) from to t.corner 0 t.samples) (same_corner c t.corner) is apart

    -- The next tile has a void point in the box.
    pub finds_put : Contains (g.corners old) c → is_listed c looked ≡ false → (g.is_honest now → (t : Tile) → Contains (g.mosaic old).tiles t → t.corner ≡ c → has_void_from (g.mosaic old) from to t.corner 0 t.samples ≡ true) →
        FindsTiles g from to (looked ++ c ∷ []) old now (tiles ++ c ∷ [])
    finds_put there fresh void = record {
      reads = reads;
      present = record {
        present = All-push (Contains (g.corners old)) tiles c so.present.present there;
        once = once_push tiles c so.present.once (false_from_ne_true (is_listed c tiles) (λ named. both_ways (is_listed c looked) fresh (so.among c named)));
      };
      among = λ p named. among_put p (or_cases (is_listed p tiles) (same_corner c p) (sym (listed_more tiles p) ∙ named));
      finds = λ honest t is_there. listed_more tiles t.corner ∙ by t (same_corner c t.corner) refl (so.finds (still honest) t is_there) (void honest t is_there) ∙ ap (λ (b : Bool). b && has_void_from (g.mosaic old) from to t.corner 0 t.samples) (sym (listed_more looked t.corner));
      few = let more = length-append looked (c ∷ []) in let put = length-append tiles (c ∷ []) in omega (arith, so.few, more, put);
    }
      where
        among_put : (p : Corner) → (is_listed p tiles ≡ true) ⊎ (same_corner c p ≡ true) → is_listed p (looked ++ c ∷ []) ≡ true
        among_put p (inl before) = among_more p before
        among_put p (inr this) = listed_more looked p ∙ or_right (is_listed p looked) (same_corner c p) this

        this : (a l v s : Bool) → s ≡ true → v ≡ true → (a || s) ≡ ((l || s) && v)
        this a l true true is void = or-true a ∙ sym (ap (λ (b : Bool). b && true) (or-true l))
        this a l false true is void = cc
        this a l v false is void = cc

        neither : (a l v s : Bool) → a ≡ (l && v) → s ≡ false → (a || s) ≡ ((l || s) && v)
        neither a l v s is no_ = drops a s no_ ∙ other_tile a l v s is no_
          where
            drops : (a s : Bool) → s ≡ false → (a || s) ≡ a
            drops true s no_ = refl
            drops false s no_ = no_

        by : (t : Tile) (b : Bool) → same_corner c t.corner ≡ b → is_listed t.corner tiles ≡ (is_listed t.corner looked && has_void_from (g.mosaic old) from to t.corner 0 t.samples)
            → (t.corner ≡ c → has_void_from (g.mosaic old) from to t.corner 0 t.samples ≡ true)
            → (is_listed t.corner tiles || same_corner c t.corner) ≡ ((is_listed t.corner looked || same_corner c t.corner) && has_void_from (g.mosaic old) from to t.corner 0 t.samples)
        by t true same is known = this (is_listed t.corner tiles) (is_listed t.corner looked) (has_void_from (g.mosaic old) from to t.corner 0 t.samples) (same_corner c t.corner) same (known (sym (same_says c t.corner same)))
        by t false other is known = neither (is_listed t.corner tiles) (is_listed t.corner looked) (has_void_from (g.mosaic old) from to t.corner 0 t.samples) (same_corner c t.corner) is other

  -- All tiles with a point of the box were searched.
  pub finds_all : (looked : List Corner) (old now : S) (tiles : List Corner) → FindsTiles g from to looked old now tiles → (g.is_honest now → IsMosaic (g.mosaic old))
      → ((c : Corner) (p : Point) → is_in_box from to p ≡ true → Holds (g.mosaic old).side c p → Contains looked c) → g.is_honest now → AreVoidTiles (g.mosaic old) from to tiles
  finds_all looked old now tiles so is_mosaic all honest t there = so.finds honest t there ∙ by (has_void_from m from to t.corner 0 t.samples) refl
    where
      m : Mosaic
      m = g.mosaic old

      valid : IsMosaic m
      valid = is_mosaic honest

      tile : IsTile m.side t
      tile = All-contains (IsTile m.side) m.tiles t valid.tiles there

      by : (b : Bool) → has_void_from m from to t.corner 0 t.samples ≡ b → (is_listed t.corner looked && b) ≡ b
      by true some =
          let one = void_says m valid from to t tile some in
          let p = point_of m.side t.corner one.0 in
          let parts = and_parts (is_in_box from to p) (is_void_at m p) one.1.1 in
          let held : Holds m.side t.corner p = point_of_held m.side t.corner one.0 (some_edge m.side valid.side_low) tile.corner one.1.0 in
          ap (λ (b : Bool). b && true) (any_from (λ d. same_corner d t.corner) looked t.corner (all t.corner p parts.0 held) (same_from t.corner t.corner refl))
      by false none = and-false (is_listed t.corner looked)

-- the effect of a patch, from the tiles found

module _ (m : Mosaic) (from to : Point) (tiles : List Corner) (voids : AreVoidTiles m from to tiles) where
  some_tile : All (Contains (corners_of m)) tiles → 0 < length tiles → has_void m from to ≡ true
  some_tile present some =
      let none : Corner = record { lat = pos 0; lon = pos 0 } in
      let first = get_or tiles 0 none in
      let tile = tile_at m first (present 0 none some) in
      let t = tile.0 in
      let named : is_listed t.corner tiles ≡ true = any_from (λ d. same_corner d t.corner) tiles first (Contains-get_or tiles 0 none some) (same_from first t.corner (sym tile.1.1)) in
      any_from (λ (u : Tile). has_void_from m from to u.corner 0 u.samples) m.tiles t tile.1.0 (sym (voids t tile.1.0) ∙ named)

  no_tile : length tiles ≡ 0 → has_void m from to ≡ false
  no_tile none = false_from_ne_true (has_void m from to) (λ some.
      let found = any_says (λ (u : Tile). has_void_from m from to u.corner 0 u.samples) m.tiles some in
      let named = any_says (λ d. same_corner d found.0.corner) tiles (voids found.0 found.1.0 ∙ found.1.1) in
      let below = named.1.0.1 in
      absurd (omega (arith, below, none)))

  pub patch_made : (capacity : ℕ) (h : ℤ) → is_height h ≡ true → is_box m.side from to ≡ true → All (Contains (corners_of m)) tiles → 0 < length tiles → effect capacity m (Patch from to h) ≡ Ok (patched from to h m)
  patch_made capacity h in_range box_ present some = rw (in_range, box_, some_tile present some) refl

  pub patch_none : (capacity : ℕ) (h : ℤ) → is_height h ≡ true → is_box m.side from to ≡ true → length tiles ≡ 0 → effect capacity m (Patch from to h) ≡ Err NothingVoid
  patch_none capacity h in_range box_ none = rw (in_range, box_, no_tile none) refl
