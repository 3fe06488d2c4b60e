-- The samples at a point, looked up by the corners whose tiles have it.
use Rattle.catalogue.proofs.Prelude.{Adjacent, All, All-head, All-tail, AllAfter, Bool, Contains, Corner, Holds, IsMosaic, IsTile, IsTrue, List, Mosaic, None, Option, Point, Rising, Some, Tile, ℕ, ℤ, [], after_later, after_not_same, ap, ap₂, cond, false, false_from_ne_true, false≢true, holds, holds_is, index_of, is_before, is_corner, is_listed, map, option_map, refl, rising_from, same_comm, same_corner, same_from, same_says, sample_in, samples_among, slice_index_or, subst, sym, true, void, ◌||◌, ◌↔◌, ◌∙◌, ◌∷◌, ◌≡◌}
use Rattle.std.specs.List.{filter, filter_map, cons_option}
use Rattle.lattice.specs.Height.{sample_at, samples_at}
use Rattle.catalogue.proofs.Mosaics.{corner_of, rising_tiles}
use Rattle.catalogue.proofs.Presence.{listed_from, listed_says}

abbrev pub itself : Corner → Corner
itself c = c

-- A corner before all corners of a list isn't in the list.
pub not_listed : (c : Corner) (cs : List Corner) → AllAfter itself c cs → is_listed c cs ≡ false
not_listed c [] h = refl
not_listed c (d ∷ ds) h = rw (after_not_same c d h.0) (not_listed c ds h.1)

pub listed_after : (c d : Corner) (cs : List Corner) → AllAfter itself c cs → is_listed d cs ≡ true → IsTrue (is_before c d)
listed_after c d [] h listed = absurd (false≢true listed)
listed_after c d (e ∷ es) h listed = by (same_corner e d) refl listed (listed_after c d es h.1)
  where
    by : (b : Bool) → same_corner e d ≡ b → (b || is_listed d es) ≡ true → (is_listed d es ≡ true → IsTrue (is_before c d)) → IsTrue (is_before c d)
    by true same there later = subst (λ f. IsTrue (is_before c f)) (same_says e d same) h.0
    by false other there later = later there

pub none_after : (c : Corner) (tiles : List Tile) → AllAfter corner_of c tiles → samples_among tiles c ≡ None
none_after c [] h = refl
none_after c (t ∷ ts) h = rw (after_not_same c t.corner h.0) (none_after c ts h.1)

module _ (n : ℕ) (p : Point) where
  -- the point's sample in the corner's tile, if one of these tiles is the corner's
  abbrev said : List Tile → Corner → Option ℤ
  said tiles c = cond (holds n c p) (option_map (λ (samples : List ℤ). slice_index_or samples (index_of n c p) void) (samples_among tiles c)) None

  abbrev all_said : List Tile → List Corner → List ℤ
  all_said tiles cs = filter_map (said tiles) cs

  said_none : (tiles : List Tile) (c : Corner) → samples_among tiles c ≡ None → said tiles c ≡ None
  said_none tiles c none = rw none (elim (holds n c p) as (λ b. cond b (option_map (λ (samples : List ℤ). slice_index_or samples (index_of n c p) void) None) None ≡ None) [ true ↦ refl | false ↦ refl ])

  said_first : (t : Tile) (ts : List Tile) → holds n t.corner p ≡ true → said (t ∷ ts) t.corner ≡ Some (sample_at n t p)
  said_first t ts within = rw (within, same_from t.corner t.corner refl) refl

  -- A tile whose corner isn't in the list gives no sample.
  unnamed : (t : Tile) (ts : List Tile) (cs : List Corner) → is_listed t.corner cs ≡ false → all_said (t ∷ ts) cs ≡ all_said ts cs
  unnamed t ts [] other = refl
  unnamed t ts (c ∷ cs) other = by (same_corner c t.corner) refl other (unnamed t ts cs)
    where
      by : (b : Bool) → same_corner c t.corner ≡ b → (b || is_listed t.corner cs) ≡ false → (is_listed t.corner cs ≡ false → all_said (t ∷ ts) cs ≡ all_said ts cs) → all_said (t ∷ ts) (c ∷ cs) ≡ all_said ts (c ∷ cs)
      by true same none later = absurd (false≢true (sym none))
      by false apart none later =
          let first : said (t ∷ ts) c ≡ said ts c = rw (same_comm c t.corner apart) refl in
          ap₂ cons_option first (later none)

  -- The first tile's sample is the first.
  named : (t : Tile) (ts : List Tile) (cs : List Corner) → holds n t.corner p ≡ true → AllAfter corner_of t.corner ts → Rising itself cs → is_listed t.corner cs ≡ true
      → all_said (t ∷ ts) cs ≡ sample_at n t p ∷ all_said ts cs
  named t ts [] within after rising listed = absurd (false≢true listed)
  named t ts (c ∷ cs) within after rising listed = by (same_corner c t.corner) refl listed (named t ts cs within after rising.1)
    where
      by : (b : Bool) → same_corner c t.corner ≡ b → (b || is_listed t.corner cs) ≡ true → (is_listed t.corner cs ≡ true → all_said (t ∷ ts) cs ≡ sample_at n t p ∷ all_said ts cs)
          → all_said (t ∷ ts) (c ∷ cs) ≡ sample_at n t p ∷ all_said ts (c ∷ cs)
      by true same there later =
          let is : c ≡ t.corner = same_says c t.corner same in
          let first : said (t ∷ ts) c ≡ Some (sample_at n t p) = ap (said (t ∷ ts)) is ∙ said_first t ts within in
          let none : said ts c ≡ None = ap (said ts) is ∙ said_none ts t.corner (none_after t.corner ts after) in
          let others : all_said (t ∷ ts) cs ≡ all_said ts cs = unnamed t ts cs (not_listed t.corner cs (subst (λ d. AllAfter itself d cs) is rising.0)) in
          ap₂ cons_option first others ∙ ap (λ (o : Option ℤ). sample_at n t p ∷ cons_option o (all_said ts cs)) (sym none)
      by false apart there later =
          let before : IsTrue (is_before c t.corner) = listed_after c t.corner cs rising.0 there in
          let beyond : AllAfter corner_of c ts = after_later corner_of c t.corner ts before after in
          let first : said (t ∷ ts) c ≡ None = said_none (t ∷ ts) c (none_after c (t ∷ ts) (before, beyond)) in
          let none : said ts c ≡ None = said_none ts c (none_after c ts beyond) in
          ap₂ cons_option first (later there) ∙ ap (λ (o : Option ℤ). sample_at n t p ∷ cons_option o (all_said ts cs)) (sym none)

  no_tiles : (cs : List Corner) → all_said [] cs ≡ []
  no_tiles [] = refl
  no_tiles (c ∷ cs) = ap₂ cons_option (said_none [] c refl) (no_tiles cs)

  all_are : (tiles : List Tile) (cs : List Corner) → All (IsTile n) tiles → Rising corner_of tiles → Rising itself cs
      → ((c : Corner) → IsTrue (is_corner c) → holds n c p ≡ true → is_listed c cs ≡ true)
      → ((c : Corner) → is_listed c cs ≡ true → holds n c p ≡ true)
      → all_said tiles cs ≡ map (λ t. sample_at n t p) (filter (λ t. holds n t.corner p) tiles)
  all_are [] cs all rising corners_rise from to = no_tiles cs
  all_are (t ∷ ts) cs all rising corners_rise from to = by (holds n t.corner p) refl (all_are ts cs (All-tail (IsTile n) t ts all) rising.1 corners_rise from to)
    where
      by : (b : Bool) → holds n t.corner p ≡ b → all_said ts cs ≡ map (λ (x : Tile). sample_at n x p) (filter (λ (x : Tile). holds n x.corner p) ts)
          → all_said (t ∷ ts) cs ≡ map (λ (x : Tile). sample_at n x p) (cond b (t ∷ filter (λ (x : Tile). holds n x.corner p) ts) (filter (λ (x : Tile). holds n x.corner p) ts))
      by true within rest = named t ts cs within rising.0 corners_rise (from t.corner (All-head (IsTile n) t ts all).corner within) ∙ ap (λ (l : List ℤ). sample_at n t p ∷ l) rest
      by false outside rest = unnamed t ts cs (false_from_ne_true (is_listed t.corner cs) (λ listed. false≢true (sym outside ∙ to t.corner listed))) ∙ rest

-- The corners whose tiles have a point, in order, give the samples at it.
pub samples_from_holders : (m : Mosaic) (p : Point) (cs : List Corner) → IsMosaic m → Adjacent itself cs → ((c : Corner) → Contains cs c ↔ Holds m.side c p)
    → filter_map (λ c. sample_in m c p) cs ≡ samples_at m p
samples_from_holders m p cs valid in_order exactly =
    all_are m.side p m.tiles cs valid.tiles (rising_tiles m valid) (rising_from itself cs in_order)
    (λ c corner within. listed_from c cs ((exactly c).1 ((holds_is m.side c p valid.side_low corner).0 within)))
    (λ c listed. let held = (exactly c).0 (listed_says c cs listed) in (holds_is m.side c p valid.side_low held.corner).1 held)
