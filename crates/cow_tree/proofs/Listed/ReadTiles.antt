-- Tiles read one after another, as the entries of a root name them.
use Rattle.cow_tree.proofs.Prelude.{All, All-cons, All-nil, All-push, All-take, AllAfter, AreInOrder, Corner, EntryValue, HasRecords, Image, IsLaidOut, IsTrue, KeepsPageRule, List, NoTileAt, Rising, RootValue, TileLocation, ℕ, [], ap, ap₂, arith, drop, entry_of, format_of, get_or, is_before, length, map, pages_of_tile, reached, refl, rising_from, subst, suc, sym, take, times, times-append, zero, ◌++◌, ◌+◌, ◌<◌, ◌∙◌, ◌∷◌, ◌≡◌, ◌≤◌}
use Rattle.std.proofs.lemmas.List.{length-map, take-map, take_more, take-append-drop, map-append}
use Rattle.std.proofs.lemmas.List.Concat.{flat_map-append}
use Rattle.cow_tree.proofs.Standing.{All-front, each_tile}
use Rattle.page_map.proofs.UpgradedTiles.{unmapped}
use Rattle.cow_tree.proofs.OneStored.{one_layout}

abbrev pub entry_corner : EntryValue → Corner
entry_corner e = e.corner

after_at : (c : Corner) (entries : List EntryValue) (k : ℕ) (d : EntryValue) → AllAfter entry_corner c entries → k < length entries → IsTrue (is_before c (get_or entries k d).corner)
after_at c [] k d after lt = absurd (omega arith)
after_at c (e ∷ rest) zero d after lt = after.0
after_at c (e ∷ rest) (suc k) d after lt = after_at c rest k d after.1 (omega arith)

rising_at : (entries : List EntryValue) (k : ℕ) (d : EntryValue) → Rising entry_corner entries → k < length entries → All (λ e. IsTrue (is_before e.corner (get_or entries k d).corner)) (take k entries)
rising_at [] k d rising lt = absurd (omega arith)
rising_at (e ∷ rest) zero d rising lt = All-nil (λ e. IsTrue (is_before e.corner _))
rising_at (e ∷ rest) (suc k) d rising lt =
    All-cons (λ x. IsTrue (is_before x.corner (get_or rest k d).corner)) e (take k rest) (after_at e.corner rest k d rising.0 (omega arith)) (rising_at rest k d rising.1 (omega arith))

-- The tiles read so far are before the next in order.
pub before_next : (entries : List EntryValue) (tiles : List TileLocation) (k : ℕ) (e : EntryValue) (c : Corner) → AreInOrder entries → k < length entries → map entry_of tiles ≡ take k entries → e ≡ get_or entries k e → e.corner ≡ c → All (λ t. IsTrue (is_before t.corner c)) tiles
before_next entries tiles k e c in_order lt so_far is_e at =
    let P : EntryValue → Type 0 = λ x. IsTrue (is_before x.corner c) in
    let all : All P (take k entries) = subst (λ (p : Corner). All (λ x. IsTrue (is_before x.corner p)) (take k entries)) (sym (ap entry_corner is_e) ∙ at) (rising_at entries k e (rising_from entry_corner entries in_order) lt) in
    unmapped P entry_of tiles (subst (All P) (sym so_far) all)

-- One more tile is read.
pub one_more : (entries : List EntryValue) (tiles : List TileLocation) (k : ℕ) (e : EntryValue) (t : TileLocation) → k < length entries → map entry_of tiles ≡ take k entries → e ≡ get_or entries k e → entry_of t ≡ e → map entry_of (tiles ++ t ∷ []) ≡ take (k + 1) entries
one_more entries tiles k e t lt so_far is_e at =
    map-append entry_of tiles (t ∷ []) ∙ ap₂ (λ (xs : List EntryValue) (x : EntryValue). xs ++ x ∷ []) so_far (at ∙ is_e) ∙ sym (take_more entries k e lt)

-- the next tile of a layout
next_tile : (tiles : List TileLocation) (k : ℕ) → k < length tiles → (t : TileLocation) × (get_or tiles k t ≡ t)
next_tile [] k lt = absurd (omega arith)
next_tile (t ∷ rest) zero lt = (t, refl)
next_tile (t ∷ rest) (suc k) lt = next_tile rest k (omega arith)

entry_at : (tiles : List TileLocation) (k : ℕ) (t : TileLocation) (e : EntryValue) → k < length tiles → get_or tiles k t ≡ t → get_or (map entry_of tiles) k e ≡ entry_of t
entry_at [] k t e lt here = absurd (omega arith)
entry_at (u ∷ rest) zero t e lt here = ap entry_of here
entry_at (u ∷ rest) (suc k) t e lt here = entry_at rest k t e (omega arith) here

module _ (sectors : ℕ) (image : Image) (root : RootValue) where
  pub no_next_tile : (k : ℕ) (e : EntryValue) → k < length root.entries → e ≡ get_or root.entries k e → NoTileAt (format_of root) sectors image e → (tiles : List TileLocation) → ¬ IsLaidOut sectors image root tiles
  no_next_tile k e lt is_e none tiles laid =
      let within : k < length tiles = omega (arith, lt, ap length laid.entries, length-map tiles entry_of) in
      let next = next_tile tiles k within in
      let same : entry_of next.0 ≡ e = sym (entry_at tiles k next.0 e within next.1) ∙ ap (λ (es : List EntryValue). get_or es k e) laid.entries ∙ sym is_e in
      none next.0 same
      (subst (λ (t : TileLocation). All (λ p. 4 ≤ p) (pages_of_tile t)) next.1 (each_tile (λ p. 4 ≤ p) tiles laid.page_rule.low k next.0 within))
      (subst (λ (t : TileLocation). All (λ p. p < sectors) (pages_of_tile t)) next.1 (each_tile (λ p. p < sectors) tiles laid.page_rule.high k next.0 within))
      (subst (HasRecords (format_of root) image) next.1 (laid.records k next.0 within))

  rule_of_first : (k : ℕ) (tiles : List TileLocation) → KeepsPageRule sectors tiles → KeepsPageRule sectors (take k tiles)
  rule_of_first k tiles rule =
      let split : reached tiles ≡ reached (take k tiles) ++ reached (drop k tiles) = sym (ap reached (take-append-drop k tiles)) ∙ flat_map-append pages_of_tile (take k tiles) (drop k tiles) in
      record {
        low = All-front (λ p. 4 ≤ p) (reached (take k tiles)) (reached (drop k tiles)) (subst (All (λ p. 4 ≤ p)) split rule.low);
        high = All-front (λ p. p < sectors) (reached (take k tiles)) (reached (drop k tiles)) (subst (All (λ p. p < sectors)) split rule.high);
        once = λ p. let one = rule.once p in let parts = times-append p (reached (take k tiles)) (reached (drop k tiles)) in let same : times p (reached tiles) ≡ times p (reached (take k tiles) ++ reached (drop k tiles)) = ap (times p) split in omega (arith, one, parts, same);
      }

  pub no_rule : (k : ℕ) (so_far : List TileLocation) (t : TileLocation) → map entry_of (so_far ++ t ∷ []) ≡ take (k + 1) root.entries → All (HasRecords (format_of root) image) so_far → HasRecords (format_of root) image t → ¬ KeepsPageRule sectors (so_far ++ t ∷ [])
      → (tiles : List TileLocation) → ¬ IsLaidOut sectors image root tiles
  no_rule k so_far t entries records has none tiles laid =
      let same : take (k + 1) tiles ≡ so_far ++ t ∷ [] =
      one_layout (format_of root) image (take (k + 1) tiles) (so_far ++ t ∷ []) (All-take (HasRecords (format_of root) image) (k + 1) tiles laid.records) (All-push (HasRecords (format_of root) image) so_far t records has)
      (sym (take-map entry_of (k + 1) tiles) ∙ ap (take (k + 1)) laid.entries ∙ sym entries) in
      none (subst (KeepsPageRule sectors) same (rule_of_first (k + 1) tiles laid.page_rule))
