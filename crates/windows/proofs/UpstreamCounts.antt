-- The upstream counts of a window, from those of the tiles with its points.
use Rattle.std.proofs.Common.{◌≡◌, ◌⊎◌, ◌+◌, ◌-◌, ◌*◌, ◌/◌, ◌%◌, ◌<◌, ◌≤◌, ◌+ℤ◌, ◌-ℤ◌, ◌*ℤ◌, ◌≤ℤ◌, ℕ, suc, pos, nat_abs, Bool, true, false, cond, if◌then◌else◌, IsTrue, List, [], ◌∷◌, length, map, get_or, true≢false, inl, inr, refl, sym, ap, ◌∙◌, subst, arith, Err}
use Rattle.std.specs.Prelude.{Contains, IsFalse, is_some, slice_index_or}
use Rattle.std.specs.List.{filter}
use Rattle.std.proofs.lemmas.Bool.{and_from, and_parts, cases_lt}
use Rattle.std.proofs.lemmas.Int.{ints}
use Rattle.std.proofs.lemmas.Nat.{div-mul-add, mod-mul-add}
use Rattle.std.proofs.lemmas.List.{get_or_default}
use Rattle.std.proofs.lemmas.List.Elements.{Contains-get_or}
use Rattle.catalogue.proofs.Presence.{present_iff, some-samples}
use Rattle.catalogue.specs.Tiles.{corners_of}
use Rattle.lattice.proofs.Samples.{along_of_holds, held_at, holds_is, index_is, index_of_below, point_of_index, sample_of_along}
use Rattle.lattice.specs.Corners.{Corner, is_corner}
use Rattle.lattice.specs.Ground.{is_ground, is_height, terrain}
use Rattle.lattice.specs.Height.{by_seam_rule, sample_at}
use Rattle.lattice.specs.Lattice.{Holds, IsIndexOf, IsSampleAt, holds, index_of, is_along, point_of}
use Rattle.lattice.specs.Mosaic.{Mosaic, Tile, is_present}
use Rattle.lattice.specs.declared.point.Point.{Point}
use Rattle.lattice.specs.declared.refusal.Refusal.{Refusal}
use Rattle.lattice.specs.declared.refusal.Refusal.TheVariants.{NoTile}
use Rattle.water.specs.Counts.{IsUpstreamCount}
use Rattle.water.specs.Questions.{AreTileCounts}
use Rattle.water.specs.Runs.{IsInRun}
use Rattle.water.specs.declared.run.Run.{Run}
use Rattle.windows.proofs.Marks.{decided}
use Rattle.windows.specs.Results.{OfAny, OfTile}
use Rattle.windows.specs.Windows.{AreOfAll, ArePut, IsCountAt, count_or, point_in}
use Rattle.windows.specs.declared.window.Window.{Window}

-- A tile doesn't have a point that is in none of its rows.
pub not_held : (n : ℕ) (c : Corner) (p : Point) → 3 ≤ n → ((i j : ℕ) → i < n → ¬ IsSampleAt n c i j p) → IsFalse (holds n c p)
not_held n c p side none = by (holds n c p) refl
  where
    by : (b : Bool) → holds n c p ≡ b → b ≡ false
    by true held =
        let both = and_parts (is_along (pos (n - 1)) c.lat p.y) (is_along (pos (n - 1)) c.lon p.x) held in
        let sample = sample_of_along n c p side both.0 both.1 in
        absurd (none sample.0 sample.1 sample.2.row sample.2)
    by false held = refl

twice : (held : Bool) (count was : ℕ) → (if held then count else (if held then count else was)) ≡ (if held then count else was)
twice true count was = refl
twice false count was = refl

-- a row of a tile, from its first point to its last
pub is_row : (n : ℕ) (c : Corner) (row j : ℕ) (p first last : Point) → 3 ≤ n → first ≡ point_of n c (row * n) → last ≡ point_of n c (row * n + (n - 1)) → IsSampleAt n c row j p
    → (p.y ≡ first.y) × ((first.x ≤ℤ p.x) × (p.x ≤ℤ last.x))
is_row n c row j p first last side first_is last_is s =
    let q : (row * n) / n ≡ row = ap (λ e. e / n) (let same : row * n ≡ row * n + 0 = omega arith in same) ∙ div-mul-add row n 0 (omega (arith, side)) in
    let r : (row * n) % n ≡ 0 = ap (λ e. e % n) (let same : row * n ≡ row * n + 0 = omega arith in same) ∙ mod-mul-add row n 0 (omega (arith, side)) in
    let end : (row * n + (n - 1)) % n ≡ n - 1 = mod-mul-add row n (n - 1) (omega (arith, side)) in
    let y : first.y ≡ (c.lat *ℤ pos (n - 1) +ℤ pos (n - 1)) -ℤ pos row = ap (λ (z : Point). z.y) first_is ∙ ap (λ k. (c.lat *ℤ pos (n - 1) +ℤ pos (n - 1)) -ℤ pos k) q in
    let x : first.x ≡ c.lon *ℤ pos (n - 1) +ℤ pos 0 = ap (λ (z : Point). z.x) first_is ∙ ap (λ k. c.lon *ℤ pos (n - 1) +ℤ pos k) r in
    let far : last.x ≡ c.lon *ℤ pos (n - 1) +ℤ pos (n - 1) = ap (λ (z : Point). z.x) last_is ∙ ap (λ k. c.lon *ℤ pos (n - 1) +ℤ pos k) end in
    let s_y = s.y in
    let s_x = s.x in
    let s_j = s.column in
    (omega (arith, ints), (omega (arith, ints), omega (arith, ints)))

-- A point between them is in the row.
pub in_row : (n : ℕ) (c : Corner) (row : ℕ) (p first last : Point) → 3 ≤ n → row < n → first ≡ point_of n c (row * n) → last ≡ point_of n c (row * n + (n - 1))
    → p.y ≡ first.y → first.x ≤ℤ p.x → p.x ≤ℤ last.x → (j : ℕ) × IsSampleAt n c row j p
in_row n c row p first last side small first_is last_is y_is after before =
    let q : (row * n) / n ≡ row = ap (λ e. e / n) (let same : row * n ≡ row * n + 0 = omega arith in same) ∙ div-mul-add row n 0 (omega (arith, side)) in
    let r : (row * n) % n ≡ 0 = ap (λ e. e % n) (let same : row * n ≡ row * n + 0 = omega arith in same) ∙ mod-mul-add row n 0 (omega (arith, side)) in
    let end : (row * n + (n - 1)) % n ≡ n - 1 = mod-mul-add row n (n - 1) (omega (arith, side)) in
    let y : first.y ≡ (c.lat *ℤ pos (n - 1) +ℤ pos (n - 1)) -ℤ pos row = ap (λ (z : Point). z.y) first_is ∙ ap (λ k. (c.lat *ℤ pos (n - 1) +ℤ pos (n - 1)) -ℤ pos k) q in
    let x : first.x ≡ c.lon *ℤ pos (n - 1) +ℤ pos 0 = ap (λ (z : Point). z.x) first_is ∙ ap (λ k. c.lon *ℤ pos (n - 1) +ℤ pos k) r in
    let far : last.x ≡ c.lon *ℤ pos (n - 1) +ℤ pos (n - 1) = ap (λ (z : Point). z.x) last_is ∙ ap (λ k. c.lon *ℤ pos (n - 1) +ℤ pos k) end in
    let j = nat_abs (p.x -ℤ first.x) in
    let column : j < n = omega (arith, ints) in
    let at_y : p.y +ℤ pos row ≡ c.lat *ℤ pos (n - 1) +ℤ pos (n - 1) = omega (arith, ints) in
    let at_x : p.x ≡ c.lon *ℤ pos (n - 1) +ℤ pos j = omega (arith, ints) in
    (j, record { row = small; column = column; y = at_y; x = at_x })

-- the count of a point, by its index
pub count_of : (n : ℕ) (c : Corner) (counts : List ℕ) (p : Point) (was e value : ℕ) → IsIndexOf n c p e → value ≡ slice_index_or counts e 0 → value ≡ count_or n c counts p was
count_of n c counts p was e value is value_is =
    let both = along_of_holds n c p (held_at n c p e is) in
    let held = and_from (is_along (pos (n - 1)) c.lat p.y) (is_along (pos (n - 1)) c.lon p.x) both.0 both.1 in
    value_is ∙ ap (λ i. slice_index_or counts i 0) (sym (index_is n c p e is)) ∙ sym (ap (λ b. if b then slice_index_or counts (index_of n c p) 0 else was) held)

pub count_left : (n : ℕ) (c : Corner) (counts : List ℕ) (p : Point) (was : ℕ) → 3 ≤ n → IsTrue (is_corner c) → ¬ Holds n c p → was ≡ count_or n c counts p was
count_left n c counts p was side corner out = by (holds n c p) refl
  where
    by : (b : Bool) → holds n c p ≡ b → was ≡ (if b then slice_index_or counts (index_of n c p) 0 else was)
    by true held = absurd (out ((holds_is n c p side corner).0 held))
    by false off = refl

-- One more row: its counts are written, and other values stay.
pub one_row : (n : ℕ) (c : Corner) (counts : List ℕ) (row : ℕ) (run : Run) (p : Point) (old was now : ℕ) → ((j : ℕ) (q : Point) → IsSampleAt n c row j q → IsInRun run q)
    → (IsInRun run p → now ≡ count_or n c counts p was) → (¬ IsInRun run p → now ≡ was)
    → (was ≡ count_or n c counts p old) ⊎ ((was ≡ old) × ((i j : ℕ) → i < row → ¬ IsSampleAt n c i j p))
    → (now ≡ count_or n c counts p old) ⊎ ((now ≡ old) × ((i j : ℕ) → i < row + 1 → ¬ IsSampleAt n c i j p))
one_row n c counts row run p old was now has puts leaves before = elim (decided run p) [
  | inl lies ↦ elim before [
    | inl done ↦ inl (puts lies ∙ ap (count_or n c counts p) done ∙ twice (holds n c p) (slice_index_or counts (index_of n c p) 0) old)
    | inr (same, none) ↦ inl (puts lies ∙ ap (count_or n c counts p) same)
  ]
  | inr out ↦ elim before [
    | inl done ↦ inl (leaves out ∙ done)
    | inr (same, none) ↦ inr (
      leaves out ∙ same,
      (λ i j below sample. elim (cases_lt i row) [
        | inl sooner ↦ none i j sooner sample
        | inr last ↦ out (has j p (subst (λ r. IsSampleAt n c r j p) (let at : i ≡ row = omega (arith, below, last) in at) sample))
      ]),
    )
  ]
]

-- the values after all rows
pub all_rows : (n : ℕ) (c : Corner) (counts : List ℕ) (p : Point) (old now : ℕ) → 3 ≤ n
    → (now ≡ count_or n c counts p old) ⊎ ((now ≡ old) × ((i j : ℕ) → i < n → ¬ IsSampleAt n c i j p)) → now ≡ count_or n c counts p old
all_rows n c counts p old now side (inl done) = done
all_rows n c counts p old now side (inr (same, none)) =
    same ∙ sym (ap (λ b. if b then slice_index_or counts (index_of n c p) 0 else old) (not_held n c p side none))

-- The values written from a tile's counts are those of its points.
pub are_put : (m : Mosaic) (w : Window) (n : ℕ) (c : Corner) (counts old new : List ℕ) → 3 ≤ n → IsTrue (is_corner c) → m.side ≡ n → AreTileCounts m c counts
    → ((k : ℕ) → k < length old → get_or new k 0 ≡ count_or n c counts (point_in w k) (get_or old k 0)) → ArePut m w c old new
are_put m w n c counts old new side corner same are put k small =
    let p = point_in w k in
    let e = index_of m.side c p in
    let is = subst (λ s. get_or new k 0 ≡ count_or s c counts p (get_or old k 0)) (sym same) (put k small) in
    let low : 3 ≤ m.side = subst (λ s. 3 ≤ s) (sym same) side in (
      (λ held level filled.
          let there = (holds_is m.side c p low corner).0 held in
          let count = (are level filled).each e (index_of_below m.side c p there) in
          subst (IsUpstreamCount (terrain m) level p) (sym (is ∙ ap (λ b. if b then slice_index_or counts e 0 else get_or old k 0) held))
          (subst (λ q. IsUpstreamCount (terrain m) level q (slice_index_or counts e 0)) (point_of_index m.side c p there) count)),
      (λ off. is ∙ ap (λ b. if b then slice_index_or counts e 0 else get_or old k 0) off),
    )

-- A question about a present tile isn't refused with NoTile.
pub refused_so : {X Y : Type 0} (m : Mosaic) (c : Corner) (Says : List X → Type 0) (More : Y → Type 0) (r : Refusal) → IsTrue (is_present m c) → OfTile m c Says (Err r) → OfAny More (Err r)
refused_so m c Says More NoTile there none = absurd (true≢false (sym there ∙ sym (some-samples c m.tiles) ∙ ap is_some none))
refused_so m c Says More r there not = not

abbrev pub nowhere : Corner
nowhere = record { lat = pos 0; lon = pos 0 }

-- The value of each point is right if one of the first tiles has the point, and else 0.
pub record AreSoFar (m : Mosaic) (w : Window) (n : ℕ) (corners : List Corner) (count : ℕ) (values : List ℕ) : Type 0 where
  pub side : m.side ≡ n
  pub tiles : corners ≡ corners_of m
  pub each : (k : ℕ) → k < length values → IsCountAt m (point_in w k) (get_or values k 0) ⊎ ((get_or values k 0 ≡ 0) × ((j : ℕ) → j < count → IsFalse (holds n (get_or corners j nowhere) (point_in w k))))

-- A tile of the list is present.
pub is_there : (m : Mosaic) (corners : List Corner) (j : ℕ) → corners ≡ corners_of m → j < length corners → IsTrue (is_present m (get_or corners j nowhere))
is_there m corners j tiles small = (present_iff m (get_or corners j nowhere)).1 (subst (λ cs. Contains cs (get_or corners j nowhere)) tiles (Contains-get_or corners j nowhere small))

-- one more tile
pub one_tile : (m : Mosaic) (w : Window) (n : ℕ) (corners : List Corner) (count : ℕ) (old new : List ℕ) → length new ≡ length old → AreSoFar m w n corners count old → ArePut m w (get_or corners count nowhere) old new
    → AreSoFar m w n corners (count + 1) new
one_tile m w n corners count old new whole before put = record {
  side = before.side;
  tiles = before.tiles;
  each = λ k small.
      let here : k < length old = omega (arith, small, whole) in
      let c = get_or corners count nowhere in
      let puts = subst (λ s. (IsTrue (holds s c (point_in w k)) → IsCountAt m (point_in w k) (get_or new k 0)) × (IsFalse (holds s c (point_in w k)) → get_or new k 0 ≡ get_or old k 0)) before.side (put k here) in
      by k (holds n c (point_in w k)) refl puts (before.each k here);
}
  where
    by : (k : ℕ) (b : Bool) → holds n (get_or corners count nowhere) (point_in w k) ≡ b
        → (IsTrue (holds n (get_or corners count nowhere) (point_in w k)) → IsCountAt m (point_in w k) (get_or new k 0)) × (IsFalse (holds n (get_or corners count nowhere) (point_in w k)) → get_or new k 0 ≡ get_or old k 0)
        → IsCountAt m (point_in w k) (get_or old k 0) ⊎ ((get_or old k 0 ≡ 0) × ((j : ℕ) → j < count → IsFalse (holds n (get_or corners j nowhere) (point_in w k))))
        → IsCountAt m (point_in w k) (get_or new k 0) ⊎ ((get_or new k 0 ≡ 0) × ((j : ℕ) → j < count + 1 → IsFalse (holds n (get_or corners j nowhere) (point_in w k))))
    by k true held puts was = inl (puts.0 held)
    by k false off puts (inl count_is) = inl (subst (IsCountAt m (point_in w k)) (sym (puts.1 off)) count_is)
    by k false off puts (inr (zero_is, none)) = inr (
      puts.1 off ∙ zero_is,
      (λ j below. elim (cases_lt j count) [
        | inl sooner ↦ none j sooner
        | inr last ↦ let at : j ≡ count = omega (arith, below, last) in subst (λ i. holds n (get_or corners i nowhere) (point_in w k) ≡ false) (sym at) off
      ]),
    )

none_hold : (n : ℕ) (p : Point) (tiles : List Tile) → ((j : ℕ) → j < length (map (λ (t : Tile). t.corner) tiles) → IsFalse (holds n (get_or (map (λ (t : Tile). t.corner) tiles) j nowhere) p)) → filter (λ (t : Tile). holds n t.corner p) tiles ≡ []
none_hold n p [] none = refl
none_hold n p (t ∷ ts) none = by (holds n t.corner p) (none 0 (omega arith)) (none_hold n p ts (λ j below. none (suc j) (omega (arith, below))))
  where
    by : (b : Bool) → b ≡ false → filter (λ (x : Tile). holds n x.corner p) ts ≡ [] → cond b (t ∷ filter (λ (x : Tile). holds n x.corner p) ts) (filter (λ (x : Tile). holds n x.corner p) ts) ≡ []
    by true off rest = absurd (true≢false off)
    by false off rest = rest

-- the values after all tiles
pub all_tiles : (m : Mosaic) (w : Window) (n : ℕ) (corners : List Corner) (values : List ℕ) → length values ≡ w.rows * w.columns → AreSoFar m w n corners (length corners) values → AreOfAll w (IsCountAt m) values
all_tiles m w n corners values size are = record {
  whole = size;
  each = λ blank k small.
      let here : k < length values = omega (arith, small, size) in
      subst (IsCountAt m (point_in w k)) (get_or_default values k 0 blank here) (by k (are.each k here));
}
  where
    by : (k : ℕ) → IsCountAt m (point_in w k) (get_or values k 0) ⊎ ((get_or values k 0 ≡ 0) × ((j : ℕ) → j < length corners → IsFalse (holds n (get_or corners j nowhere) (point_in w k)))) → IsCountAt m (point_in w k) (get_or values k 0)
    by k (inl is) = is
    by k (inr (zero_is, none)) =
        let p = point_in w k in
        let off = subst (λ (cs : List Corner). (j : ℕ) → j < length cs → IsFalse (holds n (get_or cs j nowhere) p)) are.tiles none in
        let outside = subst (λ s. filter (λ (t : Tile). holds s t.corner p) m.tiles ≡ []) (sym are.side) (none_hold n p m.tiles off) in
        let bare : IsFalse (is_ground m p) = ap (λ (l : List Tile). is_height (by_seam_rule (map (λ t. sample_at m.side t p) l))) outside in
        (λ level filled. record { on_ground = λ solid. absurd (true≢false (sym solid ∙ bare)); elsewhere = λ _. zero_is })
