-- Putting a sample at each place of a point gives the mosaic that is edited at the point.
use Rattle.edits.proofs.Prelude.{All, All-head, All-map, All-tail, All-weaker, ArePlaces, Bool, Contains, Corner, IsMosaic, IsPlace, IsTile, IsTrue, List, Mosaic, Place, Point, Tile, ℕ, ℤ, [], add-zero, ap, ap₂, arith, both_ways, cases_eq, changed_from, cond, corners_of, edited, false, filled, get_or, inl, inr, is_corner, length, map, point_of, refl, same_corner, same_from, same_point, same_point_from, same_point_says, same_says, subst, suc, sym, take, true, zero, zero-add, ◌*◌, ◌++◌, ◌+◌, ◌<◌, ◌∙◌, ◌∷◌, ◌≡◌, ◌⊎◌}
use Rattle.std.specs.Prelude.{slice_set}
use Rattle.std.proofs.lemmas.List.{take_more, same_lists, length-map, get_or-map, length-set, get_or-set_same, get_or-set_other}
use Rattle.catalogue.specs.Tables.{with_sample, with_sample_in}

abbrev place : Corner → ℕ → Place
place c k = record { corner = c; index = k }

-- the mosaic after the sample was put at these places, one after another
abbrev pub placed : ℤ → List Place → Mosaic → Mosaic
placed s [] m = m
placed s (x ∷ rest) m = placed s rest (with_sample x.corner x.index s m)

-- the samples of the corner's tile after one put
abbrev put_one : Corner → ℤ → Place → List ℤ → List ℤ
put_one c s x l = cond (same_corner c x.corner) (slice_set l x.index s) l

abbrev put_all : Corner → ℤ → List Place → List ℤ → List ℤ
put_all c s [] l = l
put_all c s (x ∷ rest) l = put_all c s rest (put_one c s x l)

abbrev tile_put : ℤ → List Place → Tile → Tile
tile_put s places t = record t { samples = put_all t.corner s places t.samples }

map_same : {X : Type 0} (xs : List X) → map (λ x. x) xs ≡ xs
map_same [] = refl
map_same (x ∷ xs) = ap (λ l. x ∷ l) (map_same xs)

map_twice : (f g h : Tile → Tile) (ts : List Tile) → ((t : Tile) → g (f t) ≡ h t) → map g (map f ts) ≡ map h ts
map_twice f g h [] each = refl
map_twice f g h (t ∷ ts) each = ap₂ (λ (x : Tile) (l : List Tile). x ∷ l) (each t) (map_twice f g h ts each)

put_first : (s : ℤ) (x : Place) (rest : List Place) (t : Tile) → tile_put s rest (with_sample_in x.corner x.index s t) ≡ tile_put s (x ∷ rest) t
put_first s x rest t = elim (same_corner t.corner x.corner) as (λ b. tile_put s rest (cond b (record t { samples = slice_set t.samples x.index s }) t) ≡ record t { samples = put_all t.corner s rest (cond b (slice_set t.samples x.index s) t.samples) }) [
  | true ↦ refl
  | false ↦ refl
]

-- the puts, tile by tile
placed_tiles : (s : ℤ) (places : List Place) (m : Mosaic) → placed s places m ≡ record m { tiles = map (tile_put s places) m.tiles }
placed_tiles s [] m = ap (λ (ts : List Tile). record m { tiles = ts }) (sym (map_same m.tiles))
placed_tiles s (x ∷ rest) m =
    placed_tiles s rest (with_sample x.corner x.index s m)
    ∙ ap (λ (ts : List Tile). record m { tiles = ts }) (map_twice (with_sample_in x.corner x.index s) (tile_put s rest) (tile_put s (x ∷ rest)) m.tiles (put_first s x rest))

placed_last : (s : ℤ) (places : List Place) (x : Place) (m : Mosaic) → placed s (places ++ x ∷ []) m ≡ with_sample x.corner x.index s (placed s places m)
placed_last s [] x m = refl
placed_last s (y ∷ rest) x m = placed_last s rest x (with_sample y.corner y.index s m)

-- one more place
pub placed_next : (s : ℤ) (places : List Place) (i : ℕ) (x : Place) (m : Mosaic) → i < length places → x ≡ get_or places i x → placed s (take (i + 1) places) m ≡ with_sample x.corner x.index s (placed s (take i places) m)
placed_next s places i x m below is = ap (λ (l : List Place). placed s l m) (take_more places i x below ∙ ap (λ (y : Place). take i places ++ y ∷ []) (sym is)) ∙ placed_last s (take i places) x m

pub this_place : (n : ℕ) (cs : List Corner) (p : Point) (places items : List Place) (i : ℕ) (x : Place) → items ≡ places → ArePlaces n cs p places → i < length items → x ≡ get_or items i x → IsPlace n cs p x
this_place n cs p places items i x same are below is =
    subst (IsPlace n cs p) (sym (is ∙ ap (λ (l : List Place). get_or l i x) same)) (are.each i x (subst (λ (l : List Place). i < length l) same below))

corners_kept : (f : Tile → List ℤ) (ts : List Tile) → map (λ (u : Tile). u.corner) (map (λ (t : Tile). record t { samples = f t }) ts) ≡ map (λ (u : Tile). u.corner) ts
corners_kept f [] = refl
corners_kept f (t ∷ ts) = ap (λ (cs : List Corner). t.corner ∷ cs) (corners_kept f ts)

-- Puts add and remove no tiles.
pub placed_corners : (s : ℤ) (places : List Place) (m : Mosaic) → corners_of (placed s places m) ≡ corners_of m
placed_corners s places m = ap corners_of (placed_tiles s places m) ∙ corners_kept (λ t. put_all t.corner s places t.samples) m.tiles

pub placed_side : (s : ℤ) (places : List Place) (m : Mosaic) → (placed s places m).side ≡ m.side
placed_side s places m = ap (λ (k : Mosaic). k.side) (placed_tiles s places m)

length-put_one : (c : Corner) (s : ℤ) (x : Place) (l : List ℤ) → length (put_one c s x l) ≡ length l
length-put_one c s x l = elim (same_corner c x.corner) as (λ b. length (cond b (slice_set l x.index s) l) ≡ length l) [ true ↦ length-set l x.index s | false ↦ refl ]

length-put_all : (c : Corner) (s : ℤ) (places : List Place) (l : List ℤ) → length (put_all c s places l) ≡ length l
length-put_all c s [] l = refl
length-put_all c s (x ∷ rest) l = length-put_all c s rest (put_one c s x l) ∙ length-put_one c s x l

-- A place is this one or another.
decide : (c : Corner) (k : ℕ) (x : Place) → (x ≡ place c k) ⊎ (x ≡ place c k → ⊥)
decide c k x = by (same_corner c x.corner) refl (cases_eq k x.index)
  where
    by : (b : Bool) → same_corner c x.corner ≡ b → (k ≡ x.index) ⊎ (k ≡ x.index → ⊥) → (x ≡ place c k) ⊎ (x ≡ place c k → ⊥)
    by true same (inl at) = inl (ap₂ place (sym (same_says c x.corner same)) (sym at))
    by true same (inr apart) = inr (λ is. apart (sym (ap (λ (y : Place). y.index) is)))
    by false other at = inr (λ is. both_ways (same_corner c x.corner) other (same_from c x.corner (sym (ap (λ (y : Place). y.corner) is))))

-- A put at another place leaves this sample.
untouched : (c : Corner) (s : ℤ) (x : Place) (l : List ℤ) (k : ℕ) (d : ℤ) → (x ≡ place c k → ⊥) → get_or (put_one c s x l) k d ≡ get_or l k d
untouched c s x l k d other = by (same_corner c x.corner) refl
  where
    by : (b : Bool) → same_corner c x.corner ≡ b → get_or (cond b (slice_set l x.index s) l) k d ≡ get_or l k d
    by true same = get_or-set_other l x.index k s d (λ at. other (ap₂ place (sym (same_says c x.corner same)) (sym at)))
    by false _ = refl

touched : (c : Corner) (s : ℤ) (x : Place) (l : List ℤ) (k : ℕ) (d : ℤ) → k < length l → x ≡ place c k → get_or (put_one c s x l) k d ≡ s
touched c s x l k d within is =
    ap (λ (y : Place). get_or (put_one c s y l) k d) is
    ∙ subst (λ b. get_or (cond b (slice_set l k s) l) k d ≡ s) (sym (same_from c c refl)) (get_or-set_same l k s d within)

put_none : (c : Corner) (s : ℤ) (places : List Place) (l : List ℤ) (k : ℕ) (d : ℤ) → All (λ x. x ≡ place c k → ⊥) places → get_or (put_all c s places l) k d ≡ get_or l k d
put_none c s [] l k d none = refl
put_none c s (x ∷ rest) l k d none =
    put_none c s rest (put_one c s x l) k d (All-tail (λ y. y ≡ place c k → ⊥) x rest none)
    ∙ untouched c s x l k d (All-head (λ y. y ≡ place c k → ⊥) x rest none)

-- The sample at this place was put, or was equal before.
put_some : (c : Corner) (s : ℤ) (places : List Place) (l : List ℤ) (k : ℕ) (d : ℤ) → k < length l → (get_or l k d ≡ s) ⊎ Contains places (place c k) → get_or (put_all c s places l) k d ≡ s
put_some c s [] l k d within (inl so) = so
put_some c s [] l k d within (inr (j, below, there)) = absurd (omega arith)
put_some c s (x ∷ rest) l k d within before = by (put_some c s rest (put_one c s x l) k d (subst (λ n. k < n) (sym (length-put_one c s x l)) within)) (decide c k x) before
  where
    in_rest : (x ≡ place c k → ⊥) → Contains (x ∷ rest) (place c k) → Contains rest (place c k)
    in_rest other (zero, below, there) = absurd (other there)
    in_rest other (suc j, below, there) = (j, omega arith, there)

    Known : Type 0
    Known = get_or (put_all c s rest (put_one c s x l)) k d ≡ s

    by : ((get_or (put_one c s x l) k d ≡ s) ⊎ Contains rest (place c k) → Known) → (x ≡ place c k) ⊎ (x ≡ place c k → ⊥) → (get_or l k d ≡ s) ⊎ Contains (x ∷ rest) (place c k) → Known
    by again (inl is) _ = again (inl (touched c s x l k d within is))
    by again (inr other) (inl so) = again (inl (untouched c s x l k d other ∙ so))
    by again (inr other) (inr there) = again (inr (in_rest other there))

pub length-changed_from : (f : ℕ → ℤ → ℤ) (e : ℕ) (l : List ℤ) → length (changed_from f e l) ≡ length l
length-changed_from f e [] = refl
length-changed_from f e (s ∷ rest) = ap suc (length-changed_from f (e + 1) rest)

pub get-changed_from : (f : ℕ → ℤ → ℤ) (e : ℕ) (l : List ℤ) (k : ℕ) (d : ℤ) → k < length l → get_or (changed_from f e l) k d ≡ f (e + k) (get_or l k d)
get-changed_from f e [] k d within = absurd (omega arith)
get-changed_from f e (s ∷ rest) zero d within = ap (λ i. f i s) (sym (add-zero e))
get-changed_from f e (s ∷ rest) (suc k) d within =
    let next : e + 1 + k ≡ e + suc k = omega arith in
    get-changed_from f (e + 1) rest k d (omega arith) ∙ ap (λ i. f i (get_or rest k d)) next

map_where : {Q : Tile → Type 0} (f g : Tile → Tile) (ts : List Tile) → All Q ts → ((t : Tile) → Q t → f t ≡ g t) → map f ts ≡ map g ts
map_where f g [] all each = refl
map_where {Q = Q} f g (t ∷ ts) all each = ap₂ (λ (x : Tile) (l : List Tile). x ∷ l) (each t (All-head Q t ts all)) (map_where {Q = Q} f g ts (All-tail Q t ts all) each)

-- The tile has as many samples as a whole tile, with any values.
pub record IsWhole (n : ℕ) (t : Tile) : Type 0 where
  pub corner : IsTrue (is_corner t.corner)
  pub whole : length t.samples ≡ n * n

pub whole_tiles : (m : Mosaic) → IsMosaic m → All (IsWhole m.side) m.tiles
whole_tiles m valid = All-weaker (IsTile m.side) (IsWhole m.side) (λ t is. record { corner = is.corner; whole = is.whole }) m.tiles valid.tiles

-- An edited tile is whole.
pub edited_whole : (f : Point → ℤ → ℤ) (m : Mosaic) → All (IsWhole m.side) m.tiles → All (IsWhole m.side) (edited f m).tiles
edited_whole f m whole = All-map (IsWhole m.side) at m.tiles (All-weaker (IsWhole m.side) (λ t. IsWhole m.side (at t)) one m.tiles whole)
  where
    at : Tile → Tile
    at t = record { corner = t.corner; samples = changed_from (λ e s. f (point_of m.side t.corner e) s) 0 t.samples }

    one : (t : Tile) → IsWhole m.side t → IsWhole m.side (at t)
    one t is = record { corner = is.corner; whole = length-changed_from (λ e s. f (point_of m.side t.corner e) s) 0 t.samples ∙ is.whole }

module _ (m : Mosaic) (are_whole : All (IsWhole m.side) m.tiles) (p : Point) (s : ℤ) (places : List Place) (are : ArePlaces m.side (corners_of m) p places) where
  abbrev Here : Tile → Type 0
  Here t = IsWhole m.side t × Contains (corners_of m) t.corner

  all_here : All Here m.tiles
  all_here k d below =
      let here : get_or (corners_of m) k (get_or m.tiles k d).corner ≡ (get_or m.tiles k d).corner = get_or-map (λ t. t.corner) m.tiles k d (get_or m.tiles k d).corner below in
      let within : k < length (corners_of m) = omega (arith, length-map m.tiles (λ t. t.corner)) in
      (are_whole k d below, (k, within, here))

  -- the sample at an index of a tile after the puts
  one_sample : (t : Tile) → Here t → (e : ℕ) (d : ℤ) → e < length t.samples → get_or (put_all t.corner s places t.samples) e d ≡ cond (same_point (point_of m.side t.corner e) p) s (get_or t.samples e d)
  one_sample t here e d below = by (same_point (point_of m.side t.corner e) p) refl
    where
      by : (b : Bool) → same_point (point_of m.side t.corner e) p ≡ b → get_or (put_all t.corner s places t.samples) e d ≡ cond b s (get_or t.samples e d)
      by true same = put_some t.corner s places t.samples e d below
          (inr (are.complete t.corner e here.0.corner here.1 (omega (arith, here.0.whole)) (same_point_says (point_of m.side t.corner e) p same)))
      by false other = put_none t.corner s places t.samples e d (All-weaker (IsPlace m.side (corners_of m) p) (λ x. x ≡ place t.corner e → ⊥) apart places are.each)
        where
          apart : (x : Place) → IsPlace m.side (corners_of m) p x → x ≡ place t.corner e → ⊥
          apart x at is =
              let point : point_of m.side t.corner e ≡ p = ap (λ (y : Place). point_of m.side y.corner y.index) (sym is) ∙ at.here in
              both_ways (same_point (point_of m.side t.corner e) p) other (ap (λ (q : Point). same_point q p) point ∙ same_point_from p p refl)

  one_tile : (t : Tile) → Here t → tile_put s places t ≡ record { corner = t.corner; samples = changed_from (λ e v. cond (same_point (point_of m.side t.corner e) p) s v) 0 t.samples }
  one_tile t here = ap (λ (l : List ℤ). record { corner = t.corner; samples = l }) (same_lists (put_all t.corner s places t.samples) (changed_from f 0 t.samples) lengths each)
    where
      f : ℕ → ℤ → ℤ
      f e v = cond (same_point (point_of m.side t.corner e) p) s v

      lengths : length (put_all t.corner s places t.samples) ≡ length (changed_from f 0 t.samples)
      lengths = length-put_all t.corner s places t.samples ∙ sym (length-changed_from f 0 t.samples)

      each : (k : ℕ) (d : ℤ) → k < length (put_all t.corner s places t.samples) → get_or (put_all t.corner s places t.samples) k d ≡ get_or (changed_from f 0 t.samples) k d
      each k d small =
          let below : k < length t.samples = subst (λ n. k < n) (length-put_all t.corner s places t.samples) small in
          one_sample t here k d below ∙ ap (λ i. f i (get_or t.samples k d)) (sym (zero-add k)) ∙ sym (get-changed_from f 0 t.samples k d below)

  pub placed_edit : placed s places m ≡ filled (λ q. same_point q p) s m
  placed_edit = placed_tiles s places m
      ∙ ap (λ (ts : List Tile). record m { tiles = ts })
      (map_where {Q = Here} (tile_put s places) (λ t. record { corner = t.corner; samples = changed_from (λ e v. cond (same_point (point_of m.side t.corner e) p) s v) 0 t.samples }) m.tiles all_here one_tile)
