-- A mosaic with a tile added or removed, or with other samples or sinks, is a mosaic.
use Rattle.catalogue.proofs.Prelude.{AllAfter, Bool, Corner, IsFalse, IsMosaic, IsSample, IsTile, IsTrue, List, Mosaic, Rising, Tile, ℕ, ℤ, [], added, adjacent_from, after_from, after_later, cond, false, is_before, is_present, length-set, map, not, or_parts, refl, rising-filter, rising_from, same_comm, same_corner, slice_set, subst, sym, true, with_sample, with_sample_in, with_tile, without, ◌∙◌, ◌∷◌, ◌≡◌}
use Rattle.std.specs.List.{All, filter, list_any}
use Rattle.std.proofs.lemmas.List.Elements.{All-nil, All-cons, All-head, All-tail, All-filter, All-set}

abbrev pub corner_of : Tile → Corner
corner_of t = t.corner

pub rising_tiles : (m : Mosaic) → IsMosaic m → Rising corner_of m.tiles
rising_tiles m valid = rising_from corner_of m.tiles valid.in_order

after-with_tile : (c : Corner) (new : Tile) (tiles : List Tile) → IsTrue (is_before c new.corner) → AllAfter corner_of c tiles → AllAfter corner_of c (with_tile new tiles)
after-with_tile c new [] before h = (before, tt)
after-with_tile c new (t ∷ ts) before h = elim (is_before new.corner t.corner) as (λ b. AllAfter corner_of c (cond b (new ∷ (t ∷ ts)) (t ∷ with_tile new ts))) [
  | true ↦ (before, h)
  | false ↦ (h.0, after-with_tile c new ts before h.1)
]

pub rising-with_tile : (new : Tile) (tiles : List Tile) → list_any (λ t. same_corner t.corner new.corner) tiles ≡ false → Rising corner_of tiles → Rising corner_of (with_tile new tiles)
rising-with_tile new [] absent h = (tt, tt)
rising-with_tile new (t ∷ ts) absent h =
    let apart = or_parts (same_corner t.corner new.corner) (list_any (λ x. same_corner x.corner new.corner) ts) absent in
    by (rising-with_tile new ts apart.1 h.1) apart.0 (is_before new.corner t.corner) refl
  where
    by : Rising corner_of (with_tile new ts) → same_corner t.corner new.corner ≡ false → (b : Bool) → is_before new.corner t.corner ≡ b → Rising corner_of (cond b (new ∷ (t ∷ ts)) (t ∷ with_tile new ts))
    by rest other true before = ((before, after_later corner_of new.corner t.corner ts before h.0), h)
    by rest other false not_before = (after-with_tile t.corner new ts (after_from new.corner t.corner not_before (same_comm t.corner new.corner other)) h.0, rest)

pub all-with_tile : (P : Tile → Type 0) (new : Tile) (tiles : List Tile) → P new → All P tiles → All P (with_tile new tiles)
all-with_tile P new [] one all = All-cons P new [] one (All-nil P)
all-with_tile P new (t ∷ ts) one all = elim (is_before new.corner t.corner) as (λ b. All P (cond b (new ∷ (t ∷ ts)) (t ∷ with_tile new ts))) [
  | true ↦ All-cons P new (t ∷ ts) one all
  | false ↦ All-cons P t (with_tile new ts) (All-head P t ts all) (all-with_tile P new ts one (All-tail P t ts all))
]

pub mosaic-added : (new : Tile) (m : Mosaic) → IsMosaic m → IsTile m.side new → IsFalse (is_present m new.corner) → IsMosaic (added new m)
mosaic-added new m valid tile absent = record {
  side_low = valid.side_low;
  side_high = valid.side_high;
  tiles = all-with_tile (IsTile m.side) new m.tiles tile valid.tiles;
  in_order = adjacent_from corner_of (with_tile new m.tiles) (rising-with_tile new m.tiles absent (rising_tiles m valid));
  sinks = valid.sinks;
}

pub mosaic-without : (c : Corner) (m : Mosaic) → IsMosaic m → IsMosaic (without c m)
mosaic-without c m valid = record {
  side_low = valid.side_low;
  side_high = valid.side_high;
  tiles = All-filter (λ t. not (same_corner t.corner c)) (IsTile m.side) m.tiles valid.tiles;
  in_order = adjacent_from corner_of (filter (λ t. not (same_corner t.corner c)) m.tiles) (rising-filter corner_of (λ t. not (same_corner t.corner c)) m.tiles (rising_tiles m valid));
  sinks = valid.sinks;
}

module _ (c : Corner) (i : ℕ) (s : ℤ) where
  corner_stays : (t : Tile) → (with_sample_in c i s t).corner ≡ t.corner
  corner_stays t = elim (same_corner t.corner c) as (λ b. (cond b (record t { samples = slice_set t.samples i s }) t).corner ≡ t.corner) [ true ↦ refl | false ↦ refl ]

  after-with_sample : (d : Corner) (tiles : List Tile) → AllAfter corner_of d tiles → AllAfter corner_of d (map (with_sample_in c i s) tiles)
  after-with_sample d [] h = tt
  after-with_sample d (t ∷ ts) h = (subst (λ p. IsTrue (is_before d p)) (sym (corner_stays t)) h.0, after-with_sample d ts h.1)

  rising-with_sample : (tiles : List Tile) → Rising corner_of tiles → Rising corner_of (map (with_sample_in c i s) tiles)
  rising-with_sample [] h = tt
  rising-with_sample (t ∷ ts) h = (subst (λ p. AllAfter corner_of p (map (with_sample_in c i s) ts)) (sym (corner_stays t)) (after-with_sample t.corner ts h.0), rising-with_sample ts h.1)

  tile-with_sample : (n : ℕ) (t : Tile) → IsSample s → IsTile n t → IsTile n (with_sample_in c i s t)
  tile-with_sample n t sample tile = elim (same_corner t.corner c) as (λ b. IsTile n (cond b (record t { samples = slice_set t.samples i s }) t)) [
    | true ↦ record {
      corner = tile.corner;
      whole = length-set t.samples i s ∙ tile.whole;
      samples = All-set IsSample t.samples i s sample tile.samples;
    }
    | false ↦ tile
  ]

  all-with_sample : (n : ℕ) (tiles : List Tile) → IsSample s → All (IsTile n) tiles → All (IsTile n) (map (with_sample_in c i s) tiles)
  all-with_sample n [] sample all = All-nil (IsTile n)
  all-with_sample n (t ∷ ts) sample all =
      All-cons (IsTile n) (with_sample_in c i s t) (map (with_sample_in c i s) ts)
      (tile-with_sample n t sample (All-head (IsTile n) t ts all))
      (all-with_sample n ts sample (All-tail (IsTile n) t ts all))

  pub mosaic-with_sample : (m : Mosaic) → IsMosaic m → IsSample s → IsMosaic (with_sample c i s m)
  mosaic-with_sample m valid sample = record {
    side_low = valid.side_low;
    side_high = valid.side_high;
    tiles = all-with_sample m.side m.tiles sample valid.tiles;
    in_order = adjacent_from corner_of (map (with_sample_in c i s) m.tiles) (rising-with_sample m.tiles (rising_tiles m valid));
    sinks = valid.sinks;
  }
