-- Void points, from the samples of the tiles that have them.
use Rattle.stored_mosaic.proofs.Prelude.{All-contains, Bool, Contains, Decides-int_eq, IsIndexOf, IsMosaic, IsTile, IsTrue, List, Mosaic, Point, Tile, ℕ, ℤ, [], ap, arith, cond, corner_of, false, false_from_ne_true, get_or, get_or_default, holds, holds_is, index_of_point, index_of_point_is, is_corner, is_rim, is_void, map, point_of, point_of_held, refl, rising_tiles, suc, sym, true, void, zero, ◌*◌, ◌<◌, ◌∙◌, ◌∷◌, ◌≡◌, ◌≢◌}
use Rattle.std.specs.List.{filter}
use Rattle.lattice.specs.Height.{sample_at, samples_at, first_height, by_seam_rule}
use Rattle.lattice.specs.declared.height.Height.TheVariants.{At}
use Rattle.lattice.proofs.Interior.{inner_only}
use Rattle.lattice.proofs.Rising.{one_index}
use Rattle.edits.specs.Effect.{is_void_height, is_void_at}

void_is : (s : ℤ) → s ≡ void → is_void s ≡ true
void_is s is = (Decides-int_eq s void).1 is

pub not_void_is : (s : ℤ) → s ≢ void → is_void s ≡ false
not_void_is s other = false_from_ne_true (is_void s) (λ e. other ((Decides-int_eq s void).0 e))

module _ (n : ℕ) (p : Point) where
  abbrev said : List Tile → List ℤ
  said tiles = map (λ t. sample_at n t p) (filter (λ t. holds n t.corner p) tiles)

  -- All samples of the point are void.
  all_void : (tiles : List Tile) → ((t : Tile) → Contains tiles t → holds n t.corner p ≡ true → sample_at n t p ≡ void) → is_void_height (first_height (said tiles)) ≡ true
  all_void [] each = refl
  all_void (t ∷ ts) each = by (holds n t.corner p) refl (all_void ts (λ u there. each u (suc there.0, omega (arith, there.1), there.2)))
    where
      by : (b : Bool) → holds n t.corner p ≡ b → is_void_height (first_height (said ts)) ≡ true
          → is_void_height (first_height (map (λ u. sample_at n u p) (cond b (t ∷ filter (λ u. holds n u.corner p) ts) (filter (λ u. holds n u.corner p) ts)))) ≡ true
      by true held rest = ap (λ v. is_void_height (cond v (first_height (said ts)) (At (sample_at n t p)))) (void_is (sample_at n t p) (each t (0, omega arith, refl) held)) ∙ rest
      by false out rest = rest

  -- One sample of the point isn't void.
  some_ground : (tiles : List Tile) (t : Tile) → Contains tiles t → holds n t.corner p ≡ true → sample_at n t p ≢ void → is_void_height (first_height (said tiles)) ≡ false
  some_ground [] t (k, below, here) held other = absurd (omega (arith, below))
  some_ground (u ∷ us) t (zero, below, here) held other =
      let is_held : holds n u.corner p ≡ true = ap (λ (x : Tile). holds n x.corner p) here ∙ held in
      let not_void : is_void (sample_at n u p) ≡ false = ap (λ (x : Tile). is_void (sample_at n x p)) here ∙ not_void_is (sample_at n t p) other in
      ap (λ b. is_void_height (first_height (map (λ x. sample_at n x p) (cond b (u ∷ filter (λ x. holds n x.corner p) us) (filter (λ x. holds n x.corner p) us))))) is_held
      ∙ ap (λ v. is_void_height (cond v (first_height (said us)) (At (sample_at n u p)))) not_void
  some_ground (u ∷ us) t (suc k, below, here) held other = by (holds n u.corner p) (is_void (sample_at n u p)) refl (some_ground us t (k, omega (arith, below), here) held other)
    where
      by : (b v : Bool) → is_void (sample_at n u p) ≡ v → is_void_height (first_height (said us)) ≡ false
          → is_void_height (first_height (map (λ x. sample_at n x p) (cond b (u ∷ filter (λ x. holds n x.corner p) us) (filter (λ x. holds n x.corner p) us)))) ≡ false
      by true true is rest = ap (λ v. is_void_height (cond v (first_height (said us)) (At (sample_at n u p)))) is ∙ rest
      by true false is rest = ap (λ v. is_void_height (cond v (first_height (said us)) (At (sample_at n u p)))) is
      by false v is rest = rest

  some_said : (tiles : List Tile) (t : Tile) → Contains tiles t → holds n t.corner p ≡ true → said tiles ≡ [] → ⊥
  some_said [] t (k, below, here) held none = absurd (omega (arith, below))
  some_said (u ∷ us) t (zero, below, here) held none =
      let is_held : holds n u.corner p ≡ true = ap (λ (x : Tile). holds n x.corner p) here ∙ held in
      let is : sample_at n u p ∷ said us ≡ [] = ap (λ b. map (λ x. sample_at n x p) (cond b (u ∷ filter (λ x. holds n x.corner p) us) (filter (λ x. holds n x.corner p) us))) (sym is_held) ∙ none in
      absurd (cc)
  some_said (u ∷ us) t (suc k, below, here) held none = by (holds n u.corner p) none (some_said us t (k, omega (arith, below), here) held)
    where
      by : (b : Bool) → map (λ x. sample_at n x p) (cond b (u ∷ filter (λ x. holds n x.corner p) us) (filter (λ x. holds n x.corner p) us)) ≡ [] → (said us ≡ [] → ⊥) → ⊥
      by true is later = absurd (let e : sample_at n u p ∷ said us ≡ [] = is in cc)
      by false is later = later is

seam_void : (l : List ℤ) → (l ≡ [] → ⊥) → is_void_height (first_height l) ≡ true → is_void_height (by_seam_rule l) ≡ true
seam_void [] some is = absurd (some refl)
seam_void (s ∷ l) some is = is

seam_ground : (l : List ℤ) → is_void_height (first_height l) ≡ false → is_void_height (by_seam_rule l) ≡ false
seam_ground [] is = refl
seam_ground (s ∷ l) is = is

module _ (m : Mosaic) (valid : IsMosaic m) (t : Tile) (there : Contains m.tiles t) (e : ℕ) (inside : e < m.side * m.side) where
  abbrev p : Point
  p = point_of m.side t.corner e

  tile_is : IsTile m.side t
  tile_is = All-contains (IsTile m.side) m.tiles t valid.tiles there

  some_side : 0 < m.side
  some_side = let low = valid.side_low in omega (arith, low)

  held : holds m.side t.corner p ≡ true
  held = (holds_is m.side t.corner p valid.side_low tile_is.corner).1 (point_of_held m.side t.corner e some_side tile_is.corner inside)

  own_sample : sample_at m.side t p ≡ get_or t.samples e void
  own_sample = ap (λ i. get_or t.samples i void) (index_of_point_is m.side t.corner e some_side tile_is.corner inside)

  -- A point with a sample that isn't void isn't void.
  pub own_ground : get_or t.samples e void ≢ void → is_void_at m p ≡ false
  own_ground other = seam_ground (samples_at m p) (some_ground m.side p m.tiles t there held (λ is. other (sym own_sample ∙ is)))

  -- A point inside a tile is void if its sample in the tile is.
  pub inner_void : is_rim m.side e ≡ false → get_or t.samples e void ≡ void → is_void_at m p ≡ true
  inner_void inner is = seam_void (samples_at m p) (some_said m.side p m.tiles t there held) (all_void m.side p m.tiles each)
    where
      at : IsIndexOf m.side t.corner p e
      at = index_of_point m.side t.corner e some_side tile_is.corner inside

      each : (u : Tile) → Contains m.tiles u → holds m.side u.corner p ≡ true → sample_at m.side u p ≡ void
      each u among holds_it =
          let corner : IsTrue (is_corner u.corner) = (All-contains (IsTile m.side) m.tiles u valid.tiles among).corner in
          let same : u.corner ≡ t.corner = inner_only m.side t.corner e p valid.side_low at inner u.corner ((holds_is m.side u.corner p valid.side_low corner).0 holds_it) in
          let own : get_or m.tiles among.0 t ≡ u = get_or_default m.tiles among.0 t u among.1 ∙ among.2 in
          let index : among.0 ≡ there.0 =
          one_index corner_of m.tiles among.0 there.0 t (rising_tiles m valid) among.1 there.1 (ap corner_of own ∙ same ∙ sym (ap corner_of there.2)) in
          let one : u ≡ t = sym own ∙ ap (λ k. get_or m.tiles k t) index ∙ there.2 in
          ap (λ (x : Tile). sample_at m.side x p) one ∙ own_sample ∙ is
