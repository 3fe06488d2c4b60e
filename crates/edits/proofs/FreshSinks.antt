-- A present tile that a command doesn't make stale keeps the sinks among its points, and so its block.
use Rattle.edits.proofs.Prelude.{Bool, Burn, Command, Contains, Corner, Import, IsMosaic, List, Mosaic, Ok, Patch, Point, Remove, Sink, Unsink, Wall, ℕ, [], and_from, ap, are_neighbours, arith, both_ways, cond, corners_of, effect, false, false_from_ne_true, goes_stale, height_of, holds, holds_is, is_near_one, is_point_before, is_sink, list_any, metres, not, point_of, point_of_held, refl, same_point, same_point_says, subst, sym, true, with_point, without_point, ◌&&◌, ◌*◌, ◌<◌, ◌||◌, ◌∙◌, ◌∷◌, ◌≡◌}
use Rattle.lattice.specs.Block.{Block, IsBlockOf}
use Rattle.catalogue.proofs.OneTile.{corner_is}
use Rattle.edits.proofs.Accepted.{IsMade, accepted_is}
use Rattle.edits.proofs.AllStale.{near_itself}
use Rattle.edits.proofs.Untouched.{fresh_stays}
use Rattle.edits.proofs.NewMosaics.{new_side}
use Rattle.edits.proofs.BoxVoids.Voids.{any_from, tile_at}

-- ---- a point added to a list or removed leaves the other points

pub any_with : (f : Point → Bool) (p : Point) (points : List Point) → f p ≡ false → list_any f (with_point p points) ≡ list_any f points
any_with f p [] out = ap (λ b. b || false) out
any_with f p (q ∷ rest) out = elim (is_point_before p q) as (λ b. list_any f (cond b (p ∷ (q ∷ rest)) (q ∷ with_point p rest)) ≡ list_any f (q ∷ rest)) [
  | true ↦ ap (λ b. b || list_any f (q ∷ rest)) out
  | false ↦ ap (λ b. f q || b) (any_with f p rest out)
]

pub any_without : (q p : Point) (points : List Point) → same_point p q ≡ false → list_any (λ s. same_point s q) (without_point p points) ≡ list_any (λ s. same_point s q) points
any_without q p [] apart = refl
any_without q p (s ∷ rest) apart = by (same_point s p) refl (any_without q p rest apart)
  where
    by : (b : Bool) → same_point s p ≡ b → list_any (λ s. same_point s q) (without_point p rest) ≡ list_any (λ s. same_point s q) rest
        → list_any (λ s. same_point s q) (cond (not b) (s ∷ without_point p rest) (without_point p rest)) ≡ list_any (λ s. same_point s q) (s ∷ rest)
    by true is later = later ∙ sym (ap (λ b. b || list_any (λ s. same_point s q) rest) (ap (λ (r : Point). same_point r q) (same_point_says s p is) ∙ apart))
    by false other later = ap (λ b. same_point s q || b) later

-- ---- the sinks of a fresh tile

module _ (m : Mosaic) (p : Corner) (q : Point) (valid : IsMosaic m) (there : Contains (corners_of m) p) (inside : holds m.side p q ≡ true) where
  -- The point of a command that doesn't make the tile stale is another point.
  elsewhere : (r : Point) → is_near_one (λ t. holds m.side t.corner r) m p ≡ false → same_point r q ≡ false
  elsewhere r fresh = false_from_ne_true (same_point r q) (λ same.
      let tile = tile_at m p there in
      let t = tile.0 in
      let held : holds m.side t.corner r ≡ true = ap (λ (c : Corner). holds m.side c r) tile.1.1 ∙ ap (λ (x : Point). holds m.side p x) (same_point_says r q same) ∙ inside in
      let near : are_neighbours t.corner p ≡ true = ap (λ (c : Corner). are_neighbours c p) tile.1.1 ∙ near_itself p in
      both_ways (is_near_one (λ t. holds m.side t.corner r) m p) fresh
      (any_from (λ t. holds m.side t.corner r && are_neighbours t.corner p) m.tiles t tile.1.0 (and_from (holds m.side t.corner r) (are_neighbours t.corner p) held near)))

pub sinks_stay : (capacity : ℕ) (m : Mosaic) (c : Command) (new : Mosaic) (p : Corner) (q : Point) → IsMosaic m → effect capacity m c ≡ Ok new → Contains (corners_of m) p → goes_stale m c p ≡ false → holds m.side p q ≡ true
    → is_sink new q ≡ is_sink m q
sinks_stay capacity m c new p q valid made there fresh inside = by c fresh (accepted_is capacity m c new made)
  where
    as_made : (x : Mosaic) → new ≡ x → is_sink x q ≡ is_sink m q → is_sink new q ≡ is_sink m q
    as_made x is same = ap (λ (y : Mosaic). is_sink y q) is ∙ same

    by : (d : Command) → goes_stale m d p ≡ false → IsMade capacity m d new → is_sink new q ≡ is_sink m q
    by (Import corner bytes) fresh_ (whole, absent, room, is) = as_made _ is refl
    by (Remove corner) fresh_ is = as_made _ is refl
    by (Patch from to h) fresh_ (in_range, is) = as_made _ is refl
    by (Burn depth points) fresh_ (in_range, fine, is) = as_made _ is refl
    by (Wall h points) fresh_ (in_range, fine, is) = as_made _ is refl
    by (Sink r) fresh_ (sinks, is) = as_made _ is (any_with (λ s. same_point s q) r m.sinks (elsewhere m p q valid there inside r fresh_))
    by (Unsink r) fresh_ (leaves, is) = as_made _ is (any_without q r m.sinks (elsewhere m p q valid there inside r fresh_))

-- ---- the block of a fresh tile

pub block_stays : (capacity : ℕ) (m : Mosaic) (c : Command) (new : Mosaic) (p : Corner) (b : Block) → IsMosaic m → effect capacity m c ≡ Ok new → Contains (corners_of m) p → goes_stale m c p ≡ false → IsBlockOf m p b → IsBlockOf new p b
block_stays capacity m c new p b valid made there fresh block = record {
  side = block.side ∙ sym same_side;
  heights = record {
    whole = block.heights.whole ∙ ap (λ n. n * n) (sym same_side);
    values = λ e small.
        let below = subst (λ n. e < n * n) same_side small in
        block.heights.values e below
        ∙ ap metres (sym (fresh_stays capacity m c new p (point_of m.side p e) valid made fresh (held e below)))
        ∙ ap (λ n. metres (height_of new (point_of n p e))) (sym same_side);
  };
  sinks = λ e small.
      let below = subst (λ n. e < n * n) same_side small in
      block.sinks e below
      ∙ sym (sinks_stay capacity m c new p (point_of m.side p e) valid made there fresh (held e below))
      ∙ ap (λ n. is_sink new (point_of n p e)) (sym same_side);
}
  where
    same_side : new.side ≡ m.side
    same_side = new_side capacity m c new made

    held : (e : ℕ) → e < m.side * m.side → holds m.side p (point_of m.side p e) ≡ true
    held e below =
        let corner = corner_is m p valid there in
        (holds_is m.side p (point_of m.side p e) valid.side_low corner).1 (point_of_held m.side p e (omega (arith, valid.side_low)) corner below)
