-- The listed corners are those of all tiles, as tiles come and go.
use Rattle.std.proofs.Common.{◌≡◌, ◌⊎◌, zero, suc, Bool, true, false, not, cond, List, [], ◌∷◌, map, inl, inr, sym, ◌∙◌, subst, arith}
use Rattle.std.specs.Global.{Vec}
use Rattle.std.specs.Prelude.{Contains, Option, Some, None}
use Rattle.drainage.proofs.Prelude.{Corner, Mosaic, Tile, TileCache, are_right, corners_of, filter}
use Rattle.catalogue.specs.Tiles.{added, with_tile, without}
use Rattle.drainage.specs.FarTiles.{are_listed, corners_in, is_with}
use Rattle.lattice.specs.Corners.{is_before, same_corner}

pub listed_same : (m new : Mosaic) → corners_of new ≡ corners_of m → (corners : Option (Vec Corner)) → are_listed m corners → are_listed new corners
listed_same m new same None all = tt
listed_same m new same (Some corners) all = λ c there. all c (subst (λ (cs : List Corner). Contains cs c) same there)

pub corners_right : (m : Mosaic) (tile_cache : Option TileCache) (corners : Option (Vec Corner)) → are_right m tile_cache → are_listed m corners → are_listed m (corners_in tile_cache corners)
corners_right m None corners right all = all
corners_right m (Some w) corners right all = λ c there. subst (λ (cs : List Corner). Contains cs c) (sym right.ready.all) there

-- ---- the corners of one tile more, and of one fewer

later : (x : Corner) (xs : List Corner) (c : Corner) → Contains xs c → Contains (x ∷ xs) c
later x xs c (k, below, here) = (suc k, omega (arith, below), here)

either : (x : Corner) (xs : List Corner) (c : Corner) → Contains (x ∷ xs) c → (x ≡ c) ⊎ Contains xs c
either x xs c (zero, below, here) = inl here
either x xs c (suc k, below, here) = inr (k, omega (arith, below), here)

first : (x : Corner) (xs : List Corner) (c : Corner) → x ≡ c → Contains (x ∷ xs) c
first x xs c same = (0, omega arith, same)

corner_with : (t : Tile) (ts : List Tile) (c : Corner) → Contains (map (λ v. v.corner) (with_tile t ts)) c → (t.corner ≡ c) ⊎ Contains (map (λ v. v.corner) ts) c
corner_with t [] c there = either t.corner [] c there
corner_with t (u ∷ ts) c there = (elim (is_before t.corner u.corner) as (λ b. Contains (map (λ v. v.corner) (cond b (t ∷ (u ∷ ts)) (u ∷ with_tile t ts))) c → (t.corner ≡ c) ⊎ Contains (map (λ v. v.corner) (u ∷ ts)) c) [
  | true ↦ either t.corner (map (λ v. v.corner) (u ∷ ts)) c
  | false ↦ λ among. elim (either u.corner (map (λ v. v.corner) (with_tile t ts)) c among) [
    | inl same ↦ inr (first u.corner (map (λ v. v.corner) ts) c same)
    | inr rest ↦ elim (corner_with t ts c rest) [
      | inl same ↦ inl same
      | inr old ↦ inr (later u.corner (map (λ v. v.corner) ts) c old)
    ]
  ]
]) there

corner_without : (keep : Tile → Bool) (ts : List Tile) (c : Corner) → Contains (map (λ v. v.corner) (filter keep ts)) c → Contains (map (λ v. v.corner) ts) c
corner_without keep [] c there = there
corner_without keep (u ∷ ts) c there = (elim (keep u) as (λ b. Contains (map (λ v. v.corner) (cond b (u ∷ filter keep ts) (filter keep ts))) c → Contains (map (λ v. v.corner) (u ∷ ts)) c) [
  | true ↦ λ among. elim (either u.corner (map (λ v. v.corner) (filter keep ts)) c among) [
    | inl same ↦ first u.corner (map (λ v. v.corner) ts) c same
    | inr rest ↦ later u.corner (map (λ v. v.corner) ts) c (corner_without keep ts c rest)
  ]
  | false ↦ λ among. later u.corner (map (λ v. v.corner) ts) c (corner_without keep ts c among)
]) there

-- ---- the list with one corner more

pub with_still : (m : Mosaic) (c : Corner) (listed result : Option (Vec Corner)) → is_with listed c result → are_listed m listed → are_listed m result
with_still m c listed None is right = tt
with_still m c listed (Some corners) (before, (at, (here, all))) right = λ d there. all d (subst (are_listed m) at right d there)

pub with_comes : (m : Mosaic) (t : Tile) (c : Corner) (listed result : Option (Vec Corner)) → t.corner ≡ c → is_with listed c result → are_listed m listed → are_listed (added t m) result
with_comes m t c listed None same is right = tt
with_comes m t c listed (Some corners) same (before, (at, (here, all))) right = λ d there. elim (corner_with t m.tiles d there) [
  | inl own ↦ subst (Contains corners.items) (sym same ∙ own) here
  | inr old ↦ all d (subst (are_listed m) at right d old)
]

pub with_goes : (m : Mosaic) (c : Corner) (listed result : Option (Vec Corner)) → is_with listed c result → are_listed m listed → are_listed (without c m) result
with_goes m c listed None is right = tt
with_goes m c listed (Some corners) (before, (at, (here, all))) right = λ d there. all d (subst (are_listed m) at right d (corner_without (λ v. not (same_corner v.corner c)) m.tiles d there))
