-- A tile that no present tile lies beside comes or goes: no level moves elsewhere, and no point drains another way.
use Rattle.std.proofs.Common.{◌≡◌, ℕ, suc, ◌≤◌, ℤ, ◌-ℤ◌, ◌<ℤ◌, ◌≤ℤ◌, nat_abs, Bool, true, false, not, ◌&&◌, ◌||◌, cond, nat_lt, lt-ltb, IsTrue, List, [], ◌∷◌, refl, sym, ap, ap₂, ◌∙◌, subst, arith, true≢false}
use Rattle.drainage.proofs.Prelude.{AreFilledLevels, Beside, Contains, Corner, Dir, Flat, FlatTo, Flow, IsFilledLevel, IsFlow, Mosaic, NoGround, Outlet, Point, Tile, To, Unknown, and_from, and_parts, both_ways, by_seam_rule, count_by, directions, false_from_ne_true, filter, height_of, holds, is_adjacent, is_ground, is_height, is_sink, level_is_unique, int_max, list_any, same_point, share_tile, step, terrain, terrain_is_lawful}
use Rattle.std.proofs.lemmas.Bool.{and_right}
use Rattle.catalogue.specs.Tiles.{added, with_tile, without}
use Rattle.catalogue.proofs.Nearby.{holders_near}
use Rattle.edits.proofs.Untouched.{said_with, said_without}
use Rattle.edits.specs.Touched.{are_neighbours}
use Rattle.lattice.specs.Corners.{is_before, same_corner}
use Rattle.lattice.proofs.CornerOrder.{same_says}
use Rattle.lattice.specs.Ground.{degree_of, is_near, is_outlet, metres}
use Rattle.lattice.specs.Terrain.{IsPath, LeadsOut, crest, end_of}
use Rattle.std.proofs.Math.Path.{fun_ext}
use Rattle.flow_d8.proofs.Mosaics.Ordered.{AreInOrder, flow_too}

-- ---- two mosaics that are alike in a region that no tile leads out of

pub record AreApart (m new : Mosaic) (In : Point → Type 0) : Type 0 where
  pub heights : (p : Point) → In p → height_of new p ≡ height_of m p
  pub sinks : (p : Point) → In p → is_sink new p ≡ is_sink m p
  pub shared : (p q : Point) → In p → share_tile new p q ≡ share_tile m p q
  pub onward : (p q : Point) → In p → IsTrue (share_tile m p q) → In q

pub other_way_apart : (m new : Mosaic) (In : Point → Type 0) → AreApart m new In → AreApart new m In
other_way_apart m new In is = record {
  heights = λ p on. sym (is.heights p on);
  sinks = λ p on. sym (is.sinks p on);
  shared = λ p q on. sym (is.shared p q on);
  onward = λ p q on near. is.onward p q on (sym (is.shared p q on) ∙ near);
}

module _ (m new : Mosaic) (In : Point → Type 0) (is : AreApart m new In) where
  pub ground_apart : (p : Point) → In p → is_ground new p ≡ is_ground m p
  ground_apart p on = ap is_height (is.heights p on)

  adjacent_apart : (p q : Point) → In p → is_adjacent new p q ≡ is_adjacent m p q
  adjacent_apart p q on = by (share_tile m p q) refl
    where
      by : (b : Bool) → share_tile m p q ≡ b → is_adjacent new p q ≡ is_adjacent m p q
      by true near =
          ap₂ (λ (x y : Bool). x && y && not (same_point p q) && is_near p q && share_tile new p q) (ground_apart p on) (ground_apart q (is.onward p q on near))
          ∙ ap (λ b. is_ground m p && is_ground m q && not (same_point p q) && is_near p q && b) (is.shared p q on)
      by false far =
          and_right (is_ground new p && is_ground new q && not (same_point p q) && is_near p q) (share_tile new p q) (is.shared p q on ∙ far)
          ∙ sym (and_right (is_ground m p && is_ground m q && not (same_point p q) && is_near p q) (share_tile m p q) far)

  next_apart : (p q : Point) → In p → IsTrue (is_adjacent m p q) → In q
  next_apart p q on near = is.onward p q on (and_parts (is_ground m p && is_ground m q && not (same_point p q) && is_near p q) (share_tile m p q) near).1

  degree_apart : (p : Point) → In p → degree_of new p ≡ degree_of m p
  degree_apart p on = ap (λ (f : Dir → Bool). count_by f directions) (fun_ext (λ d. adjacent_apart p (step d p) on))

  outlet_apart : (p : Point) → In p → is_outlet new p ≡ is_outlet m p
  outlet_apart p on =
      ap₂ (λ (a : Bool) (k : ℕ). a && (nat_lt k 8 || is_sink new p)) (ground_apart p on) (degree_apart p on)
      ∙ ap (λ b. is_ground m p && (nat_lt (degree_of m p) 8 || b)) (is.sinks p on)

  path_apart : (x : Point) (rest : List Point) → In x → IsPath (terrain m) x rest → IsPath (terrain new) x rest
  path_apart x [] on path = ground_apart x on ∙ path
  path_apart x (y ∷ rest) on path = (adjacent_apart x y on ∙ path.0, path_apart y rest (next_apart x y on path.0) path.1)

  crest_apart : (x : Point) (rest : List Point) → In x → IsPath (terrain m) x rest → crest (terrain new) x rest ≡ crest (terrain m) x rest
  crest_apart x [] on path = ap metres (is.heights x on)
  crest_apart x (y ∷ rest) on path = ap₂ int_max (ap metres (is.heights x on)) (crest_apart y rest (next_apart x y on path.0) path.1)

  end_apart : (x : Point) (rest : List Point) → end_of (terrain new) x rest ≡ end_of (terrain m) x rest
  end_apart x [] = refl
  end_apart x (y ∷ rest) = end_apart y rest

  end_inside : (x : Point) (rest : List Point) → In x → IsPath (terrain m) x rest → In (end_of (terrain m) x rest)
  end_inside x [] on path = on
  end_inside x (y ∷ rest) on path = end_inside y rest (next_apart x y on path.0) path.1

  leads_apart : (x : Point) (rest : List Point) → In x → LeadsOut (terrain m) x rest → LeadsOut (terrain new) x rest
  leads_apart x rest on out = record {
    path = path_apart x rest on out.path;
    outlet = subst (λ e. IsTrue (is_outlet new e)) (sym (end_apart x rest)) (outlet_apart (end_of (terrain m) x rest) (end_inside x rest on out.path) ∙ out.outlet);
  }

-- levels in the region stay
pub level_apart : (m new : Mosaic) (In : Point → Type 0) → AreApart m new In → (x : Point) → In x → (v : ℤ) → IsFilledLevel (terrain m) x v → IsFilledLevel (terrain new) x v
level_apart m new In is x on v filled = record {
  reached = (filled.reached.0, (leads_apart m new In is x filled.reached.0 on filled.reached.1.0, crest_apart m new In is x filled.reached.0 on filled.reached.1.0.path ∙ filled.reached.1.1));
  least = λ rest out.
      let back = other_way_apart m new In is in
      subst (λ w. v ≤ℤ w) (crest_apart new m In back x rest on out.path) (filled.least rest (leads_apart new m In back x rest on out));
}

-- .. and so does where its points drain
module _ (m new : Mosaic) (In : Point → Type 0) (is : AreApart m new In) (level level' : Point → ℤ) (filled : AreFilledLevels (terrain m) level) (filled' : AreFilledLevels (terrain new) level') where
  abbrev On : Point → Type 0
  On p = In p × IsTrue (is_ground m p)

  same_level : (p : Point) → On p → level' p ≡ level p
  same_level p on = level_is_unique (terrain new) p (level' p) (level p) (filled' p (ground_apart m new In is p on.0 ∙ on.1)) (level_apart m new In is p on.0 (level p) (filled p on.1))

  next_on : (p q : Point) → On p → IsTrue (is_adjacent m p q) → On q
  next_on p q on near = (next_apart m new In is p q on.0 near, (terrain_is_lawful m).to_ground p q near)

  beside_on : (p q : Point) → On p → is_adjacent new p q ≡ is_adjacent m p q
  beside_on p q on = adjacent_apart m new In is p q on.0

  in_order : AreInOrder On (terrain m) (terrain new) level level'
  in_order = record {
    outlet = λ q on. sym (outlet_apart m new In is q on.0);
    lower = λ q r on low. record {
      beside = beside_on q r on ∙ low.beside;
      below = subst (λ v. level' r <ℤ v) (sym (same_level q on)) (subst (λ v. v <ℤ level q) (sym (same_level r (next_on q r on low.beside))) low.below);
    };
    higher = λ q r on low.
        let near : IsTrue (is_adjacent m q r) = sym (beside_on q r on) ∙ low.beside in
        record { beside = near; below = subst (λ v. level r <ℤ v) (same_level q on) (subst (λ v. v <ℤ level' q) (same_level r (next_on q r on near)) low.below) };
    across = λ q r on over. (record { beside = beside_on q r on ∙ over.beside; same_level = same_level r (next_on q r on over.beside) ∙ over.same_level ∙ sym (same_level q on) }, next_on q r on over.beside);
    back = λ q r on over.
        let near : IsTrue (is_adjacent m q r) = sym (beside_on q r on) ∙ over.beside in
        (record { beside = near; same_level = sym (same_level r (next_on q r on near)) ∙ over.same_level ∙ same_level q on }, next_on q r on near);
  }

  flow_on : (q : Point) → On q → (f : Flow) → IsFlow (terrain m) level q f → IsFlow (terrain new) level' q f
  flow_on q on = flow_too On (terrain m) (terrain new) level level' in_order q on (same_level q on) (λ r low. same_level r (next_on q r on low.beside)) (ground_apart m new In is q on.0)

  pub flow_apart : (q : Point) → In q → (f : Flow) → IsFlow (terrain m) level q f → IsFlow (terrain new) level' q f
  flow_apart q on Unknown so = tt
  flow_apart q on NoGround so = ground_apart m new In is q on ∙ so
  flow_apart q on Outlet so = flow_on q (on, (terrain_is_lawful m).outlet_ground q so.1) Outlet so
  flow_apart q on (To d) so = flow_on q (on, (terrain_is_lawful m).from_ground q (step d q) so.lower.beside) (To d) so
  flow_apart q on (Beside d) so = flow_on q (on, so.0.ground) (Beside d) so
  flow_apart q on Flat so = flow_on q (on, so.0.ground) Flat so
  flow_apart q on (FlatTo d) so = flow_on q (on, so.0.ground) (FlatTo d) so

-- ---- a tile that comes, or goes

any_tile : (f : Tile → Bool) (ts : List Tile) → IsTrue (list_any f ts) → (u : Tile) × (Contains ts u × IsTrue (f u))
any_tile f [] none = absurd (true≢false (sym none))
any_tile f (u ∷ ts) some = by (f u) refl some (any_tile f ts)
  where
    by : (b : Bool) → f u ≡ b → (b || list_any f ts) ≡ true → (IsTrue (list_any f ts) → (v : Tile) × (Contains ts v × IsTrue (f v))) → (v : Tile) × (Contains (u ∷ ts) v × IsTrue (f v))
    by true here _ again = (u, ((0, omega arith, refl), here))
    by false _ later again = let found = again later in let there = found.1.0 in (found.0, ((suc there.0, omega (arith, there.1), there.2), found.1.1))

any_with : (f : Tile → Bool) (t : Tile) (ts : List Tile) → f t ≡ false → list_any f (with_tile t ts) ≡ list_any f ts
any_with f t [] off = ap (λ b. b || false) off
any_with f t (u ∷ ts) off = elim (is_before t.corner u.corner) as (λ b. list_any f (cond b (t ∷ (u ∷ ts)) (u ∷ with_tile t ts)) ≡ list_any f (u ∷ ts)) [
  | true ↦ ap (λ b. b || list_any f (u ∷ ts)) off
  | false ↦ ap (λ b. f u || b) (any_with f t ts off)
]

any_filter : (f keep : Tile → Bool) (ts : List Tile) → ((t : Tile) → keep t ≡ false → f t ≡ false) → list_any f (filter keep ts) ≡ list_any f ts
any_filter f keep [] off = refl
any_filter f keep (t ∷ ts) off = by (keep t) refl (any_filter f keep ts off)
  where
    by : (b : Bool) → keep t ≡ b → list_any f (filter keep ts) ≡ list_any f ts → list_any f (cond b (t ∷ filter keep ts) (filter keep ts)) ≡ list_any f (t ∷ ts)
    by true _ rest = ap (λ b. f t || b) rest
    by false gone rest = rest ∙ sym (ap (λ b. b || list_any f ts) (off t gone))

-- a tile that is no neighbour doesn't have a point of the other
pub off_other : (n : ℕ) (a b : Corner) (q : Point) → 3 ≤ n → are_neighbours a b ≡ false → holds n a q ≡ true → holds n b q ≡ false
off_other n a b q side far held = false_from_ne_true (holds n b q) (λ there.
    let near = holders_near n a b q side held there in
    both_ways (are_neighbours a b) far (and_from (nat_lt (nat_abs (a.lat -ℤ b.lat)) 2) (nat_lt (nat_abs (a.lon -ℤ b.lon)) 2) (lt-ltb _ 2 near.0) (lt-ltb _ 2 near.1)))

-- no other present tile is a neighbour of the corner's
abbrev pub IsAlone : Mosaic → Corner → Type 0
IsAlone m c = (u : Tile) → Contains m.tiles u → same_corner u.corner c ≡ false → are_neighbours u.corner c ≡ false

-- the corner's tile doesn't have the point
abbrev pub IsOff : Mosaic → Corner → Point → Type 0
IsOff m c p = holds m.side c p ≡ false

-- from such a point no present tile leads to one that it has
onward_alone : (m : Mosaic) → 3 ≤ m.side → (c : Corner) → IsAlone m c → (p q : Point) → IsOff m c p → IsTrue (share_tile m p q) → IsOff m c q
onward_alone m side c alone p q off near =
    let found = any_tile (λ t. holds m.side t.corner p && holds m.side t.corner q) m.tiles near in
    let u = found.0 in
    let both = and_parts (holds m.side u.corner p) (holds m.side u.corner q) found.1.1 in
    let other : same_corner u.corner c ≡ false = false_from_ne_true (same_corner u.corner c) (λ same.
    both_ways (holds m.side c p) off (subst (λ (d : Corner). holds m.side d p ≡ true) (same_says u.corner c same) both.0)) in
    off_other m.side u.corner c q side (alone u found.1.0 other) both.1

pub comes_alone : (m : Mosaic) → 3 ≤ m.side → (t : Tile) → IsAlone m t.corner → AreApart m (added t m) (IsOff m t.corner)
comes_alone m side t alone = record {
  heights = λ p off. ap by_seam_rule (said_with m.side p t m.tiles off);
  sinks = λ p off. refl;
  shared = λ p q off. any_with (λ u. holds m.side u.corner p && holds m.side u.corner q) t m.tiles (ap (λ b. b && holds m.side t.corner q) off);
  onward = onward_alone m side t.corner alone;
}

gone_is : (c : Corner) (t : Tile) → not (same_corner t.corner c) ≡ false → t.corner ≡ c
gone_is c t gone = same_says t.corner c (out (same_corner t.corner c) gone)
  where
    out : (b : Bool) → not b ≡ false → b ≡ true
    out true e = refl
    out false e = sym e

pub goes_alone : (m : Mosaic) → 3 ≤ m.side → (c : Corner) → IsAlone m c → AreApart m (without c m) (IsOff m c)
goes_alone m side c alone = record {
  heights = λ p off. ap by_seam_rule (said_without m.side p (λ t. not (same_corner t.corner c)) m.tiles (λ t gone. subst (λ (d : Corner). holds m.side d p ≡ false) (sym (gone_is c t gone)) off));
  sinks = λ p off. refl;
  shared = λ p q off. any_filter (λ u. holds m.side u.corner p && holds m.side u.corner q) (λ t. not (same_corner t.corner c)) m.tiles
      (λ t gone. ap (λ b. b && holds m.side t.corner q) (subst (λ (d : Corner). holds m.side d p ≡ false) (sym (gone_is c t gone)) off));
  onward = onward_alone m side c alone;
}
