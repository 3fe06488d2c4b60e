-- A level below both heights of a changed point, or above both, stays. So does a level below the ground of a sink that is
-- declared or removed.
use Rattle.levels.proofs.Prelude.{AreLevelsStill, At, Bool, Corner, DifferAt, DifferBetween, Dir, Height, IsNoHigher, IsRimLevel, IsRimPoint, IsSetTo, IsSpared, IsTrue, LiesApart, List, Mosaic, Point, Rim, ℕ, ℤ, [], and_from, and_parts, ap, ap₂, arith, both_ways, cases_Bool, cases_eq, cases_lt, clamps, corner_at, degree_of, directions, false, fun_ext, get_or-set_other, get_or-set_same, get_or_past, height_of, inl, inr, ints, is_adjacent, is_between, is_ground, is_height, is_near, is_outlet, is_sink, length, length-set, level_of, metres, node_number, not, point_of, refl, same_point, share_tile, step, subst, sym, terrain, terrain_is_lawful, true, with_point, with_sinks, without_point, ◌&&◌, ◌+◌, ◌<ℤ◌, ◌<◌, ◌||◌, ◌∙◌, ◌∷◌, ◌≡◌, ◌≤ℤ◌, ◌≤◌, ◌⊎◌}
use Rattle.std.specs.Prelude.{Option, Some, None, IfSome, slice_set, nat_lt, count_by, int_le}
use Rattle.lattice.specs.Terrain.{Terrain, IsPath, LeadsOut, IsFilledLevel, IsLawful, crest, end_of}
use Rattle.lattice.proofs.IntTests.{le_true, le_false}
use Rattle.lattice.proofs.Levels.{≤ℤ_same, ≤ℤ_antisym}
use Rattle.levels.proofs.Changes.Reached.{between_itself, differ_with, differ_without, own_with}
use Rattle.levels.proofs.Changes.Unreached.{shared_still}

-- ---- two terrains whose heights lie on the same side of a level

-- the end of a path is no higher than the path's crest
end_low : {P : Type 0} (t : Terrain P) (x : P) (rest : List P) → t.height (end_of t x rest) ≤ℤ crest t x rest
end_low t x [] = ≤ℤ_same (t.height x)
end_low t x (y ∷ rest) = let later = end_low t y rest in omega (arith, ints, clamps)

module _ {P : Type 0} (t u : Terrain P) (ground : (x : P) → u.is_ground x ≡ t.is_ground x) (adjacent : (x y : P) → u.is_adjacent x y ≡ t.is_adjacent x y) (v : ℤ)
    (low : (x : P) → t.height x ≤ℤ v → u.height x ≤ℤ v) (under : (x : P) → u.height x <ℤ v → t.height x <ℤ v)
    (outlet_there : (x : P) → t.height x ≤ℤ v → IsTrue (t.is_outlet x) → IsTrue (u.is_outlet x)) (outlet_back : (x : P) → u.height x <ℤ v → IsTrue (u.is_outlet x) → IsTrue (t.is_outlet x)) where
  path_there : (x : P) (rest : List P) → IsPath t x rest → IsPath u x rest
  path_there x [] on = ground x ∙ on
  path_there x (y ∷ rest) path = (adjacent x y ∙ path.0, path_there y rest path.1)

  path_back : (x : P) (rest : List P) → IsPath u x rest → IsPath t x rest
  path_back x [] on = sym (ground x) ∙ on
  path_back x (y ∷ rest) path = (sym (adjacent x y) ∙ path.0, path_back y rest path.1)

  crest_low : (x : P) (rest : List P) → crest t x rest ≤ℤ v → crest u x rest ≤ℤ v
  crest_low x [] at = low x at
  crest_low x (y ∷ rest) at =
      let here : t.height x ≤ℤ v = omega (arith, ints, clamps) in
      let later : crest t y rest ≤ℤ v = omega (arith, ints, clamps) in
      let here' = low x here in
      let later' = crest_low y rest later in
      omega (arith, ints, clamps)

  crest_under : (x : P) (rest : List P) → crest u x rest <ℤ v → crest t x rest <ℤ v
  crest_under x [] at = under x at
  crest_under x (y ∷ rest) at =
      let here : u.height x <ℤ v = omega (arith, ints, clamps) in
      let later : crest u y rest <ℤ v = omega (arith, ints, clamps) in
      let here' = under x here in
      let later' = crest_under y rest later in
      omega (arith, ints, clamps)

  same_end : (x : P) (rest : List P) → end_of u x rest ≡ end_of t x rest
  same_end x [] = refl
  same_end x (y ∷ rest) = same_end y rest

  leads_there : (x : P) (rest : List P) → crest t x rest ≤ℤ v → LeadsOut t x rest → LeadsOut u x rest
  leads_there x rest at out =
      let last = end_low t x rest in
      let low_end : t.height (end_of t x rest) ≤ℤ v = omega (arith, ints) in
      record {
        path = path_there x rest out.path;
        outlet = subst (λ e. IsTrue (u.is_outlet e)) (sym (same_end x rest)) (outlet_there (end_of t x rest) low_end out.outlet);
      }

  leads_back : (x : P) (rest : List P) → crest u x rest <ℤ v → LeadsOut u x rest → LeadsOut t x rest
  leads_back x rest at out =
      let last = end_low u x rest in
      let low_end : u.height (end_of u x rest) <ℤ v = omega (arith, ints) in
      record {
        path = path_back x rest out.path;
        outlet = subst (λ e. IsTrue (t.is_outlet e)) (same_end x rest) (outlet_back (end_of u x rest) low_end out.outlet);
      }

  high_or_less : (w : ℤ) → (v ≤ℤ w) ⊎ (w <ℤ v)
  high_or_less w = elim (cases_Bool (int_le v w)) [
    | inl high ↦ inl (le_true v w high)
    | inr less ↦ inr (le_false v w less)
  ]

  not_under : (x : P) → ((rest : List P) → LeadsOut t x rest → v ≤ℤ crest t x rest) → (rest : List P) → LeadsOut u x rest → v ≤ℤ crest u x rest
  not_under x least rest out = elim (high_or_less (crest u x rest)) [
    | inl high ↦ high
    | inr less ↦
        let above = least rest (leads_back x rest less out) in
        let below = crest_under x rest less in
        absurd (omega (arith, ints))
  ]

  pub level_stays : (x : P) → IsFilledLevel t x v → IsFilledLevel u x v
  level_stays x is =
      let rest = is.reached.0 in
      let at : crest t x rest ≤ℤ v = subst (λ w. w ≤ℤ v) (sym is.reached.1.1) (≤ℤ_same v) in
      let out = leads_there x rest at is.reached.1.0 in
      let low' : crest u x rest ≤ℤ v = crest_low x rest at in
      record { reached = (rest, (out, ≤ℤ_antisym (crest u x rest) v low' (not_under x is.least rest out))); least = not_under x is.least }

-- ---- two mosaics with the same ground

module _ (m new : Mosaic) (p : Point) (differ : DifferBetween m new p p) (ground : (q : Point) → is_ground new q ≡ is_ground m q) where
  pub adjacent_still : (q r : Point) → is_adjacent new q r ≡ is_adjacent m q r
  adjacent_still q r =
      ap₂ (λ (a b : Bool). a && b && not (same_point q r) && is_near q r && share_tile new q r) (ground q) (ground r)
      ∙ ap (λ b. is_ground m q && is_ground m r && not (same_point q r) && is_near q r && b) (shared_still m new p p differ q r)

  pub degree_still : (q : Point) → degree_of new q ≡ degree_of m q
  degree_still q = ap (λ (f : Dir → Bool). count_by f directions) (fun_ext (λ d. adjacent_still q (step d q)))

pub outlet_still : (m new : Mosaic) (p : Point) (differ : DifferAt m new p) (ground : (q : Point) → is_ground new q ≡ is_ground m q) (q : Point) → is_outlet new q ≡ is_outlet m q
outlet_still m new p differ ground q =
    ap₂ (λ (a : Bool) (k : ℕ). a && (nat_lt k 8 || is_sink new q)) (ground q) (degree_still m new p differ.around ground q)
    ∙ ap (λ b. is_ground m q && (nat_lt (degree_of m q) 8 || b)) (differ.all_sinks q)

-- a point that is an outlet of the first mosaic is one of the second, if the second has the sinks of the first
or_more : (a b c : Bool) → (b ≡ true → c ≡ true) → (a || b) ≡ true → (a || c) ≡ true
or_more true b c more is = refl
or_more false b c more is = more is

more_outlets : (m new : Mosaic) (q : Point) → is_ground new q ≡ is_ground m q → degree_of new q ≡ degree_of m q → (is_sink m q ≡ true → is_sink new q ≡ true) → is_outlet m q ≡ true → is_outlet new q ≡ true
more_outlets m new q ground degree more out =
    let parts = and_parts (is_ground m q) (nat_lt (degree_of m q) 8 || is_sink m q) out in
    and_from (is_ground new q) (nat_lt (degree_of new q) 8 || is_sink new q) (ground ∙ parts.0)
    (ap (λ k. nat_lt k 8 || is_sink new q) degree ∙ or_more (nat_lt (degree_of m q) 8) (is_sink m q) (is_sink new q) more parts.1)

-- ---- two mosaics that differ in the height of one ground point

module _ (m new : Mosaic) (p : Point) (differ : DifferAt m new p) (was is : ℤ) (before : height_of m p ≡ At was) (after : height_of new p ≡ At is) where
  -- a point is p, or has its old height
  this_or_same : (q : Point) → (p ≡ q) ⊎ (height_of new q ≡ height_of m q)
  this_or_same q = elim (cases_Bool (is_between p p q)) [
    | inl within ↦ inl (between_itself p q within)
    | inr out ↦ inr (differ.around.heights q out)
  ]

  pub ground_still : (q : Point) → is_ground new q ≡ is_ground m q
  ground_still q = elim (this_or_same q) [
    | inl here ↦ ap is_height (ap (height_of new) (sym here) ∙ after) ∙ sym (ap is_height (ap (height_of m) (sym here) ∙ before))
    | inr same ↦ ap is_height same
  ]

  metres_before : (q : Point) → p ≡ q → metres (height_of m q) ≡ was
  metres_before q here = ap metres (ap (height_of m) (sym here) ∙ before)

  metres_after : (q : Point) → p ≡ q → metres (height_of new q) ≡ is
  metres_after q here = ap metres (ap (height_of new) (sym here) ∙ after)

  module _ (v : ℤ) (spared : LiesApart was is v) where
    low_still : (q : Point) → metres (height_of m q) ≤ℤ v → metres (height_of new q) ≤ℤ v
    low_still q low = elim (this_or_same q) [
      | inl here ↦ subst (λ w. w ≤ℤ v) (sym (metres_after q here)) (low_here (subst (λ w. w ≤ℤ v) (metres_before q here) low) spared)
      | inr same ↦ subst (λ (h : Height). metres h ≤ℤ v) (sym same) low
    ]
      where
        low_here : was ≤ℤ v → LiesApart was is v → is ≤ℤ v
        low_here low (inl below) = let b = below.0 in absurd (omega (arith, ints))
        low_here low (inr above) = let b = above.1 in omega (arith, ints)

    under_still : (q : Point) → metres (height_of new q) <ℤ v → metres (height_of m q) <ℤ v
    under_still q low = elim (this_or_same q) [
      | inl here ↦ subst (λ w. w <ℤ v) (sym (metres_before q here)) (under_here (subst (λ w. w <ℤ v) (metres_after q here) low) spared)
      | inr same ↦ subst (λ (h : Height). metres h <ℤ v) same low
    ]
      where
        under_here : is <ℤ v → LiesApart was is v → was <ℤ v
        under_here low (inl below) = let b = below.1 in absurd (omega (arith, ints))
        under_here low (inr above) = above.0

    pub filled_still : (q : Point) → IsFilledLevel (terrain m) q v → IsFilledLevel (terrain new) q v
    filled_still = level_stays (terrain m) (terrain new) ground_still (adjacent_still m new p differ.around ground_still) v low_still under_still
        (λ q _. more_outlets m new q (ground_still q) (degree_still m new p differ.around ground_still q) (λ on. differ.all_sinks q ∙ on))
        (λ q _. more_outlets new m q (sym (ground_still q)) (sym (degree_still m new p differ.around ground_still q)) (λ on. sym (differ.all_sinks q) ∙ on))

-- ---- two mosaics that differ in one sink: no level below its ground changes, and a declared sink changes no level equal to
-- its ground either

module _ (m new : Mosaic) (p : Point) (differ : DifferBetween m new p p) (heights : (q : Point) → height_of new q ≡ height_of m q) (v : ℤ)
    (low : v ≤ℤ metres (height_of m p)) (lower : is_sink m p ≡ true → is_sink new p ≡ false → v <ℤ metres (height_of m p)) where
  ground_same : (q : Point) → is_ground new q ≡ is_ground m q
  ground_same q = ap is_height (heights q)

  sink_there : metres (height_of m p) ≤ℤ v → is_sink m p ≡ true → is_sink new p ≡ true
  sink_there at on = elim (cases_Bool (is_sink new p)) [
    | inl on' ↦ on'
    | inr off ↦ let less = lower on off in absurd (omega (arith, ints))
  ]

  sink_back : metres (height_of new p) <ℤ v → is_sink new p ≡ true → is_sink m p ≡ true
  sink_back at on = let under : metres (height_of m p) <ℤ v = subst (λ (h : Height). metres h <ℤ v) (heights p) at in absurd (omega (arith, ints))

  there : (q : Point) → metres (height_of m q) ≤ℤ v → is_sink m q ≡ true → is_sink new q ≡ true
  there q = elim (cases_Bool (is_between p p q)) [
    | inl within ↦ subst (λ r. metres (height_of m r) ≤ℤ v → is_sink m r ≡ true → is_sink new r ≡ true) (between_itself p q within) sink_there
    | inr out ↦ λ at on. differ.sinks q out ∙ on
  ]

  back : (q : Point) → metres (height_of new q) <ℤ v → is_sink new q ≡ true → is_sink m q ≡ true
  back q = elim (cases_Bool (is_between p p q)) [
    | inl within ↦ subst (λ r. metres (height_of new r) <ℤ v → is_sink new r ≡ true → is_sink m r ≡ true) (between_itself p q within) sink_back
    | inr out ↦ λ at on. sym (differ.sinks q out) ∙ on
  ]

  pub filled_beside_sink : (q : Point) → IsFilledLevel (terrain m) q v → IsFilledLevel (terrain new) q v
  filled_beside_sink = level_stays (terrain m) (terrain new) ground_same (adjacent_still m new p differ ground_same) v
      (λ q at. subst (λ (h : Height). metres h ≤ℤ v) (sym (heights q)) at) (λ q at. subst (λ (h : Height). metres h <ℤ v) (heights q) at)
      (λ q at. more_outlets m new q (ground_same q) (degree_still m new p differ ground_same q) (there q at))
      (λ q at. more_outlets new m q (sym (ground_same q)) (sym (degree_still m new p differ ground_same q)) (back q at))

pub declared_still : (m : Mosaic) (p : Point) (most : Option ℤ) → IfSome most (λ level. level ≤ℤ metres (height_of m p)) → AreLevelsStill (IsNoHigher most) m (with_sinks (with_point p m.sinks) m)
declared_still m p None below q v stays = absurd stays
declared_still m p (Some most) below q v stays =
    let new : Mosaic = with_sinks (with_point p m.sinks) m in
    let at : v ≤ℤ most = stays in
    let under : most ≤ℤ metres (height_of m p) = below in
    let low : v ≤ℤ metres (height_of m p) = omega (arith, ints) in
    filled_beside_sink m new p (differ_with m p) (λ r. refl) v low (λ on off. absurd (both_ways (is_sink new p) off (own_with p m.sinks))) q

pub taken_back_still : (m : Mosaic) (p : Point) (most : Option ℤ) → IfSome most (λ level. level <ℤ metres (height_of m p)) → AreLevelsStill (IsNoHigher most) m (with_sinks (without_point p m.sinks) m)
taken_back_still m p None below q v stays = absurd stays
taken_back_still m p (Some most) below q v stays =
    let at : v ≤ℤ most = stays in
    let under : most <ℤ metres (height_of m p) = below in
    let low : v ≤ℤ metres (height_of m p) = omega (arith, ints) in
    let lower : v <ℤ metres (height_of m p) = omega (arith, ints) in
    filled_beside_sink m (with_sinks (without_point p m.sinks) m) p (differ_without m p) (λ r. refl) v low (λ on off. lower) q

-- ---- the levels of rim points

starts_on_ground : {P : Type 0} (t : Terrain P) → IsLawful t → (x : P) (rest : List P) → IsPath t x rest → IsTrue (t.is_ground x)
starts_on_ground t law x [] path = path
starts_on_ground t law x (y ∷ rest) path = law.from_ground x y path.0

pub rim_level_still : (m new : Mosaic) → new.side ≡ m.side → (corners : List Corner) (x : ℕ) (v : ℤ) → ((q : Point) → IsFilledLevel (terrain m) q v → IsFilledLevel (terrain new) q v) → IsRimLevel m corners x v → IsRimLevel new corners x v
rim_level_still m new same_side corners x v still r =
    let side : m.side ≡ new.side = sym same_side in
    let q = point_of m.side (corner_at corners r.tile) r.index in
    let filled : IsFilledLevel (terrain new) q v = still q r.filled in
    let on : IsTrue (is_ground new q) = starts_on_ground (terrain new) (terrain_is_lawful new) q filled.reached.0 filled.reached.1.0.path in
    record {
      tile = r.tile;
      number = r.number;
      index = r.index;
      node = r.node ∙ ap (λ n. node_number n (Rim r.tile r.number)) side;
      place = r.place;
      rim = subst (λ n. IsRimPoint n r.number r.index) side r.rim;
      on_ground = subst (λ n. IsTrue (is_ground new (point_of n (corner_at corners r.tile) r.index))) side on;
      filled = subst (λ n. IsFilledLevel (terrain new) (point_of n (corner_at corners r.tile) r.index) v) side filled;
    }

-- a known level of a rim point that the change can't move
module _ (m new : Mosaic) (p : Point) (differ : DifferAt m new p) where
  -- a level outside two heights is outside the one height taken twice
  pub spared_twice : (was is v : ℤ) → LiesApart was is v → LiesApart was was v
  spared_twice was is v (inl below) = inl (below.0, below.0)
  spared_twice was is v (inr above) = inr (above.0, above.0)

  pub spared_level : (was is : ℤ) → height_of m p ≡ At was → IsSetTo m new p is → (corners : List Corner) (x : ℕ) (v : ℤ) → IsSpared was is v → IsRimLevel m corners x v → IsRimLevel new corners x v
  spared_level was is before (inl same) corners x v spared r =
      rim_level_still m new differ.around.same_side corners x v (filled_still m new p differ was was before (same ∙ before) v (spared_twice was is v spared.1)) r
  spared_level was is before (inr set) corners x v spared r =
      rim_level_still m new differ.around.same_side corners x v (filled_still m new p differ was is before (set spared.0 (ap is_height before)) v spared.1) r

-- ---- levels dropped one by one

pub record AreSpared (spared : ℤ → Type 0) (before : List (Option ℤ)) (k : ℕ) (now : List (Option ℤ)) : Type 0 where
  pub whole : length now ≡ length before
  pub left : (x : ℕ) (level : ℤ) → level_of now x ≡ Some level → (level_of before x ≡ Some level) × (x < k → spared level)
  pub kept : (x : ℕ) (level : ℤ) → level_of before x ≡ Some level → spared level → level_of now x ≡ Some level

none_is : (a : ℤ) → ◌≡◌ {A = Option ℤ} None (Some a) → ⊥
none_is a e = cc

module _ (spared : ℤ → Type 0) (before : List (Option ℤ)) where
  module _ (k : ℕ) (now : List (Option ℤ)) (o : Option ℤ) (at : level_of now k ≡ o) (so : AreSpared spared before k now) where
    pub one_spared : IfSome o spared → AreSpared spared before (k + 1) now
    one_spared is_spared = record {
      whole = so.whole;
      left = λ x level there. (
        (so.left x level there).0,
        λ below. elim (cases_eq x k) [
          | inl here ↦ subst (λ (p : Option ℤ). IfSome p spared) (sym at ∙ (ap (level_of now) (sym here) ∙ there)) is_spared
          | inr other ↦ (so.left x level there).1 (omega arith)
        ],
      );
      kept = so.kept;
    }

    pub one_given_up : k < length now → IfSome o (λ l. spared l → ⊥) → AreSpared spared before (k + 1) (slice_set now k None)
    one_given_up inside gone = record {
      whole = length-set now k None ∙ so.whole;
      left = λ x level there. elim (cases_eq x k) [
        | inl here ↦ absurd (none_is level (sym (get_or-set_same now k None None inside) ∙ (ap (level_of (slice_set now k None)) (sym here) ∙ there)))
        | inr other ↦
            let was_there = so.left x level (sym (get_or-set_other now k x None None other) ∙ there) in
            (was_there.0, λ below. was_there.1 (omega arith))
      ];
      kept = λ x level there is_spared. elim (cases_eq x k) [
        | inl here ↦
            let now_there = so.kept x level there is_spared in
            absurd (subst (λ (q : Option ℤ). IfSome q (λ l. spared l → ⊥)) (sym at ∙ (ap (level_of now) (sym here) ∙ now_there)) gone is_spared)
        | inr other ↦ get_or-set_other now k x None None other ∙ so.kept x level there is_spared
      ];
    }

  pub all_seen : (k : ℕ) (now : List (Option ℤ)) → length now ≤ k → AreSpared spared before k now → (x : ℕ) (level : ℤ) → level_of now x ≡ Some level → (level_of before x ≡ Some level) × spared level
  all_seen k now end so x level there = elim (cases_lt x (length now)) [
    | inl below ↦ let seen = so.left x level there in (seen.0, seen.1 (omega arith))
    | inr past ↦ absurd (none_is level (sym (get_or_past now x None past) ∙ there))
  ]
