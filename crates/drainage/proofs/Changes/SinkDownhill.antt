-- A sink that comes or goes at a point with a lower level beside it moves no level, and no point drains another way: water goes on
-- down, and comes no higher on its way than it stood.
use Rattle.std.proofs.Common.{◌≡◌, ◌⊎◌, ℕ, zero, suc, ◌++◌, ◌∷◌, ℤ, ◌≤ℤ◌, ◌<ℤ◌, true, false, ◌&&◌, ◌||◌, nat_lt, IsTrue, List, [], get_or, inl, inr, refl, sym, ap, ap₂, ◌∙◌, subst, arith}
use Rattle.drainage.proofs.Prelude.{AreFilledLevels, Beside, CrossesFlat, Dir, Flat, FlatTo, Flow, FlowCache, IsCacheOf, IsFilledLevel, IsFlow, IsMosaic, Mosaic, NoGround, Option, Outlet, Point, Some, None, To, Unknown, cases_Bool, clamps, false≢true, flow_cache_right, int_max, ints, is_between, is_ground, is_sink, level_is_unique, step, terrain, terrain_is_lawful, with_sinks}
use Rattle.lattice.proofs.Levels.{≤ℤ_same}
use Rattle.lattice.specs.Ground.{degree_of, is_outlet}
use Rattle.lattice.specs.Terrain.{IsLawful, IsPath, LeadsOut, Terrain, crest, end_of}
use Rattle.levels.proofs.Changes.Reached.{between_itself}
use Rattle.levels.specs.Spared.{AreLevelsStill}
use Rattle.flow_d8.specs.Flows.{LiesInside}
use Rattle.flow_d8.specs.Tiles.{place_of}
use Rattle.water.specs.Drainage.{HasLower, IsDirection, IsFirstNearer, IsFlatDistance, IsLower, IsNearer, IsSteepest}
use Rattle.drainage.proofs.Questions.LevelFunctions.{level_function}
use Rattle.drainage.specs.Sinks.{is_down}

-- ---- paths over two terrains of the same ground

module _ {P : Type 0} (t u : Terrain P) (ground : (x : P) → u.is_ground x ≡ t.is_ground x) (adjacent : (x y : P) → u.is_adjacent x y ≡ t.is_adjacent x y) (height : (x : P) → u.height x ≡ t.height x) where
  path_as : (x : P) (rest : List P) → IsPath t x rest → IsPath u x rest
  path_as x [] on = ground x ∙ on
  path_as x (y ∷ rest) path = (adjacent x y ∙ path.0, path_as y rest path.1)

  crest_as : (x : P) (rest : List P) → crest u x rest ≡ crest t x rest
  crest_as x [] = height x
  crest_as x (y ∷ rest) = ap₂ int_max (height x) (crest_as y rest)

  end_as : (x : P) (rest : List P) → end_of u x rest ≡ end_of t x rest
  end_as x [] = refl
  end_as x (y ∷ rest) = end_as y rest

  leads_as : (x : P) (rest : List P) → u.is_outlet (end_of t x rest) ≡ t.is_outlet (end_of t x rest) → LeadsOut t x rest → LeadsOut u x rest
  leads_as x rest same out = record {
    path = path_as x rest out.path;
    outlet = subst (λ e. IsTrue (u.is_outlet e)) (sym (end_as x rest)) (same ∙ out.outlet);
  }

-- the end of a path is no higher than its crest
end_low : {P : Type 0} (t : Terrain P) (x : P) (rest : List P) → t.height (end_of t x rest) ≤ℤ crest t x rest
end_low t x [] = ≤ℤ_same (t.height x)
end_low t x (y ∷ rest) = let later = end_low t y rest in omega (arith, ints, clamps)

-- ---- a way on from p over a lower point q

module _ {P : Type 0} (t u : Terrain P) (law : IsLawful t) (ground : (x : P) → u.is_ground x ≡ t.is_ground x) (adjacent : (x y : P) → u.is_adjacent x y ≡ t.is_adjacent x y) (height : (x : P) → u.height x ≡ t.height x)
    (p q : P) (others : (x : P) → (x ≡ p) ⊎ (u.is_outlet x ≡ t.is_outlet x)) (level : P → ℤ) (filled : (x : P) → IsTrue (t.is_ground x) → IsFilledLevel t x (level x))
    (beside : IsTrue (t.is_adjacent p q)) (below : level q <ℤ level p) where
  abbrev way : List P
  way = (filled q (law.to_ground p q beside)).reached.0

  out_way : LeadsOut t q way
  out_way = (filled q (law.to_ground p q beside)).reached.1.0

  top : crest t q way ≡ level q
  top = (filled q (law.to_ground p q beside)).reached.1.1

  -- the point's ground is higher than the way on
  high : crest t q way <ℤ t.height p
  high =
      let over : LeadsOut t p (q ∷ way) = record { path = (beside, out_way.path); outlet = out_way.outlet } in
      let least : level p ≤ℤ int_max (t.height p) (crest t q way) = (filled p (law.from_ground p q beside)).least (q ∷ way) over in
      let lower : crest t q way <ℤ level p = subst (λ v. v <ℤ level p) (sym top) below in
      omega (arith, ints, clamps)

  same_end : u.is_outlet (end_of t q way) ≡ t.is_outlet (end_of t q way)
  same_end = elim (others (end_of t q way)) [
    | inl at ↦
        let low : t.height (end_of t q way) ≤ℤ crest t q way = end_low t q way in
        let here : t.height (end_of t q way) ≡ t.height p = ap t.height at in
        let above : crest t q way <ℤ t.height p = high in
        absurd (omega (arith, ints))
    | inr same ↦ same
  ]

  -- a path to the point, and then on
  path_on : (x : P) (rest : List P) → IsPath t x rest → end_of t x rest ≡ p → IsPath t x (rest ++ q ∷ way)
  path_on x [] path at = (subst (λ y. IsTrue (t.is_adjacent y q)) (sym at) beside, out_way.path)
  path_on x (y ∷ rest) path at = (path.0, path_on y rest path.1 at)

  end_on : (x : P) (rest : List P) → end_of t x (rest ++ q ∷ way) ≡ end_of t q way
  end_on x [] = refl
  end_on x (y ∷ rest) = end_on y rest

  crest_on : (x : P) (rest : List P) → end_of t x rest ≡ p → crest t x (rest ++ q ∷ way) ≡ crest t x rest
  crest_on x [] at =
      let here : t.height x ≡ t.height p = ap t.height at in
      let above : crest t q way <ℤ t.height p = high in
      let less : crest t q way ≤ℤ t.height x = omega (arith, ints) in
      omega (arith, ints, clamps)
  crest_on x (y ∷ rest) at = ap (int_max (t.height x)) (crest_on y rest at)

  leads_on : (x : P) (rest : List P) → IsPath t x rest → end_of t x rest ≡ p → LeadsOut t x (rest ++ q ∷ way)
  leads_on x rest path at = record { path = path_on x rest path at; outlet = subst (λ e. IsTrue (t.is_outlet e)) (sym (end_on x rest)) out_way.outlet }

  pub level_on : (x : P) → IsTrue (t.is_ground x) → IsFilledLevel u x (level x)
  level_on x on =
      let is = filled x on in
      let first = is.reached.0 in
      record {
        reached = elim (others (end_of t x first)) [
          | inl at ↦ (
            first ++ q ∷ way,
            (
              leads_as t u ground adjacent height x (first ++ q ∷ way) (subst (λ e. u.is_outlet e ≡ t.is_outlet e) (sym (end_on x first)) same_end) (leads_on x first is.reached.1.0.path at),
              crest_as t u ground adjacent height x (first ++ q ∷ way) ∙ (crest_on x first at ∙ is.reached.1.1),
            ),
          )
          | inr same ↦ (first, (leads_as t u ground adjacent height x first same is.reached.1.0, crest_as t u ground adjacent height x first ∙ is.reached.1.1))
        ];
        least = λ rest out.
            let back : crest t x rest ≡ crest u x rest = sym (crest_as t u ground adjacent height x rest) in
            let path : IsPath t x rest = path_as u t (λ y. sym (ground y)) (λ y z. sym (adjacent y z)) (λ y. sym (height y)) x rest out.path in
            let ends : IsTrue (u.is_outlet (end_of t x rest)) = subst (λ e. IsTrue (u.is_outlet e)) (end_as t u ground adjacent height x rest) out.outlet in
            elim (others (end_of t x rest)) [
              | inl at ↦ subst (λ v. level x ≤ℤ v) (crest_on x rest at ∙ back) (is.least (rest ++ q ∷ way) (leads_on x rest path at))
              | inr same ↦ subst (λ v. level x ≤ℤ v) back (is.least rest (record { path = path; outlet = sym same ∙ ends }))
            ];
      }

-- ---- where points drain, by the same levels

pub record AreAlike (t u : Terrain Point) (level : Point → ℤ) : Type 0 where
  pub ground : (x : Point) → u.is_ground x ≡ t.is_ground x
  pub adjacent : (x y : Point) → u.is_adjacent x y ≡ t.is_adjacent x y
  pub outlet : (x : Point) → HasLower t level x ⊎ (u.is_outlet x ≡ t.is_outlet x)

lower_as : (t u : Terrain Point) (level : Point → ℤ) → AreAlike t u level → (x y : Point) → IsLower t level x y → IsLower u level x y
lower_as t u level is x y low = record { beside = is.adjacent x y ∙ low.beside; below = low.below }

has_as : (t u : Terrain Point) (level : Point → ℤ) → AreAlike t u level → (x : Point) → HasLower t level x → HasLower u level x
has_as t u level is x low = (low.0, lower_as t u level is x low.0 low.1)

turned : (t u : Terrain Point) (level : Point → ℤ) → AreAlike t u level → AreAlike u t level
turned t u level is = record {
  ground = λ x. sym (is.ground x);
  adjacent = λ x y. sym (is.adjacent x y);
  outlet = λ x. elim (is.outlet x) [
    | inl low ↦ inl (has_as t u level is x low)
    | inr same ↦ inr (sym same)
  ];
}

-- without a lower point beside it, it is an outlet of both or of none
outlet_as : (t u : Terrain Point) (level : Point → ℤ) → AreAlike t u level → (x : Point) → (HasLower t level x → ⊥) → u.is_outlet x ≡ t.is_outlet x
outlet_as t u level is x none = elim (is.outlet x) [
  | inl low ↦ absurd (none low)
  | inr same ↦ same
]

crosses_as : (t u : Terrain Point) (level : Point → ℤ) → AreAlike t u level → (j : ℕ) (x : Point) → CrossesFlat t level x j → CrossesFlat u level x j
crosses_as t u level is zero x (inl low) = inl (has_as t u level is x low)
crosses_as t u level is zero x (inr out) = elim (is.outlet x) [
  | inl low ↦ inl (has_as t u level is x low)
  | inr same ↦ inr (same ∙ out)
]
crosses_as t u level is (suc j) x crosses = (crosses.0, (is.adjacent x crosses.0 ∙ crosses.1.0, crosses.1.1, crosses_as t u level is j crosses.0 crosses.1.2))

distance_as : (t u : Terrain Point) (level : Point → ℤ) → AreAlike t u level → (x : Point) (j : ℕ) → IsFlatDistance t level x j → IsFlatDistance u level x j
distance_as t u level is x j dist = record {
  crosses = crosses_as t u level is j x dist.crosses;
  least = λ i crosses. dist.least i (crosses_as u t level (turned t u level is) i x crosses);
}

nearer_as : (t u : Terrain Point) (level : Point → ℤ) → AreAlike t u level → (x y : Point) → IsNearer t level x y → IsNearer u level x y
nearer_as t u level is x y near = record {
  beside = is.adjacent x y ∙ near.beside;
  same_level = near.same_level;
  nearer = (near.nearer.0, (distance_as t u level is y near.nearer.0 near.nearer.1.0, distance_as t u level is x (suc near.nearer.0) near.nearer.1.1));
}

module _ (t u : Terrain Point) (level : Point → ℤ) (is : AreAlike t u level) (x : Point) where
  steepest_as : (d : Dir) → IsSteepest t level x d → IsSteepest u level x d
  steepest_as d steep = record {
    lower = lower_as t u level is x (step d x) steep.lower;
    steepest = λ e low. steep.steepest e (lower_as u t level (turned t u level is) x (step e x) low);
    first = λ e low before. steep.first e (lower_as u t level (turned t u level is) x (step e x) low) before;
  }

  first_as : (d : Dir) → IsFirstNearer t level x d → IsFirstNearer u level x d
  first_as d near = record {
    nearer = nearer_as t u level is x (step d x) near.nearer;
    first = λ e other. near.first e (nearer_as u t level (turned t u level is) x (step e x) other);
  }

  none_as : (HasLower t level x → ⊥) → HasLower u level x → ⊥
  none_as none low = none (has_as u t level (turned t u level is) x low)

  some_as : (d : Dir) → IsDirection t level x (Some d) → IsDirection u level x (Some d)
  some_as d (inl steep) = inl (steepest_as d steep)
  some_as d (inr flat) = inr (none_as flat.0, (outlet_as t u level is x flat.0 ∙ flat.1.0, first_as d flat.1.1))

  inside_as : LiesInside t level x → LiesInside u level x
  inside_as lies = record { ground = is.ground x ∙ lies.ground; inside = λ end. lies.inside (crosses_as u t level (turned t u level is) 0 x end) }

  not_one : (CrossesFlat t level x 1 → ⊥) → CrossesFlat u level x 1 → ⊥
  not_one none one = none (crosses_as u t level (turned t u level is) 1 x one)

  pub flow_as : (f : Flow) → IsFlow t level x f → IsFlow u level x f
  flow_as Unknown so = tt
  flow_as NoGround so = is.ground x ∙ so
  flow_as Outlet so = (none_as so.0, outlet_as t u level is x so.0 ∙ so.1)
  flow_as (To d) so = steepest_as d so
  flow_as (Beside d) so = (inside_as so.0, (crosses_as t u level is 1 x so.1.0, some_as d so.1.1))
  flow_as Flat so = (inside_as so.0, not_one so.1)
  flow_as (FlatTo d) so = (inside_as so.0, (not_one so.1.0, some_as d so.1.1))

-- ---- over two mosaics that differ in one sink

starts_on_ground : {P : Type 0} (t : Terrain P) → IsLawful t → (x : P) (rest : List P) → IsPath t x rest → IsTrue (t.is_ground x)
starts_on_ground t law x [] path = path
starts_on_ground t law x (y ∷ rest) path = law.from_ground x y path.0

module _ (m : Mosaic) (valid : IsMosaic m) (sinks : List Point) (p : Point) (differ : (q : Point) → is_between p p q ≡ false → is_sink (with_sinks sinks m) q ≡ is_sink m q)
    (lower : (level : Point → ℤ) → AreFilledLevels (terrain m) level → HasLower (terrain m) level p) where
  abbrev new : Mosaic
  new = with_sinks sinks m

  abbrev level : Point → ℤ
  level = (level_function m valid).0

  filled : AreFilledLevels (terrain m) level
  filled = (level_function m valid).1

  others : (x : Point) → (x ≡ p) ⊎ (is_outlet new x ≡ is_outlet m x)
  others x = elim (cases_Bool (is_between p p x)) [
    | inl within ↦ inl (sym (between_itself p x within))
    | inr out ↦ inr (ap (λ b. is_ground m x && (nat_lt (degree_of m x) 8 || b)) (differ x out))
  ]

  filled_new : AreFilledLevels (terrain new) level
  filled_new =
      let low = lower level filled in
      level_on (terrain m) (terrain new) (terrain_is_lawful m) (λ x. refl) (λ x y. refl) (λ x. refl) p low.0 others level filled low.1.beside low.1.below

  -- levels of the one are those of the other
  module _ (level' : Point → ℤ) (filled' : AreFilledLevels (terrain new) level') where
    same_level : (x : Point) → IsTrue (is_ground m x) → level' x ≡ level x
    same_level x on = level_is_unique (terrain new) x (level' x) (level x) (filled' x on) (filled_new x on)

    levels_back : AreFilledLevels (terrain m) level'
    levels_back x on = subst (IsFilledLevel (terrain m) x) (sym (same_level x on)) (filled x on)

    alike : AreAlike (terrain m) (terrain new) level'
    alike = record {
      ground = λ x. refl;
      adjacent = λ x y. refl;
      outlet = λ x. elim (others x) [
        | inl at ↦ inl (subst (HasLower (terrain m) level') (sym at) (lower level' levels_back))
        | inr same ↦ inr same
      ];
    }

  pub levels_sunk : AreLevelsStill (λ v. Unit {0}) m new
  levels_sunk q v stays is =
      let on : IsTrue (is_ground m q) = starts_on_ground (terrain m) (terrain_is_lawful m) q is.reached.0 is.reached.1.0.path in
      subst (IsFilledLevel (terrain new) q) (level_is_unique (terrain m) q (level q) v (filled q on) is) (filled_new q on)

  pub cache_sunk : (cache : FlowCache) → IsCacheOf m cache → IsCacheOf new cache
  cache_sunk cache right = record {
    grid = record {
      same_side = right.grid.same_side;
      present = right.grid.present;
      told = λ level' filled' k. flow_as (terrain m) (terrain new) level' (alike level' filled') (place_of cache.grid.tiles k) (get_or cache.grid.flows.items k Unknown) (right.grid.told level' (levels_back level' filled') k);
    };
    slots = λ i small. record {
      within = λ level' filled'. (right.slots i small).within level' (levels_back level' filled');
      ends = λ level' filled'. (right.slots i small).ends level' (levels_back level' filled');
    };
  }

-- a flow that leads down shows a lower point
pub down_lower : (t : Terrain Point) (level : Point → ℤ) (p : Point) (f : Flow) → is_down f ≡ true → IsFlow t level p f → HasLower t level p
down_lower t level p (To d) down so = (step d p, so.lower)
down_lower t level p Unknown down so = absurd (false≢true down)
down_lower t level p NoGround down so = absurd (false≢true down)
down_lower t level p Outlet down so = absurd (false≢true down)
down_lower t level p Flat down so = absurd (false≢true down)
down_lower t level p (Beside d) down so = absurd (false≢true down)
down_lower t level p (FlatTo d) down so = absurd (false≢true down)

-- what is cached is right for another mosaic where each cache of the one is one of the other
pub cached_still : (m n : Mosaic) (flow_cache : Option FlowCache) → ((cache : FlowCache) → IsCacheOf m cache → IsCacheOf n cache) → flow_cache_right m flow_cache → flow_cache_right n flow_cache
cached_still m n None still right = tt
cached_still m n (Some cache) still right = still cache right
