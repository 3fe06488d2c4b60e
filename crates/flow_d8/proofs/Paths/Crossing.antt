-- The walk across a flat has as many steps as the point's flat distance.
use Rattle.flow_d8.proofs.Prelude.{AreFilledLevels, AreFlows, Beside, CrossesFlat, Dir, Flat, FlatTo, Flow, IsAtHand, IsFalse, IsFlatDistance, IsFlow, IsFlowPath, IsMosaic, IsTellingAll, IsTrue, List, Mosaic, NoGround, None, Option, Outlet, Point, Some, Terrain, To, Unknown, ℕ, ℤ, [], ap, arith, cases_Bool, cases_lt, get_or, get_or_default, get_or_past, inl, inr, is_ground, is_held, length, refl, step, subst, suc, sym, terrain, true≢false, void, zero, ⊎_elim, ◌+◌, ◌-◌, ◌<◌, ◌∙◌, ◌∷◌, ◌≡◌, ◌≤◌}
use Rattle.water.proofs.FlowPaths.{flow_path_exists}
use Rattle.water.proofs.MosaicGrid.{mosaic_is_grid}
use Rattle.flow_d8.proofs.Samples.Numbers.{number_past}
use Rattle.flow_d8.proofs.Paths.OnePath.{no_point_twice, ground_along, no_more_than_samples}
use Rattle.water.proofs.Unique.{one_distance}
use Rattle.flow_d8.specs.Directions.{Directions, AreWhole, AreDirectionsOf, number_in, flow_at, flow_in, one_more, after, across, walk}
use Rattle.flow_d8.specs.Tiles.{count_of, place_of, by_of}
use Rattle.flow_d8.proofs.Samples.AtHand.{at_hand_below, known_so}
use Rattle.flow_d8.proofs.Sayings.Draining.{telling_direction, telling_none}
use Rattle.flow_d8.proofs.Samples.TilePlaces.{place_number, by_is}

-- the resolved flow of a point that isn't ground is NoGround
off_is_none : (m : Mosaic) → IsMosaic m → (level : Point → ℤ) (p : Point) (f : Flow) → IsFlow (terrain m) level p f → IsTellingAll f → IsFalse (is_ground m p) → f ≡ NoGround
off_is_none m is level p NoGround so all off = refl
off_is_none m is level p Outlet so all off = absurd (true≢false (sym ((mosaic_is_grid m is).lawful.outlet_ground p so.1) ∙ off))
off_is_none m is level p (To d) so all off = absurd (true≢false (sym ((mosaic_is_grid m is).lawful.from_ground p (step d p) so.lower.beside) ∙ off))
off_is_none m is level p (Beside d) so all off = absurd (true≢false (sym so.0.ground ∙ off))
off_is_none m is level p (FlatTo d) so all off = absurd (true≢false (sym so.0.ground ∙ off))
off_is_none m is level p _ so all off = absurd all

module _ (d : Directions) where
  pub walk_is : (n k : ℕ) (f : Flow) → flow_at d k ≡ f → walk d (suc n) k ≡ across f (walk d n (after d k f))
  unfolding walk
  walk_is n k f at = ap (λ g. across g (walk d n (after d k g))) at

  pub walk_zero : (k : ℕ) → walk d 0 k ≡ None
  unfolding walk
  walk_zero k = refl

  pub walk_nowhere : (n k : ℕ) → flow_at d k ≡ NoGround → walk d n k ≡ None
  walk_nowhere zero k at = walk_zero k
  walk_nowhere (suc n) k at = walk_is n k NoGround at

-- each point's flow is resolved
pub told_in : (d : Directions) → AreWhole d → (p : Point) → IsTellingAll (flow_in d p)
told_in d whole p = elim (cases_lt (number_in d p) (length d.drains)) [
  | inl within ↦ subst IsTellingAll (get_or_default d.drains (number_in d p) Unknown NoGround within) (whole.told (number_in d p) within)
  | inr past ↦ subst IsTellingAll (sym (get_or_past d.drains (number_in d p) NoGround past)) tt
]

-- a flow path has more points than its first point's flat distance has steps
longer : (t : Terrain Point) (level : Point → ℤ) (x : Point) (k : ℕ) (path : List Point) → IsFlatDistance t level x k → IsFlowPath t level x path → k < length path
longer t level x k [] dist is = absurd is
longer t level x k (y ∷ []) dist is = let none = dist.least 0 (inr is.1.1) in omega (arith, none)
longer t level x k (y ∷ z ∷ rest) dist is = ⊎_elim
    (λ steep. let none = dist.least 0 (inl (step is.1.0 x, steep.lower)) in omega (arith, none))
    (λ flat.
    let near = flat.1.1.nearer.nearer in
    let same : k ≡ suc near.0 = one_distance t level x k (suc near.0) dist near.1.1 in
    let later = longer t level (step is.1.0 x) near.0 (z ∷ rest) near.1.0 is.1.1.1.1 in
    omega (arith, same, later))
    is.1.1.0

module _ (d : Directions) (whole : AreWhole d) (m : Mosaic) (is : IsMosaic m) (level : Point → ℤ) (filled : AreFilledLevels (terrain m) level)
    (so : AreFlows (terrain m) level (place_of d.tiles) d.drains) (hand : (p : Point) → IsTrue (is_ground m p) → IsAtHand d.tiles p) where
  small : (p : Point) → IsTrue (is_ground m p) → number_in d p < count_of d.tiles
  small p solid = at_hand_below d.tiles whole.valid p (hand p solid)

  says : (p : Point) → IsFlow (terrain m) level p (flow_in d p)
  says p = elim (cases_lt (number_in d p) (length d.drains)) [
    | inl within ↦
        subst (IsFlow (terrain m) level p) (get_or_default d.drains (number_in d p) Unknown NoGround within)
        (known_so d.tiles whole.valid d.drains p (subst (λ n. number_in d p < n) whole.whole within) (terrain m) level so)
    | inr past ↦ subst (IsFlow (terrain m) level p) (sym (get_or_past d.drains (number_in d p) NoGround past)) (elim (cases_Bool (is_ground m p)) [
      | inl solid ↦ let low = small p solid in absurd (omega (arith, low, past, whole.whole))
      | inr off ↦ off
    ])
  ]

  -- the walk from a point has the right length if the walk from the next point has
  one_on : (n : ℕ) (p : Point) (k : ℕ) → IsTrue (is_ground m p) → IsFlatDistance (terrain m) level p k → k < suc n
      → ((q : Point) (j : ℕ) → IsTrue (is_ground m q) → IsFlatDistance (terrain m) level q j → j < n → walk d n (number_in d q) ≡ Some j) → walk d (suc n) (number_in d p) ≡ Some k
  one_on n p k solid dist low further = by (flow_in d p) refl
    where
      by : (f : Flow) → flow_in d p ≡ f → walk d (suc n) (number_in d p) ≡ Some k
      by Unknown at = absurd (subst IsTellingAll at (told_in d whole p))
      by NoGround at = absurd (true≢false (sym solid ∙ subst (IsFlow (terrain m) level p) at (says p)))
      by Outlet at =
          let none : k ≤ 0 = dist.least 0 (inr (subst (IsFlow (terrain m) level p) at (says p)).1) in
          walk_is d n (number_in d p) Outlet at ∙ ap Some (omega (arith, none))
      by (To e) at =
          let none : k ≤ 0 = dist.least 0 (inl (step e p, (subst (IsFlow (terrain m) level p) at (says p)).lower)) in
          walk_is d n (number_in d p) (To e) at ∙ ap Some (omega (arith, none))
      by (Beside e) at =
          let told = subst (IsFlow (terrain m) level p) at (says p) in
          walk_is d n (number_in d p) (Beside e) at ∙ ap Some (one k dist.crosses told.0.inside (dist.least 1 told.1.0))
        where
          one : (j : ℕ) → CrossesFlat (terrain m) level p j → (CrossesFlat (terrain m) level p 0 → ⊥) → j ≤ 1 → 1 ≡ j
          one zero crosses inside le = absurd (inside crosses)
          one (suc j) crosses inside le = omega arith
      by Flat at = absurd (subst IsTellingAll at (told_in d whole p))
      by (FlatTo e) at =
          let told = subst (IsFlow (terrain m) level p) at (says p) in
          ⊎_elim
          (λ steep. absurd (told.0.inside (inl (step e p, steep.lower))))
          (λ flat.
          let near = flat.1.1.nearer in
          let j = near.nearer.0 in
          let same : k ≡ suc j = one_distance (terrain m) level p k (suc j) dist near.nearer.1.1 in
          let there : by_of d.tiles (number_in d p) e ≡ number_in d (step e p) = by_is d.tiles whole.valid (number_in d p) e ∙ ap (λ q. number_in d (step e q)) (place_number d.tiles whole.valid p (small p solid)) in
          let on = further (step e p) j ((mosaic_is_grid m is).lawful.to_ground p (step e p) near.beside) near.nearer.1.0 (omega (arith, same)) in
          walk_is d n (number_in d p) (FlatTo e) at ∙ ap (λ l. one_more (walk d n l)) there ∙ ap one_more on ∙ ap Some (sym same))
          told.1.1

  crossing : (n : ℕ) (p : Point) (k : ℕ) → IsTrue (is_ground m p) → IsFlatDistance (terrain m) level p k → k < n → walk d n (number_in d p) ≡ Some k
  crossing zero p k solid dist low = absurd (omega arith)
  crossing (suc n) p k solid dist low = one_on n p k solid dist low (λ q j on far few. crossing n q j on far few)

  held : (p : Point) → IsTrue (is_ground m p) → IsTrue (is_held d.tiles.side d.tiles.corners p)
  held p solid = elim (cases_Bool (is_held d.tiles.side d.tiles.corners p)) [
    | inl on ↦ on
    | inr off ↦ let low = small p solid in absurd (omega (arith, low, number_past d.tiles.side d.tiles.corners p off))
  ]

  near : (p : Point) (k : ℕ) → IsTrue (is_ground m p) → IsFlatDistance (terrain m) level p k → k < count_of d.tiles
  near p k solid dist =
      let grid = mosaic_is_grid m is in
      let path = flow_path_exists (terrain m) void grid level filled p solid in
      let few = no_more_than_samples d.tiles.side d.tiles.corners whole.valid.side_low path.0 (no_point_twice (terrain m) level p path.0 path.1)
      (λ i q low. held (get_or path.0 i q) (ground_along (terrain m) grid level p path.0 solid path.1 i q low)) in
      omega (arith, few, longer (terrain m) level p k path.0 dist path.1)

  pub are_directions : ((p : Point) → IsTrue (is_ground m p) → (k : ℕ) × IsFlatDistance (terrain m) level p k) → AreDirectionsOf m level d
  are_directions exists = record {
    direction = λ p solid. telling_direction (terrain m) level p (flow_in d p) (says p) (told_in d whole p) solid;
    distance = λ p solid. let k = exists p solid in (k.0, (crossing (count_of d.tiles) p k.0 solid k.1 (near p k.0 solid k.1), k.1));
    elsewhere = λ p off. (
      telling_none m is level p (flow_in d p) (says p) (told_in d whole p) off,
      walk_nowhere d (count_of d.tiles) (number_in d p) (off_is_none m is level p (flow_in d p) (says p) (told_in d whole p) off),
    );
  }

-- the number increased by `steps`
abbrev pub and_more : ℕ → Option ℕ → Option ℕ
and_more k None = None
and_more k (Some j) = Some (k + j)

pub one_after : (k : ℕ) (r : Option ℕ) → and_more k (one_more r) ≡ and_more (k + 1) r
one_after k None = refl
one_after k (Some j) = ap Some (omega arith)

module _ (d : Directions) (count steps at : ℕ) (low : steps < count) where
  walk_here : (f : Flow) → f ≡ flow_at d at → walk d (count - steps) at ≡ across f (walk d (count - (steps + 1)) (after d at f))
  walk_here f is = ap (λ n. walk d n at) (one (count - steps) (count - (steps + 1)) (omega arith)) ∙ walk_is d (count - (steps + 1)) at f (sym is)
    where
      one : (a b : ℕ) → a ≡ b + 1 → a ≡ suc b
      one a b e = omega arith

  -- the walk from the start is the walk from here, increased by the steps taken
  pub ends_here : (whole : Option ℕ) (f : Flow) (j r : ℕ) → whole ≡ and_more steps (walk d (count - steps) at) → f ≡ flow_at d at → across f (walk d (count - (steps + 1)) (after d at f)) ≡ Some j → r ≡ steps + j → Some r ≡ whole
  ends_here whole f j r so is found sum = sym (so ∙ ap (and_more steps) (walk_here f is ∙ found) ∙ ap Some (sym sum))

  pub ends_nowhere : (whole : Option ℕ) (f : Flow) → whole ≡ and_more steps (walk d (count - steps) at) → f ≡ flow_at d at → across f (walk d (count - (steps + 1)) (after d at f)) ≡ None → None ≡ whole
  ends_nowhere whole f so is found = sym (so ∙ ap (and_more steps) (walk_here f is ∙ found))

  pub walks_on : (whole : Option ℕ) (e : Dir) (to : ℕ) → whole ≡ and_more steps (walk d (count - steps) at) → FlatTo e ≡ flow_at d at → to ≡ by_of d.tiles at e → whole ≡ and_more (steps + 1) (walk d (count - (steps + 1)) to)
  walks_on whole e to so is there =
      so ∙ ap (and_more steps) (walk_here (FlatTo e) is) ∙ one_after steps (walk d (count - (steps + 1)) (by_of d.tiles at e)) ∙ ap (λ l. and_more (steps + 1) (walk d (count - (steps + 1)) l)) (sym there)

pub walked_all : (d : Directions) (count steps at : ℕ) (whole : Option ℕ) → count ≤ steps → whole ≡ and_more steps (walk d (count - steps) at) → None ≡ whole
walked_all d count steps at whole past so = sym (so ∙ ap (λ n. and_more steps (walk d n at)) (omega arith) ∙ ap (and_more steps) (walk_zero d at))
