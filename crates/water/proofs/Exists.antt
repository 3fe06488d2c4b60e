-- Each ground point has a flat distance and a direction.
use Rattle.std.proofs.Common.{rules}
use Rattle.water.specs.Drainage.{AreFilledLevels, CrossesFlat, HasLower, IsDirection, IsFirstNearer, IsFlatDistance, IsNearer, IsSteepest}
use Rattle.std.proofs.Common.{IsFalse, IsTrue, List, None, Option, Some, ℕ, ℤ, [], arith, inl, inr, int_lt, refl, subst, suc, sym, true≢false, zero, ⊎_elim, ◌+◌, ◌<◌, ◌∙◌, ◌∷◌, ◌≡◌, ◌≤ℤ◌, ◌≤◌, ◌⊎◌}
use Rattle.water.specs.Grid.{IsGrid, IsStepped}
use Rattle.water.specs.SteepestStep.{IsSteepestOf, LeadsDown, slope_in}
use Rattle.std.proofs.lemmas.Bool.{cases_Bool, cases_eq, cases_lt, cases_order}
use Rattle.lattice.proofs.IntTests.{eq_or_not, lt_false, lt_true}
use Rattle.lattice.specs.declared.point.Point.{Point}
use Rattle.lattice.specs.declared.direction.Dir.{Dir}
use Rattle.lattice.specs.declared.direction.Dir.TheVariants.{East}
use Rattle.lattice.specs.Steps.{step, order_of}
use Rattle.lattice.specs.Terrain.{Terrain, LeadsOut, crest}
use Rattle.lattice.proofs.Levels.{le-max_right, ≤ℤ_trans, ≤ℤ_same, ≤ℤ_antisym}
use Rattle.water.proofs.Compass.{dir_at, order_of-dir_at, first_dir}
use Rattle.water.proofs.SteepestStep.{begun, taken, left, steepest_of_all, none_of_all}
use Rattle.water.proofs.Unique.{one_distance}
use Rattle.water.proofs.Ends.{decide_lower, end_or_inside}

module _ (t : Terrain Point) (bottom : ℤ) (grid : IsGrid t bottom) (level : Point → ℤ) (filled : AreFilledLevels t level) where
  stepped : IsStepped t
  stepped = record { lawful = grid.lawful; steps = grid.steps }

  module _ (x : Point) where
    by_slope : (d : Dir) (best : ℕ) (way : Dir) → IsSteepestOf t level x (order_of d) best way → (slope : ℕ) → (LeadsDown t level x d → slope ≡ slope_in t level x d) → (0 < slope → LeadsDown t level x d)
        → (next : ℕ) × ((way : Dir) × IsSteepestOf t level x (order_of d + 1) next way)
    by_slope d best way is slope slope_down down_slope = elim (cases_lt best slope) [
      | inl less ↦ (slope, (d, taken t level x d slope slope_down down_slope best way is less))
      | inr more ↦ (best, (way, left t level x d slope slope_down down_slope best way is more))
    ]

    -- the steepest step among the first k directions
    best_of : (k : ℕ) → k ≤ 8 → (best : ℕ) × ((way : Dir) × IsSteepestOf t level x k best way)
    best_of zero within = (0, (East, begun t level x East))
    best_of (suc k) within =
        let d = dir_at k in
        let rank : order_of d ≡ k = order_of-dir_at k (omega arith) in
        let so_far = best_of k (omega arith) in
        let is : IsSteepestOf t level x (order_of d) so_far.0 so_far.1.0 = subst (λ j. IsSteepestOf t level x j so_far.0 so_far.1.0) (sym rank) so_far.1.1 in
        let next : (best : ℕ) × ((way : Dir) × IsSteepestOf t level x (order_of d + 1) best way) = ⊎_elim
        (λ low. by_slope d so_far.0 so_far.1.0 is (slope_in t level x d) (λ _. refl) (λ _. low))
        (λ none. by_slope d so_far.0 so_far.1.0 is 0 (λ low. absurd (none low)) (λ some. absurd (omega arith)))
        (decide_lower t level stepped x (step d x)) in
        (next.0, (next.1.0, subst (λ j. IsSteepestOf t level x j next.0 next.1.0) (omega arith) next.1.1))

    -- the steepest step down, or no neighbour is lower
    pub steepest_or_none : ((d : Dir) × IsSteepest t level x d) ⊎ (HasLower t level x → ⊥)
    steepest_or_none =
        let best = best_of 8 (omega arith) in
        elim (cases_eq best.0 0) [
          | inl none ↦ inr (none_of_all t level x best.0 best.1.0 best.1.1 (grid.steps x) none)
          | inr some ↦ inl (best.1.0, steepest_of_all t level x best.0 best.1.0 best.1.1 (omega arith))
        ]

  -- y is a neighbour of x with x's level, from which k steps cross the flat
  record Beyond (x : Point) (k : ℕ) (y : Point) : Type 0 where
    beside : IsTrue (t.is_adjacent x y)
    same_level : level y ≡ level x
    crosses : CrossesFlat t level y k

  decide_beyond : (x : Point) (k : ℕ) (y : Point) → (CrossesFlat t level y k ⊎ (CrossesFlat t level y k → ⊥)) → Beyond x k y ⊎ (Beyond x k y → ⊥)
  decide_beyond x k y known = search rules

  decide_crosses : (k : ℕ) (x : Point) → CrossesFlat t level x k ⊎ (CrossesFlat t level x k → ⊥)
  decide_crosses zero x = end_or_inside t level stepped x
  decide_crosses (suc k) x = ⊎_elim
      (λ found. inl (step found.0 x, (found.1.has.beside, found.1.has.same_level, found.1.has.crosses)))
      (λ none. inr (λ h. let at = grid.steps x h.0 h.1.0 in none at.0 (subst (λ y. Beyond x k y) at.1 (record { beside = h.1.0; same_level = h.1.1; crosses = h.1.2 }))))
      (first_dir (λ d. Beyond x k (step d x)) (λ d. decide_beyond x k (step d x) (decide_crosses k (step d x))))

  -- along a path to an outlet whose crest is at most the level, the level stays or falls
  crosses_along : (x : Point) (rest : List Point) → LeadsOut t x rest → crest t x rest ≤ℤ level x → (k : ℕ) × CrossesFlat t level x k
  crosses_along x [] out below = (0, inr out.outlet)
  crosses_along x (y ∷ rest) out below =
      let on : LeadsOut t y rest = record { path = out.path.1; outlet = out.outlet } in
      let least : level y ≤ℤ crest t y rest = (filled y (grid.lawful.to_ground x y out.path.0)).least rest on in
      let bound : crest t y rest ≤ℤ level x = ≤ℤ_trans (crest t y rest) (crest t x (y ∷ rest)) (level x) (le-max_right (t.height x) (crest t y rest)) below in
      elim (cases_Bool (int_lt (level y) (level x))) [
        | inl falls ↦ (0, inl (y, record { beside = out.path.0; below = lt_true (level y) (level x) falls }))
        | inr stays ↦
            let same : level y ≡ level x = ≤ℤ_antisym (level y) (level x) (≤ℤ_trans (level y) (crest t y rest) (level x) least bound) (lt_false (level y) (level x) stays) in
            let further = crosses_along y rest on (subst (λ v. crest t y rest ≤ℤ v) (sym same) bound) in
            (suc further.0, (y, (out.path.0, same, further.1)))
      ]

  -- the least number with a decidable property
  least_from : (Q : ℕ → Type 0) → ((k : ℕ) → Q k ⊎ (Q k → ⊥)) → (fuel k : ℕ) → Q (k + fuel) → ((j : ℕ) → j < k → Q j → ⊥) → (n : ℕ) × (Q n × ((j : ℕ) → Q j → n ≤ j))
  least_from Q decide zero k holds none = (k + zero, (holds, λ j q. at_least j q))
    where
      at_least : (j : ℕ) → Q j → k + zero ≤ j
      at_least j q = elim (cases_order j (k + zero)) [
        | inl same ↦ omega arith
        | inr other ↦ ⊎_elim (λ lt. absurd (none j (omega arith) q)) (λ gt. omega arith) other
      ]
  least_from Q decide (suc fuel) k holds none = ⊎_elim
      (λ here. (k, (here, λ j q. at_least j q)))
      (λ not_here. least_from Q decide fuel (suc k) (subst Q (omega arith) holds) (λ j lt q. before not_here j lt q))
      (decide k)
    where
      at_least : (j : ℕ) → Q j → k ≤ j
      at_least j q = elim (cases_order j k) [
        | inl same ↦ omega arith
        | inr other ↦ ⊎_elim (λ lt. absurd (none j lt q)) (λ gt. omega arith) other
      ]

      before : (Q k → ⊥) → (j : ℕ) → j < suc k → Q j → ⊥
      before not_here j lt q = elim (cases_eq j k) [ inl same ↦ not_here (subst Q same q) | inr other ↦ none j (omega arith) q ]

  pub distance_exists : (x : Point) → IsTrue (t.is_ground x) → (k : ℕ) × IsFlatDistance t level x k
  distance_exists x solid =
      let way = (filled x solid).reached in
      let some = crosses_along x way.0 way.1.0 (subst (λ v. crest t x way.0 ≤ℤ v) way.1.1 (≤ℤ_same (crest t x way.0))) in
      let least = least_from (λ k. CrossesFlat t level x k) (λ k. decide_crosses k x) some.0 0 (subst (λ k. CrossesFlat t level x k) (omega arith) some.1) (λ j lt q. absurd (omega arith)) in
      (least.0, record { crosses = least.1.0; least = least.1.1 })

  -- a point inside a flat has a nearer neighbour, and a first step to one
  nearer_exists : (x : Point) (k : ℕ) → IsFlatDistance t level x (suc k) → (d : Dir) × IsFirstNearer t level x d
  nearer_exists x k dist = ⊎_elim
      (λ found. (
        found.0,
        record {
          nearer = as_nearer (step found.0 x) found.1.has;
          first = λ e near. found.1.first e (omega arith) (as_beyond (step e x) near);
        },
      ))
      (λ none. let at = grid.steps x dist.crosses.0 dist.crosses.1.0 in
      absurd (none at.0 (subst (λ y. Beyond x k y) at.1 (record { beside = dist.crosses.1.0; same_level = dist.crosses.1.1; crosses = dist.crosses.1.2 }))))
      (first_dir (λ d. Beyond x k (step d x)) (λ d. decide_beyond x k (step d x) (decide_crosses k (step d x))))
    where
      as_nearer : (y : Point) → Beyond x k y → IsNearer t level x y
      as_nearer y h = record {
        beside = h.beside;
        same_level = h.same_level;
        nearer = (k, (record { crosses = h.crosses; least = λ j c. omega (arith, dist.least (suc j) (y, (h.beside, h.same_level, c))) }, dist));
      }

      as_beyond : (y : Point) → IsNearer t level x y → Beyond x k y
      as_beyond y near =
          let same : suc near.nearer.0 ≡ suc k = one_distance t level x (suc near.nearer.0) (suc k) near.nearer.1.1 dist in
          let j_is_k : near.nearer.0 ≡ k = omega arith in
          record {
            beside = near.beside;
            same_level = near.same_level;
            crosses = subst (λ j. CrossesFlat t level y j) j_is_k near.nearer.1.0.crosses;
          }

  on_flat : (x : Point) (k : ℕ) → IsFlatDistance t level x k → (HasLower t level x → ⊥) → IsFalse (t.is_outlet x) → (d : Option Dir) × IsDirection t level x d
  on_flat x zero dist none off = ⊎_elim (λ low. absurd (none low)) (λ out. absurd (true≢false (sym out ∙ off))) dist.crosses
  on_flat x (suc k) dist none off = let first = nearer_exists x k dist in (Some first.0, inr (none, (off, first.1)))

  pub direction_exists : (x : Point) → IsTrue (t.is_ground x) → (d : Option Dir) × IsDirection t level x d
  direction_exists x solid = ⊎_elim
      (λ best. (Some best.0, inl best.1))
      (λ none. elim (cases_Bool (t.is_outlet x)) [
        | inl out ↦ (None, (none, out))
        | inr off ↦ let dist = distance_exists x solid in on_flat x dist.0 dist.1 none off
      ])
      (steepest_or_none x)
