-- Each ground point has exactly one flow path: with each step the level falls, or it stays and the flat distance falls.
use Rattle.water.specs.Drainage.{AreFilledLevels, IsDirection, IsFlatDistance}
use Rattle.std.proofs.Common.{Contains, IsTrue, List, None, Option, Some, ℕ, ℤ, [], ap, arith, get_or, length, nat_abs, pos, refl, subst, suc, sym, zero, ⊎_elim, ◌-ℤ◌, ◌<ℤ◌, ◌<◌, ◌∙◌, ◌∷◌, ◌≡◌, ◌≤ℤ◌}
use Rattle.lattice.specs.declared.direction.Dir.{Dir}
use Rattle.water.specs.Grid.{IsGrid}
use Rattle.lattice.specs.declared.point.Point.{Point}
use Rattle.lattice.specs.Terrain.{Terrain}
use Rattle.lattice.proofs.Levels.{height-le_level, ≤ℤ_trans}
use Rattle.std.proofs.lemmas.Int.{ints}
use Rattle.lattice.specs.Steps.{step}
use Rattle.water.specs.FlowPath.{IsFlowPath, FlowsTo}
use Rattle.water.proofs.Unique.{one_distance, one_direction}
use Rattle.water.proofs.Exists.{distance_exists, direction_exists}

module _ (t : Terrain Point) (level : Point → ℤ) where
  -- a point followed by the flow path of the point to which it drains
  pub from_next : (x : Point) (d : Dir) (path : List Point) → IsDirection t level x (Some d) → IsFlowPath t level (step d x) path → IsFlowPath t level x (x ∷ path)
  from_next x d [] drains next = absurd next
  from_next x d (z ∷ []) drains next = (refl, (d, (drains, (next.0, next))))
  from_next x d (z ∷ w ∷ rest) drains next = (refl, (d, (drains, (next.0, next))))

  -- the flow path of a point that drains in direction d
  same_dir : (d e : Dir) → Some d ≡ Some e → d ≡ e
  same_dir d e h = cc

  no_dir : (d : Dir) → Some d ≡ None → ⊥
  no_dir d h = cc

  pub one_flow_path : (x : Point) (p q : List Point) → IsFlowPath t level x p → IsFlowPath t level x q → p ≡ q
  one_flow_path x [] q hp hq = absurd hp
  one_flow_path x (y ∷ p) [] hp hq = absurd hq
  one_flow_path x (y ∷ []) (z ∷ []) hp hq = ap (λ v. v ∷ []) (hp.0 ∙ sym hq.0)
  one_flow_path x (y ∷ []) (z ∷ w ∷ q) hp hq = absurd (no_dir hq.1.0 (one_direction t level x (Some hq.1.0) None hq.1.1.0 hp.1))
  one_flow_path x (y ∷ w ∷ p) (z ∷ []) hp hq = absurd (no_dir hp.1.0 (one_direction t level x (Some hp.1.0) None hp.1.1.0 hq.1))
  one_flow_path x (y ∷ v ∷ p) (z ∷ w ∷ q) hp hq =
      let same : hp.1.0 ≡ hq.1.0 = same_dir hp.1.0 hq.1.0 (one_direction t level x (Some hp.1.0) (Some hq.1.0) hp.1.1.0 hq.1.1.0) in
      let rest : (v ∷ p) ≡ (w ∷ q) = one_flow_path (step hp.1.0 x) (v ∷ p) (w ∷ q) hp.1.1.1.1 (subst (λ d. IsFlowPath t level (step d x) (w ∷ q)) (sym same) hq.1.1.1.1) in
      ap (λ u. u ∷ v ∷ p) (hp.0 ∙ sym hq.0) ∙ ap (λ r. z ∷ r) rest

  -- a point on a flow path is reached from the path's first point
  pub on_path : (p x : Point) (path : List Point) → IsFlowPath t level x path → (k : ℕ) → k < length path → get_or path k p ≡ p → (j : ℕ) × FlowsTo t level x j p
  on_path p x [] is k small at = absurd is
  on_path p x (y ∷ []) is zero small at = (0, sym is.0 ∙ at)
  on_path p x (y ∷ []) is (suc k) small at = absurd (omega arith)
  on_path p x (y ∷ z ∷ rest) is zero small at = (0, sym is.0 ∙ at)
  on_path p x (y ∷ z ∷ rest) is (suc k) small at =
      let further = on_path p (step is.1.0 x) (z ∷ rest) is.1.1.1.1 k (omega arith) at in
      (suc further.0, (is.1.0, (is.1.1.0, further.1)))

  pub from_path : (p x : Point) (path : List Point) → IsFlowPath t level x path → (k : ℕ) → FlowsTo t level x k p → Contains path p
  from_path p x [] is k flows = absurd is
  from_path p x (y ∷ []) is zero flows = (0, omega arith, is.0 ∙ flows)
  from_path p x (y ∷ []) is (suc k) flows = absurd (no_dir flows.0 (one_direction t level x (Some flows.0) None flows.1.0 is.1))
  from_path p x (y ∷ z ∷ rest) is zero flows = (0, omega arith, is.0 ∙ flows)
  from_path p x (y ∷ z ∷ rest) is (suc k) flows =
      let d = is.1.0 in
      let same : flows.0 ≡ d = same_dir flows.0 d (one_direction t level x (Some flows.0) (Some d) flows.1.0 is.1.1.0) in
      let later = from_path p (step d x) (z ∷ rest) is.1.1.1.1 k (subst (λ e. FlowsTo t level (step e x) k p) same flows.1.1) in
      (suc later.0, omega (arith, later.1), later.2)

module _ (t : Terrain Point) (bottom : ℤ) (grid : IsGrid t bottom) (level : Point → ℤ) (filled : AreFilledLevels t level) where
  abbrev Flows : Point → Type 0
  Flows x = (path : List Point) × IsFlowPath t level x path

  low_enough : (x : Point) → IsTrue (t.is_ground x) → bottom ≤ℤ level x
  low_enough x solid = ≤ℤ_trans bottom (t.height x) (level x) (grid.bottom_below x solid) (height-le_level t x (level x) (filled x solid))

  -- points of one level, by flat distance, when all points of lower levels have flow paths
  module _ (n : ℕ) (lower : (y : Point) → IsTrue (t.is_ground y) → (level y -ℤ bottom) <ℤ pos n → Flows y) where
    over : (x : Point) (d : Option Dir) → IsDirection t level x d → ((e : Dir) → IsDirection t level x (Some e) → Flows (step e x)) → Flows x
    over x None drains next = (x ∷ [], (refl, drains))
    over x (Some e) drains next = let path = next e drains in (x ∷ path.0, from_next t level x e path.0 drains path.1)

    on_level : (k : ℕ) (x : Point) → IsTrue (t.is_ground x) → (level x -ℤ bottom) <ℤ pos (suc n) → IsFlatDistance t level x k → Flows x
    on_level zero x solid low dist = let way = direction_exists t bottom grid level filled x solid in
        over x way.0 way.1 (λ e drains. ⊎_elim
        (λ steep. lower (step e x) (grid.lawful.to_ground x (step e x) steep.lower.beside) (let falls = steep.lower.below in omega (arith, ints)))
        (λ flat. let near = flat.1.1.nearer.nearer in absurd (omega (arith, one_distance t level x 0 (suc near.0) dist near.1.1)))
        drains)
    on_level (suc k) x solid low dist = let way = direction_exists t bottom grid level filled x solid in
        over x way.0 way.1 (λ e drains. ⊎_elim
        (λ steep. lower (step e x) (grid.lawful.to_ground x (step e x) steep.lower.beside) (let falls = steep.lower.below in omega (arith, ints)))
        (λ flat.
        let near = flat.1.1.nearer in
        let j_is_k : near.nearer.0 ≡ k = omega (arith, one_distance t level x (suc near.nearer.0) (suc k) near.nearer.1.1 dist) in
        on_level k (step e x) (grid.lawful.to_ground x (step e x) near.beside) (subst (λ v. (v -ℤ bottom) <ℤ pos (suc n)) (sym near.same_level) low)
        (subst (λ j. IsFlatDistance t level (step e x) j) j_is_k near.nearer.1.0))
        drains)

  down : (n : ℕ) (x : Point) → IsTrue (t.is_ground x) → (level x -ℤ bottom) <ℤ pos n → Flows x
  down zero x solid low = let above = low_enough x solid in absurd (omega (arith, ints))
  down (suc n) x solid low =
      let dist = distance_exists t bottom grid level filled x solid in
      on_level n (λ y on lt. down n y on lt) dist.0 x solid low dist.1

  pub flow_path_exists : (x : Point) → IsTrue (t.is_ground x) → Flows x
  flow_path_exists x solid = let above = low_enough x solid in down (suc (nat_abs (level x -ℤ bottom))) x solid (omega (arith, ints))
