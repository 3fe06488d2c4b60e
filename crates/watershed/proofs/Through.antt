-- The watershed of a point consists of the point and the watersheds of its donors, which are disjoint.
use Rattle.std.proofs.Common.{rules}
use Rattle.std.proofs.Common.{◌≡◌, ◌⊎◌, ◌+◌, ◌-◌, ◌<◌, ◌≤◌, ℕ, zero, suc, ℤ, ◌+ℤ◌, IsTrue, Some, None, List, [], ◌∷◌, length, inl, inr, ⊎_elim, refl, sym, ap, ◌∙◌, subst, arith, zero-add, suc-add}
use Rattle.watershed.proofs.Prelude.{Dir, DrainsBack, FlowsTo, IsCountOf, IsDirection, IsFlowPath, IsInWatershed, IsLawful, IsThrough, Point, Terrain, back_of, back_twice, cases_eq, cases_lt, drains_to_ground, ints, none-some, one_direction, order_below, same_order, step_back}
use Rattle.lattice.specs.Steps.{step, order_of}
use Rattle.water.proofs.Counted.{count_alike, count_one, count_both}

gap : (v a b : ℤ) → (v +ℤ a) ≡ (v +ℤ b) → a ≡ b
gap v a b same = omega (arith, ints)

same_step : (d e : Dir) (x : Point) → step d x ≡ step e x → d ≡ e
same_step d e x same = search rules

module _ (t : Terrain Point) (level : Point → ℤ) where
  same_dir : (x : Point) (d e : Dir) → IsDirection t level x (Some d) → IsDirection t level x (Some e) → d ≡ e
  same_dir x d e here there = let same = one_direction t level x (Some d) (Some e) here there in cc

  -- a path from x to p continued by a path from p is a path from x
  pub flows_on : (x : Point) (i : ℕ) (p : Point) (j : ℕ) (q : Point) → FlowsTo t level x i p → FlowsTo t level p j q → FlowsTo t level x (i + j) q
  flows_on x zero p j q first then = subst (λ n. FlowsTo t level x n q) (sym (zero-add j)) (subst (λ y. FlowsTo t level y j q) (sym first) then)
  flows_on x (suc i) p j q first then = subst (λ n. FlowsTo t level x n q) (sym (suc-add i j)) (first.0, (first.1.0, flows_on (step first.0 x) i p j q first.1.1 then))

  -- of two points on a path the later one lies on the earlier one's path
  pub flows_past : (x : Point) (i : ℕ) (p : Point) (j : ℕ) (q : Point) → FlowsTo t level x i p → FlowsTo t level x (i + j) q → FlowsTo t level p j q
  flows_past x zero p j q first whole = subst (λ y. FlowsTo t level y j q) first (subst (λ n. FlowsTo t level x n q) (zero-add j) whole)
  flows_past x (suc i) p j q first whole =
      let on = subst (λ n. FlowsTo t level x n q) (suc-add i j) whole in
      let same = same_dir x on.0 first.0 on.1.0 first.1.0 in
      flows_past (step first.0 x) i p j q first.1.1 (subst (λ d. FlowsTo t level (step d x) (i + j) q) same on.1.1)

  -- a flow path has more points than each part of it has steps
  on_path : (x : Point) (path : List Point) (k : ℕ) (p : Point) → IsFlowPath t level x path → FlowsTo t level x k p → k < length path
  on_path x [] k p is flows = absurd is
  on_path x (y ∷ rest) zero p is flows = omega arith
  on_path x (y ∷ []) (suc k) p is flows = absurd (none-some flows.0 (one_direction t level x None (Some flows.0) is.1 flows.1.0))
  on_path x (y ∷ z ∷ rest) (suc k) p is flows =
      let d = is.1.0 in
      let same = same_dir x flows.0 d flows.1.0 is.1.1.0 in
      let later = on_path (step d x) (z ∷ rest) k p is.1.1.1.1 (subst (λ e. FlowsTo t level (step e x) k p) same flows.1.1) in
      omega (arith, later)

  round : (x : Point) (k : ℕ) → FlowsTo t level x (suc k) x → (n : ℕ) → (far : ℕ) × ((n ≤ far) × FlowsTo t level x far x)
  round x k flows zero = (0, (omega arith, refl))
  round x k flows (suc n) = let so = round x k flows n in (suc k + so.0, (omega (arith, so.1.0), flows_on x (suc k) x so.0 x flows so.1.1))

  -- no flow path returns to its start
  pub no_return : (x : Point) (path : List Point) (k : ℕ) → IsFlowPath t level x path → FlowsTo t level x (suc k) x → ⊥
  no_return x path k is flows = let far = round x k flows (length path) in let small = on_path x path far.0 x is far.1.1 in absurd (omega (arith, far.1.0, small))

  module _ (lawful : IsLawful t) (p : Point) (path : List Point) (ends : IsFlowPath t level p path) where
    -- one step leads from a donor to the point
    donor_flows : (d : Dir) → DrainsBack t level p d → FlowsTo t level (step d p) 1 p
    donor_flows d drains = (back_of d, (drains.1, step_back d p))

    -- the point doesn't drain through its donor
    not_above : (d : Dir) → DrainsBack t level p d → (k : ℕ) → FlowsTo t level p k (step d p) → ⊥
    not_above d drains k flows =
        let one : k + 1 ≡ suc k = omega arith in
        no_return p path k ends (subst (λ n. FlowsTo t level p n p) one (flows_on p k (step d p) 1 p flows (donor_flows d drains)))

    -- no path passes through two donors
    one_donor_by : (d e : Dir) → DrainsBack t level p d → DrainsBack t level p e → (x : Point) (i r : ℕ) → FlowsTo t level x i (step d p) → FlowsTo t level x (i + r) (step e p) → d ≡ e
    one_donor_by d e first other x i zero there further = same_step d e p (flows_past x i (step d p) 0 (step e p) there further)
    one_donor_by d e first other x i (suc r) there further =
        let past = flows_past x i (step d p) (suc r) (step e p) there further in
        let back = same_dir (step d p) past.0 (back_of d) past.1.0 first.1 in
        let from_p = subst (λ y. FlowsTo t level y r (step e p)) (step_back d p) (subst (λ b. FlowsTo t level (step b (step d p)) r (step e p)) back past.1.1) in
        absurd (not_above e other r from_p)

    one_donor : (d e : Dir) → DrainsBack t level p d → DrainsBack t level p e → (x : Point) (i j : ℕ) → FlowsTo t level x i (step d p) → FlowsTo t level x j (step e p) → d ≡ e
    one_donor d e first other x i j there here = elim (cases_lt j i) [
      | inl less ↦ let far : i ≡ j + (i - j) = omega arith in sym (one_donor_by e d other first x j (i - j) here (subst (λ n. FlowsTo t level x n (step d p)) far there))
      | inr more ↦ let far : j ≡ i + (j - i) = omega arith in one_donor_by d e first other x i (j - i) there (subst (λ n. FlowsTo t level x n (step e p)) far here)
    ]

    -- a path to the point passes through a donor, unless it starts at the point
    last_step : (x : Point) (k : ℕ) → IsTrue (t.is_ground x) → FlowsTo t level x (suc k) p → (d : Dir) × (DrainsBack t level p d × FlowsTo t level x k (step d p))
    last_step x zero solid flows =
        let e = flows.0 in
        let at : step (back_of e) p ≡ x = ap (step (back_of e)) (sym flows.1.1) ∙ step_back e x in
        (back_of e, ((subst (λ y. IsTrue (t.is_ground y)) (sym at) solid, subst (λ y. IsDirection t level y (Some (back_of (back_of e)))) (sym at) (subst (λ f. IsDirection t level x (Some f)) (sym (back_twice e)) flows.1.0)), sym at))
    last_step x (suc k) solid flows = let later = last_step (step flows.0 x) k (drains_to_ground t lawful level x flows.0 flows.1.0) flows.1.1 in (later.0, (later.1.0, (flows.0, (flows.1.0, later.1.1))))

    wider : (x : Point) (j k : ℕ) → j ≤ k → IsThrough t level p j x → IsThrough t level p k x
    wider x j k more (inl is) = inl is
    wider x j k more (inr some) = inr (some.0, (omega (arith, some.1.0), some.1.1))

    -- a point that drains through one of the first donors drains through the last of these, or through an earlier one
    parted : (d : Dir) (x : Point) → IsThrough t level p (order_of d + 1) x → IsThrough t level p (order_of d) x ⊎ (DrainsBack t level p d × IsInWatershed t level (step d p) x)
    parted d x (inl is) = inl (inl is)
    parted d x (inr some) = elim (cases_eq (order_of some.0) (order_of d)) [
      | inl this ↦ inr (subst (λ e. DrainsBack t level p e × IsInWatershed t level (step e p) x) (same_order some.0 d this) some.1.1)
      | inr other ↦ inl (inr (some.0, (omega (arith, some.1.0), some.1.1)))
    ]

    apart : (d : Dir) → DrainsBack t level p d → (x : Point) → IsThrough t level p (order_of d) x → IsInWatershed t level (step d p) x → ⊥
    apart d drains x (inl is) here = not_above d drains here.flows.0 (subst (λ y. FlowsTo t level y here.flows.0 (step d p)) is here.flows.1)
    apart d drains x (inr some) here =
        let same = one_donor some.0 d some.1.1.0 drains x some.1.1.1.flows.0 here.flows.0 some.1.1.1.flows.1 here.flows.1 in
        absurd (omega (arith, some.1.0, ap order_of same))

    -- the count before any direction: the point alone
    pub count_begins : IsCountOf (IsThrough t level p 0) 1
    count_begins = count_one (IsThrough t level p 0) p (λ x. ((λ through. ⊎_elim (λ is. is) (λ some. absurd (omega (arith, some.1.0))) through), (λ is. inl is)))

    -- the count grows by the count of the donor in the next direction
    pub count_grows : (d : Dir) (k n : ℕ) → IsCountOf (IsThrough t level p (order_of d)) k → DrainsBack t level p d → IsCountOf (IsInWatershed t level (step d p)) n → IsCountOf (IsThrough t level p (order_of d + 1)) (k + n)
    count_grows d k n so_far drains more =
        count_both (IsThrough t level p (order_of d)) (IsInWatershed t level (step d p)) k n so_far more (apart d drains) (IsThrough t level p (order_of d + 1))
        (λ x. (
          (λ through. ⊎_elim (λ before. inl before) (λ here. inr here.1) (parted d x through)),
          (λ either. ⊎_elim (wider x (order_of d) (order_of d + 1) (omega arith)) (λ here. inr (d, (omega arith, (drains, here)))) either),
        ))

    -- the count stays if the next direction has no donor
    pub count_stays : (d : Dir) (k : ℕ) → IsCountOf (IsThrough t level p (order_of d)) k → (DrainsBack t level p d → ⊥) → IsCountOf (IsThrough t level p (order_of d + 1)) k
    count_stays d k so_far none = count_alike (IsThrough t level p (order_of d)) (IsThrough t level p (order_of d + 1)) k
        (λ x. (wider x (order_of d) (order_of d + 1) (omega arith), (λ through. ⊎_elim (λ before. before) (λ here. absurd (none here.0)) (parted d x through)))) so_far

    -- after eight directions the count is that of the watershed
    pub count_ends : (k j : ℕ) → 8 ≤ j → IsTrue (t.is_ground p) → IsCountOf (IsThrough t level p j) k → IsCountOf (IsInWatershed t level p) k
    count_ends k j all solid of = count_alike (IsThrough t level p j) (IsInWatershed t level p) k (λ x. (
      (λ through. ⊎_elim
          (λ is. record { on_ground = subst (λ y. IsTrue (t.is_ground y)) (sym is) solid; flows = (0, is) })
          (λ some. let via = some.1.1.1 in record { on_ground = via.on_ground; flows = (via.flows.0 + 1, flows_on x via.flows.0 (step some.0 p) 1 p via.flows.1 (donor_flows some.0 some.1.1.0)) })
          through),
      (λ within. through_of x within.flows.0 within.on_ground within.flows.1),
    )) of
      where
        through_of : (x : Point) (i : ℕ) → IsTrue (t.is_ground x) → FlowsTo t level x i p → IsThrough t level p j x
        through_of x zero on flows = inl flows
        through_of x (suc i) on flows = let last = last_step x i on flows in inr (last.0, (omega (arith, all, order_below last.0), (last.1.0, record { on_ground = on; flows = (i, last.1.1) })))
