-- The counting tour: each of its steps leaves all counts right.
use Rattle.std.proofs.Common.{rules}
use Rattle.watershed.proofs.Prelude.{AreFilledLevels, AreToldBy, back_of, Bool, Branch, Dir, DrainsBack, IsCountOf, IsFalse, IsFlowPath, IsInWatershed, IsTrue, List, Point, ℕ, ℤ, [], ap, arith, false, get_or, is_ground, length, length-append, order_of, refl, step, step_back, subst, suc, sym, terrain, terrain_is_lawful, true≢false, zero, ⊎_elim, ◌++◌, ◌+◌, ◌-◌, ◌<◌, ◌∙◌, ◌∷◌, ◌≡◌, ◌≤◌}
use Rattle.lattice.specs.Mosaic.{Mosaic, IsMosaic, void}
use Rattle.water.proofs.FlowPaths.{flow_path_exists, from_next, one_flow_path}
use Rattle.water.proofs.MosaicGrid.{mosaic_is_grid}
use Rattle.water.proofs.Compass.{dir_at, order_below, order_of-dir_at}
use Rattle.watershed.specs.Counting.{IsThrough, IsCounted, IsCounting, IsWaiting, AreWaiting, IsNext, IsTour}
use Rattle.watershed.proofs.Through.{count_begins, count_grows, count_stays, count_ends}

module _ (m : Mosaic) (is : IsMosaic m) (level : Point → ℤ) (filled : AreFilledLevels (terrain m) level) where
  module _ (p : Point) (solid : IsTrue (is_ground m p)) where
    path : (path : List Point) × IsFlowPath (terrain m) level p path
    path = flow_path_exists (terrain m) void (mosaic_is_grid m is) level filled p solid

    pub begun : (donors : List Bool) → AreToldBy (DrainsBack (terrain m) level p) donors 8 → IsCounting (terrain m) level (record { point = p; donors = donors; looked = 0; count = 1 })
    begun donors told = record { branch = record { on_ground = solid; donors = told }; count = count_begins (terrain m) level (terrain_is_lawful m) p path.0 path.1 }

    grown : (d : Dir) (k n : ℕ) → IsCountOf (IsThrough (terrain m) level p (order_of d)) k → DrainsBack (terrain m) level p d → IsCountOf (IsInWatershed (terrain m) level (step d p)) n → IsCountOf (IsThrough (terrain m) level p (order_of d + 1)) (k + n)
    grown = count_grows (terrain m) level (terrain_is_lawful m) p path.0 path.1

    unmoved : (d : Dir) (k : ℕ) → IsCountOf (IsThrough (terrain m) level p (order_of d)) k → (DrainsBack (terrain m) level p d → ⊥) → IsCountOf (IsThrough (terrain m) level p (order_of d + 1)) k
    unmoved = count_stays (terrain m) level (terrain_is_lawful m) p path.0 path.1

    ended : (k j : ℕ) → 8 ≤ j → IsCountOf (IsThrough (terrain m) level p j) k → IsCountOf (IsInWatershed (terrain m) level p) k
    ended k j all = count_ends (terrain m) level (terrain_is_lawful m) p path.0 path.1 k j all solid

  -- counting the next direction of a branch
  module _ (b : Branch) (d : Dir) (at : order_of d ≡ b.looked) (so_far : IsCounting (terrain m) level b) where
    here : IsCountOf (IsThrough (terrain m) level b.point (order_of d)) b.count
    here = subst (λ k. IsCountOf (IsThrough (terrain m) level b.point k) b.count) (sym at) so_far.count

    pub passed : (DrainsBack (terrain m) level b.point d → ⊥) → IsCounting (terrain m) level (record b { looked = b.looked + 1 })
    passed none = search (rules, none, unmoved, here)

    pub added : (n : ℕ) → DrainsBack (terrain m) level b.point d → IsCounted (terrain m) level (step d b.point) n → IsCounting (terrain m) level (record b { looked = b.looked + 1; count = b.count + n })
    added n drains more = record {
      branch = record { on_ground = so_far.branch.on_ground; donors = so_far.branch.donors };
      count = subst (λ k. IsCountOf (IsThrough (terrain m) level b.point (k + 1)) (b.count + n)) at (grown b.point so_far.branch.on_ground d b.count n here drains more.count);
    }

    pub waits : (p : Point) → step d b.point ≡ p → DrainsBack (terrain m) level b.point d → IsWaiting (terrain m) level (record b { looked = b.looked + 1 }) p
    waits p leads drains = search rules

  -- n directions without a donor are skipped
  pub skipped : (n : ℕ) (b : Branch) → b.looked + n ≤ 8 → ((k : ℕ) → b.looked ≤ k → k < b.looked + n → IsFalse (get_or b.donors k false)) → IsCounting (terrain m) level b → IsCounting (terrain m) level (record b { looked = b.looked + n })
  skipped zero b small none so_far = subst (λ k. IsCounting (terrain m) level (record b { looked = k })) (omega arith) so_far
  skipped (suc n) b small none so_far =
      let d = dir_at b.looked in
      let at : order_of d ≡ b.looked = order_of-dir_at b.looked (omega arith) in
      let more : (b.looked + 1) + n ≡ b.looked + suc n = omega arith in
      subst (λ k. IsCounting (terrain m) level (record b { looked = k })) more
      (skipped n (record b { looked = b.looked + 1 }) (omega arith) (λ k low high. none k (omega arith) (omega arith))
      (passed b d at so_far (λ drains. true≢false (sym ((so_far.branch.donors d (order_below d)).1 drains) ∙ ap (λ k. get_or b.donors k false) at ∙ none b.looked (omega arith) (omega arith)))))

  pub finished : (b : Branch) → 8 ≤ b.looked → IsCounting (terrain m) level b → IsCounted (terrain m) level b.point b.count
  finished b all so_far = record { on_ground = so_far.branch.on_ground; count = ended b.point so_far.branch.on_ground b.count b.looked all so_far.count }

  -- the tour returns from a donor
  resumed : (b : Branch) (p : Point) (n : ℕ) → IsWaiting (terrain m) level b p → IsCounted (terrain m) level p n → IsCounting (terrain m) level (record b { count = b.count + n })
  resumed b p n waiting done = record {
    branch = record { on_ground = waiting.branch.on_ground; donors = waiting.branch.donors };
    count = subst (λ k. IsCountOf (IsThrough (terrain m) level b.point k) (b.count + n)) (sym waiting.looked)
        (grown b.point waiting.branch.on_ground waiting.last b.count n waiting.count waiting.drains (subst (λ q. IsCountOf (IsInWatershed (terrain m) level q) n) (sym waiting.leads) done.count));
  }

  module _ (first : Point) where
    pub tour_begins : (at : Branch) → at.point ≡ first → IsCounting (terrain m) level at → IsTour (terrain m) level first at []
    tour_begins at same counting = record { counting = counting; depth = 0; waiting = (refl, same) }

    pub tour_stays : (at next : Branch) (branches : List Branch) → next.point ≡ at.point → IsTour (terrain m) level first at branches → IsCounting (terrain m) level next → IsTour (terrain m) level first next branches
    tour_stays at next branches same tour counting = record { counting = counting; depth = tour.depth; waiting = subst (AreWaiting (terrain m) level first tour.depth branches) (sym same) tour.waiting }

    pub tour_skips : (at : Branch) (next : ℕ) (branches : List Branch) → IsTour (terrain m) level first at branches → IsNext at.donors at.looked next → IsTour (terrain m) level first (record at { looked = next }) branches
    tour_skips at next branches tour is = ⊎_elim
        (λ small.
        let far : at.looked + (next - at.looked) ≡ next = omega (arith, is.later) in
        let counting = skipped (next - at.looked) at (omega (arith, far, small)) (λ k low high. is.none_before k low (omega (arith, high, far))) tour.counting in
        tour_stays at (record at { looked = next }) branches refl tour (subst (λ k. IsCounting (terrain m) level (record at { looked = k })) far counting))
        (λ same. subst (λ k. IsTour (terrain m) level first (record at { looked = k }) branches) (sym same) tour)
        is.small

    pub tour_enters : (at next new : Branch) (branches : List Branch) → next.point ≡ at.point → IsTour (terrain m) level first at branches → IsWaiting (terrain m) level next new.point → IsCounting (terrain m) level new
        → IsTour (terrain m) level first new (branches ++ next ∷ [])
    tour_enters at next new branches same tour waits counting = record {
      counting = counting;
      depth = suc tour.depth;
      waiting = (branches, (next, (refl, (waits, subst (AreWaiting (terrain m) level first tour.depth branches) (sym same) tour.waiting))));
    }

    returns : (depth : ℕ) (at below : Branch) (branches rest : List Branch) → AreWaiting (terrain m) level first depth branches at.point → branches ≡ rest ++ below ∷ [] → IsCounted (terrain m) level at.point at.count
        → IsTour (terrain m) level first (record below { count = below.count + at.count }) rest
    returns zero at below branches rest waiting is done = absurd (not_empty rest below (sym waiting.0 ∙ is))
      where
        not_empty : (rest : List Branch) (below : Branch) → [] ≡ rest ++ below ∷ [] → ⊥
        not_empty [] below e = cc
        not_empty (b ∷ rest) below e = cc
    returns (suc depth) at below branches rest waiting is done =
        let same = last_alike waiting.0 rest waiting.1.0 below (sym waiting.1.1.0 ∙ is) in
        record {
          counting = resumed below at.point at.count (subst (λ b. IsWaiting (terrain m) level b at.point) same.1 waiting.1.1.1.0) done;
          depth = depth;
          waiting = subst (λ (b : Branch). AreWaiting (terrain m) level first depth rest b.point) same.1 (subst (λ l. AreWaiting (terrain m) level first depth l waiting.1.0.point) same.0 waiting.1.1.1.1);
        }
      where
        last_alike : (xs ys : List Branch) (a b : Branch) → xs ++ a ∷ [] ≡ ys ++ b ∷ [] → (xs ≡ ys) × (a ≡ b)
        last_alike [] [] a b e = (refl, cc)
        last_alike [] (y ∷ []) a b e = absurd (let two : 1 ≡ 2 = ap length e in omega arith)
        last_alike [] (y ∷ z ∷ ys) a b e = absurd (let two : 1 ≡ suc (suc (length (ys ++ b ∷ []))) = ap length e in omega arith)
        last_alike (x ∷ []) [] a b e = absurd (let two : 2 ≡ 1 = ap length e in omega arith)
        last_alike (x ∷ z ∷ xs) [] a b e = absurd (let two : suc (suc (length (xs ++ a ∷ []))) ≡ 1 = ap length e in omega arith)
        last_alike (x ∷ xs) (y ∷ ys) a b e =
            let rest : xs ++ a ∷ [] ≡ ys ++ b ∷ [] = cc in
            let head : x ≡ y = cc in
            let on = last_alike xs ys a b rest in
            (ap (λ l. x ∷ l) on.0 ∙ ap (λ h. h ∷ ys) head, on.1)

    pub tour_returns : (at below : Branch) (branches rest : List Branch) → IsTour (terrain m) level first at branches → branches ≡ rest ++ below ∷ [] → 8 ≤ at.looked
        → IsTour (terrain m) level first (record below { count = below.count + at.count }) rest
    tour_returns at below branches rest tour is all = returns tour.depth at below branches rest tour.waiting is (finished at all tour.counting)

    ends : (depth : ℕ) (at : Branch) → AreWaiting (terrain m) level first depth [] at.point → at.point ≡ first
    ends zero at waiting = waiting.1
    ends (suc depth) at waiting = absurd (none waiting.0 waiting.1.0 waiting.1.1.0)
      where
        none : (rest : List Branch) (b : Branch) → [] ≡ rest ++ b ∷ [] → ⊥
        none [] b e = cc
        none (c ∷ rest) b e = cc

    pub tour_ends : (at : Branch) → IsTour (terrain m) level first at [] → 8 ≤ at.looked → IsCounted (terrain m) level first at.count
    tour_ends at tour all = subst (λ q. IsCounted (terrain m) level q at.count) (ends tour.depth at tour.waiting) (finished at all tour.counting)

    -- as many branches wait as the path has points before p
    pub waiting_depth : (n : ℕ) (branches : List Branch) (p : Point) → AreWaiting (terrain m) level first n branches p → length branches ≡ n
    waiting_depth zero branches p waiting = ap length waiting.0
    waiting_depth (suc n) branches p waiting =
        let before = waiting_depth n waiting.0 waiting.1.0.point waiting.1.1.1.1 in
        let more = length-append waiting.0 (waiting.1.0 ∷ []) in
        ap length waiting.1.1.0 ∙ more ∙ omega (arith, before)

    -- the flow path of a point n steps above the first one
    path_above : (path : List Point) → IsFlowPath (terrain m) level first path → (n : ℕ) (branches : List Branch) (p : Point) → AreWaiting (terrain m) level first n branches p
        → (above : List Point) × (IsFlowPath (terrain m) level p above × (length above ≡ n + length path))
    path_above path is_path zero branches p waiting = (path, (subst (λ (q : Point). IsFlowPath (terrain m) level q path) (sym waiting.1) is_path, omega arith))
    path_above path is_path (suc n) branches p waiting =
        let b = waiting.1.0 in
        let waits = waiting.1.1.1.0 in
        let below = path_above path is_path n waiting.0 b.point waiting.1.1.1.1 in
        let d = waits.last in
        let next = subst (λ (q : Point). IsFlowPath (terrain m) level q below.0) (sym (step_back d b.point)) below.1.0 in
        let above = from_next (terrain m) level (step d b.point) (back_of d) below.0 waits.drains.1 next in
        let far = below.1.1 in
        (p ∷ below.0, (subst (λ (q : Point). IsFlowPath (terrain m) level q (q ∷ below.0)) waits.leads above, omega (arith, far)))

    -- a point occurs at only one depth of the tour
    pub one_depth : IsTrue (is_ground m first) → (i j : ℕ) (these those : List Branch) (p : Point) → AreWaiting (terrain m) level first i these p → AreWaiting (terrain m) level first j those p → i ≡ j
    one_depth solid i j these those p here there =
        let found = flow_path_exists (terrain m) void (mosaic_is_grid m is) level filled first solid in
        let a = path_above found.0 found.1 i these p here in
        let b = path_above found.0 found.1 j those p there in
        let same = ap length (one_flow_path (terrain m) level p a.0 b.0 a.1.0 b.1.0) in
        let far_a = a.1.1 in
        let far_b = b.1.1 in
        omega (arith, same, far_a, far_b)
