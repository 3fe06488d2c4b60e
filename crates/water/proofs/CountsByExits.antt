-- Counts over exits. Within its own owner, each point of a watershed reaches the watershed's point or one exit above it, and
-- no other of these. The reason: a point has one flow path, which never returns.
use Rattle.std.proofs.Common.{Bool, IsFalse, IsTrue, List, Contains, None, Some, [], ℕ, zero, suc, ℤ, ap, arith, inl, inr, length, refl, subst, sym, true≢false, ⊎_elim, ◌+◌, ◌<◌, ◌∙◌, ◌∷◌, ◌≡◌, ◌≢◌, ◌↔◌, ◌⊎◌}
use Rattle.std.specs.List.{AllPairs, sum_by}
use Rattle.std.proofs.lemmas.Bool.{cases_Bool}
use Rattle.std.proofs.lemmas.List.Sums.{sum_by-cons}
use Rattle.lattice.specs.declared.point.Point.{Point}
use Rattle.lattice.specs.declared.direction.Dir.{Dir}
use Rattle.lattice.specs.Mosaic.{Mosaic, IsMosaic, void}
use Rattle.lattice.specs.Ground.{is_ground, terrain}
use Rattle.lattice.specs.Steps.{step}
use Rattle.lattice.specs.Terrain.{Terrain}
use Rattle.water.specs.Counts.{IsCountOf}
use Rattle.water.specs.Drainage.{AreFilledLevels, IsDirection}
use Rattle.water.specs.FlowPath.{FlowsTo, IsFlowPath, IsInWatershed}
use Rattle.water.specs.PartLaws.{ComesWithin, DrainsTo, IsExitAbove}
use Rattle.water.specs.Parts.{IsPathWithin}
use Rattle.water.proofs.Counted.{count_alike, count_both}
use Rattle.water.proofs.FlowPaths.{flow_path_exists, one_flow_path}
use Rattle.water.proofs.MosaicGrid.{mosaic_is_grid}
use Rattle.water.proofs.Unique.{one_direction}

module _ (t : Terrain Point) (level : Point → ℤ) where
  same_dir : (d e : Dir) → Some d ≡ Some e → d ≡ e
  same_dir d e h = cc

  no_dir : (d : Dir) → Some d ≡ None → ⊥
  no_dir d h = cc

  -- a point drains to one point only
  one_next : (x y z : Point) → DrainsTo t level x y → DrainsTo t level x z → y ≡ z
  one_next x y z a b =
      let same = same_dir a.0 b.0 (one_direction t level x (Some a.0) (Some b.0) a.1.0 b.1.0) in
      a.1.1 ∙ ap (λ d. step d x) same ∙ sym b.1.1

  flows_on : (x y z : Point) (j k : ℕ) → FlowsTo t level x j y → FlowsTo t level y k z → (n : ℕ) × (FlowsTo t level x n z × (n ≡ j + k))
  flows_on x y z zero k here on = (k, (subst (λ v. FlowsTo t level v k z) (sym here) on, omega arith))
  flows_on x y z (suc j) k flows on =
      let further = flows_on (step flows.0 x) y z j k flows.1.1 on in
      let size : further.0 ≡ j + k = further.1.1 in
      (suc further.0, ((flows.0, (flows.1.0, further.1.0)), omega (arith, size)))

  -- the rest of a flow path after k steps
  left_over : (x q : Point) (k : ℕ) (path : List Point) → IsFlowPath t level x path → FlowsTo t level x k q →
      (rest : List Point) × (IsFlowPath t level q rest × (length rest + k ≡ length path))
  left_over x q k [] is flows = absurd is
  left_over x q zero (y ∷ []) is here = (y ∷ [], (subst (λ v. IsFlowPath t level v (y ∷ [])) here is, omega arith))
  left_over x q zero (y ∷ z ∷ path) is here = (y ∷ z ∷ path, (subst (λ v. IsFlowPath t level v (y ∷ z ∷ path)) here is, omega arith))
  left_over x q (suc k) (y ∷ []) is flows = absurd (no_dir flows.0 (one_direction t level x (Some flows.0) None flows.1.0 is.1))
  left_over x q (suc k) (y ∷ z ∷ path) is flows =
      let d = is.1.0 in
      let same : flows.0 ≡ d = same_dir flows.0 d (one_direction t level x (Some flows.0) (Some d) flows.1.0 is.1.1.0) in
      let later = left_over (step d x) q k (z ∷ path) is.1.1.1.1 (subst (λ e. FlowsTo t level (step e x) k q) same flows.1.1) in
      let size : length later.0 + k ≡ length (z ∷ path) = later.1.1 in
      (later.0, (later.1.0, omega (arith, size)))

  -- no flow path returns to its start
  no_return : (p : Point) (n : ℕ) (path : List Point) → IsFlowPath t level p path → FlowsTo t level p n p → n ≡ 0
  no_return p n path is flows =
      let later = left_over p p n path is flows in
      let same = ap length (one_flow_path t level p later.0 path later.1.0 is) in
      let size : length later.0 + n ≡ length path = later.1.1 in
      omega (arith, same, size)

module _ (t : Terrain Point) (level : Point → ℤ) (is_one_owner : Point → Point → Bool) where
  abbrev Within : Point → Point → List Point → Type 0
  Within = IsPathWithin (DrainsTo t level) is_one_owner

  abbrev Exit : Point → Point → Type 0
  Exit = IsExitAbove t level is_one_owner

  steps_within : (q x : Point) (rest : List Point) → Within q x rest → (k : ℕ) × FlowsTo t level x k q
  steps_within q x [] here = (0, here)
  steps_within q x (y ∷ rest) path =
      let on = steps_within q y rest path.1.1 in
      (suc on.0, (path.0.0, (path.0.1.0, subst (λ v. FlowsTo t level v on.0 q) path.0.1.1 on.1)))

  -- an exit drains to no point of its own owner
  leaves : (p e z : Point) → Exit p e → DrainsTo t level e z → IsTrue (is_one_owner e z) → ⊥
  leaves p e z exit drains one =
      let same = one_next t level e z exit.entry drains exit.drains in
      true≢false (sym (subst (λ v. IsTrue (is_one_owner e v)) same one) ∙ exit.other)

  -- if paths within one owner lead from x to q and to the exit e, a path leads from q to e
  go_through : (p q e x : Point) (rest more : List Point) → Exit p e → Within q x rest → Within e x more → (r : List Point) × Within e q r
  go_through p q e x [] more exit here path = (more, subst (λ v. Within e v more) here path)
  go_through p q e x (z ∷ rest) [] exit path here =
      absurd (leaves p e z exit (subst (λ v. DrainsTo t level v z) here path.0) (subst (λ v. IsTrue (is_one_owner v z)) here path.1.0))
  go_through p q e x (z ∷ rest) (w ∷ more) exit path other =
      let same = one_next t level x z w path.0 other.0 in
      go_through p q e z rest more exit path.1.1 (subst (λ v. Within e v more) (sym same) other.1.1)

  one_exit : (p e f x : Point) (rest more : List Point) → Exit p e → Exit p f → Within e x rest → Within f x more → e ≡ f
  one_exit p e f x rest more exit other path further = ends (go_through p e f x rest more other path further)
    where
      ends : (r : List Point) × Within f e r → e ≡ f
      ends ([], here) = here
      ends (z ∷ r, on) = absurd (leaves p e z exit on.0 on.1.0)

  -- no point reaches both p and an exit above p within one owner
  not_both : (p e x : Point) (path rest more : List Point) → IsFlowPath t level p path → Exit p e → Within p x rest → Within e x more → ⊥
  not_both p e x path rest more is exit own other =
      let on = go_through p p e x rest more exit own other in
      let there = steps_within e p on.0 on.1 in
      let back : FlowsTo t level e (suc exit.above.0) p = (exit.drains.0, (exit.drains.1.0, subst (λ v. FlowsTo t level v exit.above.0 p) exit.drains.1.1 exit.above.1)) in
      let round = flows_on t level p e p there.0 (suc exit.above.0) there.1 back in
      let none = no_return t level p round.0 path is round.1.0 in
      let size : round.0 ≡ there.0 + suc exit.above.0 = round.1.1 in
      omega (arith, none, size)

  -- each flow path to p reaches p, or an exit above p, within one owner
  record ComesToExit (p x : Point) : Type 0 where
    exit : Point
    is_exit : Exit p exit
    rest : List Point
    path : Within exit x rest

  comes : (p x : Point) (k : ℕ) → FlowsTo t level x k p → ((rest : List Point) × Within p x rest) ⊎ ComesToExit p x
  comes p x zero here = inl ([], here)
  comes p x (suc k) flows =
      let y = step flows.0 x in
      let drains : DrainsTo t level x y = (flows.0, (flows.1.0, refl)) in
      elim (cases_Bool (is_one_owner x y)) [
        | inl one ↦ ⊎_elim
            (λ own. inl (y ∷ own.0, (drains, (one, own.1))))
            (λ other. inr (record { exit = other.exit; is_exit = other.is_exit; rest = y ∷ other.rest; path = (drains, (one, other.path)) }))
            (comes p y k flows.1.1)
        | inr off ↦ inr (record {
          exit = x;
          is_exit = record { entry = y; drains = drains; other = off; above = (k, flows.1.1) };
          rest = [];
          path = refl;
        })
      ]

  -- the points that reach one of these exits
  abbrev ToSome : List Point → Point → Type 0
  ToSome [] x = ⊥
  ToSome (e ∷ exits) x = ComesWithin t level is_one_owner e x ⊎ ToSome exits x

  to_some : (exits : List Point) (e x : Point) (k : ℕ) → k < length exits → Contains exits e → ComesWithin t level is_one_owner e x → ToSome exits x
  to_some [] e x k lt has here = absurd (omega (arith, has.1))
  to_some (f ∷ exits) e x k lt (zero, within, same) here = inl (subst (λ v. ComesWithin t level is_one_owner v x) (sym same) here)
  to_some (f ∷ exits) e x k lt (suc j, within, same) here = inr (to_some exits e x j (omega (arith, within)) (j, omega (arith, within), same) here)

  from_some : (exits : List Point) (x : Point) → ToSome exits x → (e : Point) × (Contains exits e × ComesWithin t level is_one_owner e x)
  from_some [] x none = absurd none
  from_some (e ∷ exits) x (inl here) = (e, ((0, omega arith, refl), here))
  from_some (e ∷ exits) x (inr later) =
      let on = from_some exits x later in
      (on.0, ((suc on.1.0.0, omega (arith, on.1.0.1), on.1.0.2), on.1.1))

  sum_of : (p : Point) (count : Point → ℕ) (exits : List Point) → AllPairs (λ e f. e ≢ f) exits → ((e : Point) → Contains exits e → Exit p e) →
      ((e : Point) → Exit p e → IsCountOf (ComesWithin t level is_one_owner e) (count e)) → IsCountOf (ToSome exits) (sum_by count exits)
  sum_of p count [] once all counts = record {
    points = [];
    once = λ i j d before below. absurd (omega arith);
    all = λ x. ((λ has. absurd (omega (arith, has.1))), (λ none. absurd none));
    count = refl;
  }
  sum_of p count (e ∷ exits) once all counts =
      subst (IsCountOf (ToSome (e ∷ exits))) (sym (sum_by-cons count e exits))
      (count_both (ComesWithin t level is_one_owner e) (ToSome exits) (count e) (sum_by count exits) (counts e first)
      (sum_of p count exits (λ i j d before below. once (suc i) (suc j) d (omega arith) (omega arith)) (λ f has. all f (suc has.0, omega (arith, has.1), has.2)) counts)
      apart (ToSome (e ∷ exits)) (λ x. ((λ some. some), (λ some. some))))
    where
      first : Exit p e
      first = all e (0, omega arith, refl)

      apart : (x : Point) → ComesWithin t level is_one_owner e x → ToSome exits x → ⊥
      apart x here later =
          let other = from_some exits x later in
          let has = other.1.0 in
          let same = one_exit p e other.0 x here.1.0 other.1.1.1.0 first (all other.0 (suc has.0, omega (arith, has.1), has.2)) here.1.1 other.1.1.1.1 in
          once 0 (suc has.0) other.0 (omega arith) (omega (arith, has.1)) (same ∙ sym has.2)

-- the points that drain through p are as many as reach p and each exit above it within one owner
module _ (m : Mosaic) (level : Point → ℤ) (is : IsMosaic m) (filled : AreFilledLevels (terrain m) level) (is_one_owner : Point → Point → Bool) (p : Point) (solid : IsTrue (is_ground m p)) where
  abbrev t : Terrain Point
  t = terrain m

  pub count_by_exits : (exits : List Point) (own : ℕ) (count : Point → ℕ) → AllPairs (λ e f. e ≢ f) exits →
      ((e : Point) → Contains exits e ↔ IsExitAbove t level is_one_owner p e) → IsCountOf (ComesWithin t level is_one_owner p) own →
      ((e : Point) → IsExitAbove t level is_one_owner p e → IsCountOf (ComesWithin t level is_one_owner e) (count e)) →
      IsCountOf (IsInWatershed t level p) (own + sum_by count exits)
  count_by_exits exits own count once all here counts =
      count_both (ComesWithin t level is_one_owner p) (ToSome t level is_one_owner exits) own (sum_by count exits) here
      (sum_of t level is_one_owner p count exits once (λ e has. (all e).0 has) counts) apart (IsInWatershed t level p) (λ x. (forth x, back x))
    where
      path : List Point
      path = (flow_path_exists t void (mosaic_is_grid m is) level filled p solid).0

      apart : (x : Point) → ComesWithin t level is_one_owner p x → ToSome t level is_one_owner exits x → ⊥
      apart x own some =
          let other = from_some t level is_one_owner exits x some in
          not_both t level is_one_owner p other.0 x path own.1.0 other.1.1.1.0 (flow_path_exists t void (mosaic_is_grid m is) level filled p solid).1
          ((all other.0).0 other.1.0) own.1.1 other.1.1.1.1

      forth : (x : Point) → IsInWatershed t level p x → ComesWithin t level is_one_owner p x ⊎ ToSome t level is_one_owner exits x
      forth x inside = ⊎_elim
          (λ own. inl (inside.on_ground, own))
          (λ other. let has = (all other.exit).1 other.is_exit in inr (to_some t level is_one_owner exits other.exit x has.0 has.1 has (inside.on_ground, (other.rest, other.path))))
          (comes t level is_one_owner p x inside.flows.0 inside.flows.1)

      back : (x : Point) → ComesWithin t level is_one_owner p x ⊎ ToSome t level is_one_owner exits x → IsInWatershed t level p x
      back x (inl own) = record { on_ground = own.0; flows = steps_within t level is_one_owner p x own.1.0 own.1.1 }
      back x (inr some) =
          let other = from_some t level is_one_owner exits x some in
          let exit = (all other.0).0 other.1.0 in
          let there = steps_within t level is_one_owner other.0 x other.1.1.1.0 other.1.1.1.1 in
          let on : FlowsTo t level other.0 (suc exit.above.0) p = (exit.drains.0, (exit.drains.1.0, subst (λ v. FlowsTo t level v exit.above.0 p) exit.drains.1.1 exit.above.1)) in
          let way = flows_on t level x other.0 p there.0 (suc exit.above.0) there.1 on in
          record { on_ground = other.1.1.0; flows = (way.0, way.1.0) }
