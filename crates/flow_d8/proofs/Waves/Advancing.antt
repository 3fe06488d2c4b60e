-- How marks and flows change from one wave to the next.
use Rattle.std.proofs.Common.{rules}
use Rattle.flow_d8.proofs.Prelude.{Advances, AreBegun, AreFlows, AreLaid, AreMarked, AreWavesOf, CrossesFlat, Dir, FlatTo, Flow, IsFlow, IsFull, IsOfFlat, IsPassed, IsRound, IsTold, IsTrue, LiesInside, List, Names, Point, Tells, Terrain, Unknown, ℕ, ℤ, ap, arith, back_of, cases_eq, cases_lt, get_or, get_or_past, inl, inr, length, order_of, refl, slice_index_or, step, subst, suc, sym, zero, ⊎_elim, ◌<◌, ◌∙◌, ◌≡◌, ◌≤◌, ◌⊎◌}
use Rattle.flow_d8.specs.Marks.{mark_at, IsMember, Lists, IsBack, Reaches, IsDirected}
use Rattle.flow_d8.proofs.Waves.WaveLaw.{AreMembers, Leads, direction, grown, settled}
use Rattle.flow_d8.proofs.Sayings.Said.{inside_of, beside_one, one_beside, told_inside, no_outlet, names_beside, is_known}
use Rattle.flow_d8.proofs.Waves.Marking.{in_range}

-- a wave is advanced by one direction after another, in order
module _ (by : ℕ → Dir → ℕ) (marks wave : List ℕ) (flows : List Flow) (waves_reached : (i : ℕ) → i < length wave → mark_at marks (get_or wave i 0) ≡ 0)
    (frontier : (k : ℕ) (d : Dir) → mark_at marks k ≡ 0 → mark_at marks (by k d) ≡ 2 → Lists wave k) (back : (k : ℕ) → IsMember marks k → IsBack by (length marks) k) where
  pub advances_none : (next : List ℕ) → length next ≡ 0 → Advances by marks flows marks next flows
  advances_none next none = record {
    whole = refl;
    flows_whole = refl;
    others = λ k not. refl;
    joined = λ k two. inl two;
    kept = λ k not. refl;
    reached = λ i small. absurd (omega arith);
    fewer = omega (arith, none);
  }

  module _ (mid next : List ℕ) (mid_flows : List Flow) (go : Advances by marks flows mid next mid_flows) (d : Dir)
      (passed : (i : ℕ) (e : Dir) → order_of e < order_of d → i < length wave → mark_at mid (by (get_or wave i 0) (back_of e)) ≡ 2 → ⊥)
      (new new_next : List ℕ) (new_flows : List Flow) (r : Reaches by wave d mid next mid_flows new new_next new_flows) where
    was_two : (k : ℕ) → mark_at mid k ≡ 2 → mark_at marks k ≡ 2
    was_two k two = elim (cases_eq (mark_at marks k) 2) [ inl is ↦ is | inr other ↦ sym (go.others k other) ∙ two ]

    -- no earlier step leads to a reached place: that place would be in the wave, and its direction was tried
    first_of : (k : ℕ) → mark_at mid k ≡ 2 → (e : Dir) → mark_at marks (by k e) ≡ 0 → order_of d ≤ order_of e
    first_of k two e at_zero = elim (cases_lt (order_of e) (order_of d)) [
      | inl before ↦
          let was = was_two k two in
          let home : by (by k e) (back_of e) ≡ k = back k (λ out. absurd (omega arith)) e (in_range marks (by k e) 0 at_zero (omega arith)) in
          let at = frontier (by k e) (back_of e) at_zero (ap (mark_at marks) home ∙ was) in
          absurd (passed at.0 e before at.1.0 (ap (mark_at mid) (ap (λ n. by n (back_of e)) at.1.1 ∙ home) ∙ two))
      | inr later ↦ later
    ]

    pub advances_on : Advances by marks flows new new_next new_flows
    advances_on = record {
      whole = r.whole ∙ go.whole;
      flows_whole = r.flows_whole ∙ go.flows_whole;
      others = λ k not. r.others k (λ two. not (was_two k two)) ∙ go.others k not;
      joined = λ k two. ⊎_elim
          (λ still. ⊎_elim
          (λ now. inl now)
          (λ now. inr (now.0, ((d, (now.1, record { reached = ap (mark_at marks) (sym now.2.1.1) ∙ waves_reached now.2.0 now.2.1.0; first = first_of k still })), now.3)))
          (r.joined k still))
          (λ before. inr (
            r.others k (λ at. absurd (omega (arith, before.0))) ∙ before.0,
            ((before.1.0.0, (r.kept k (λ at. absurd (omega (arith, before.0))) ∙ before.1.0.1.0, before.1.0.1.1)), r.listed k before.1.1),
          ))
          (go.joined k two);
      kept = λ k not. r.kept k (λ two. not (was_two k two))
          ∙ go.kept k (λ two. ⊎_elim (λ still. still) (λ before. absurd (omega (arith, not two, before.0, r.others k (λ at. absurd (omega (arith, before.0)))))) (go.joined k two));
      reached = r.reached go.reached;
      fewer = omega (arith, r.fewer, go.fewer);
    }

module _ (by : ℕ → Dir → ℕ) (marks : List ℕ) (flows : List Flow) (new next : List ℕ) (new_flows : List Flow) (go : Advances by marks flows new next new_flows) where
  old_of : (k : ℕ) → mark_at marks k ≡ 0 → mark_at new k ≡ 0
  old_of k at_zero = go.others k (λ two. absurd (omega arith)) ∙ at_zero

  outside_of : (k : ℕ) → mark_at marks k ≡ 3 → mark_at new k ≡ 3
  outside_of k out = go.others k (λ two. absurd (omega arith)) ∙ out

module _ (flows : List Flow) (by : ℕ → Dir → ℕ) (members : List ℕ) (marked : AreMarked flows by members) where
  -- a reached place is in the array
  in_flows : (marks wave : List ℕ) → IsRound by members marks wave → (k : ℕ) → mark_at marks k ≡ 0 → k < length flows
  in_flows marks wave is k at_zero = omega (arith, in_range marks k 0 at_zero (omega arith), is.whole, marked.whole)

  module _ (marks wave : List ℕ) (old_flows : List Flow) (new next : List ℕ) (new_flows : List Flow) (is : IsRound by members marks wave) (go : Advances by marks old_flows new next new_flows) where
    old : (k : ℕ) → mark_at marks k ≡ 0 → mark_at new k ≡ 0
    old = old_of by marks old_flows new next new_flows go

    outside : (k : ℕ) → mark_at marks k ≡ 3 → mark_at new k ≡ 3
    outside = outside_of by marks old_flows new next new_flows go

    was_two_in : (k : ℕ) → mark_at new k ≡ 2 → mark_at marks k ≡ 2
    was_two_in k two = search rules

    -- a member next to a wave is reached in the next wave
    comes : IsPassed by new wave → (k : ℕ) (d : Dir) → IsMember members k → mark_at marks k ≡ 2 → mark_at marks (by k d) ≡ 0 → mark_at new k ≡ 0
    comes passed k d member two at_zero =
        let back : by (by k d) (back_of d) ≡ k = marked.back k member d (in_flows marks wave is (by k d) at_zero) in
        let at = is.frontier (by k d) (back_of d) at_zero (ap (mark_at marks) back ∙ two) in
        ⊎_elim
        (λ still. absurd (passed at.0 (back_of d) at.1.0 (ap (mark_at new) (ap (λ n. by n (back_of d)) at.1.1 ∙ back) ∙ still)))
        (λ now. now.0)
        (go.joined k two)

    pub round_on : IsPassed by new wave → IsRound by members new next
    round_on passed = search rules

    pub tells : Tells flows old_flows → Tells old_flows new_flows
    tells was = record {
      whole = go.flows_whole;
      kept = λ e not. go.kept e (λ two. absurd (not (was.flat e (marked.flat e (λ out. absurd (omega (arith, is.outside e out)))))));
      flat = λ e flat. elim (changes e) [ inl same ↦ subst IsOfFlat (sym same) flat | inr to ↦ subst IsOfFlat (sym to.1) tt ];
      told = λ e told. elim (changes e) [ inl same ↦ subst IsTold (sym same) told | inr to ↦ subst IsTold (sym to.1) tt ];
    }
      where
        changes : (e : ℕ) → (slice_index_or new_flows e Unknown ≡ slice_index_or old_flows e Unknown) ⊎ ((d : Dir) × (slice_index_or new_flows e Unknown ≡ FlatTo d))
        changes e = elim (cases_eq (mark_at marks e) 2) [
          | inl two ↦ ⊎_elim (λ still. inl (go.kept e (λ at. still))) (λ now. inr (now.1.0.0, now.1.0.1.0)) (go.joined e two)
          | inr other ↦ inl (go.kept e (λ two. absurd (other two)))
        ]

  module _ (t : Terrain Point) (level : Point → ℤ) (place : ℕ → Point) (full : IsFull t) (laid : AreLaid by (length flows) place) (so : AreFlows t level place flows) where
    lies : (k : ℕ) → IsMember members k → LiesInside t level (place k)
    lies k member = inside_of t level (place k) (slice_index_or flows k Unknown) (marked.flat k member) (so k)

    beside_it : (k : ℕ) (d : Dir) → IsMember members k → IsTrue (t.is_adjacent (place k) (step d (place k)))
    beside_it k d member = let in_flat = lies k member in full.full (place k) in_flat.ground (no_outlet t level (place k) in_flat) d

    small_at : (k : ℕ) → (slice_index_or flows k Unknown ≡ Unknown → ⊥) → k < length flows
    small_at k known = ⊎_elim (λ lt. lt) (λ ge. absurd (known (get_or_past flows k Unknown ge))) (cases_lt k (length flows))

    there_at : (k : ℕ) (d : Dir) → IsMember members k → place (by k d) ≡ step d (place k)
    there_at k d member = laid k d (small_at k (is_known (slice_index_or flows k Unknown) (marked.flat k member))) (small_at (by k d) (marked.closed k d member).known)

    pub members_are : AreMembers t level full.stepped ℕ place by (IsMember members)
    members_are = record {
      inside = λ k member. (lies k member).inside;
      there = λ k d member. there_at k d member;
      closed = λ k d member adjacent inside.
          let around = marked.closed k d member in
          around.member (told_inside t level (place (by k d)) (slice_index_or flows (by k d) Unknown) around.known (so (by k d))
          (subst (λ p. IsTrue (t.is_ground p)) (sym (there_at k d member)) (full.stepped.lawful.to_ground (place k) (step d (place k)) adjacent))
          (subst (λ p. CrossesFlat t level p 0 → ⊥) (sym (there_at k d member)) inside));
    }

    -- before the first wave, the reached members are those next to an exit
    pub waves_begun : AreBegun flows members → AreWavesOf t level place members members flows
    waves_begun begun = record {
      so = so;
      waves = (
        0,
        λ k member. (
          λ at_zero. (1, (beside_one t level (place k) (slice_index_or flows k Unknown) (begun.only k at_zero) (so k), omega arith)),
          λ found. reached_if k member found.0 found.1.0 found.1.1,
        ),
      );
      named = λ k at_zero. names_beside (slice_index_or flows k Unknown) (begun.only k at_zero);
    }
      where
        reached_if : (k : ℕ) → IsMember members k → (i : ℕ) → CrossesFlat t level (place k) i → i ≤ 1 → mark_at members k ≡ 0
        reached_if k member zero crosses le = absurd ((lies k member).inside crosses)
        reached_if k member (suc zero) crosses le = begun.beside k member (one_beside t level (place k) (slice_index_or flows k Unknown) (marked.flat k member) (so k) crosses)
        reached_if k member (suc (suc i)) crosses le = absurd (omega arith)

    module _ (marks wave : List ℕ) (old_flows : List Flow) (is : IsRound by members marks wave) (told : AreWavesOf t level place members marks old_flows) where
      abbrev LeadsOld : ℕ → Dir → Type 0
      LeadsOld k d = Leads t level full.stepped ℕ place by (IsMember members) (λ n. mark_at marks n ≡ 0) k d

      abbrev count : ℕ
      count = suc told.waves.0

      member_if : (k : ℕ) → mark_at marks k ≡ 0 → IsMember members k
      member_if k at_zero out = absurd (omega (arith, is.outside k out))

      lead : (k : ℕ) (d : Dir) → IsMember members k → mark_at marks (by k d) ≡ 0 → LeadsOld k d
      lead k d member at_zero = record { adjacent = beside_it k d member; within = member_if (by k d) at_zero; reached = at_zero }

      -- if the last wave is empty, each member from which the flat can be crossed is reached
      pub all_named : length wave ≡ 0 → (k j : ℕ) → IsMember members k → CrossesFlat t level (place k) j → (d : Dir) × Names (slice_index_or old_flows k Unknown) d
      all_named empty k j member crosses = told.named k (settled t level full.stepped ℕ place by (IsMember members) members_are (λ n. mark_at marks n ≡ 0) count told.waves.1 (omega arith) still j k member crosses)
        where
          still : (n : ℕ) (d : Dir) → IsMember members n → LeadsOld n d → mark_at marks n ≡ 0
          still n d inside leads = ⊎_elim (λ at_zero. at_zero)
              (λ two.
              let back : by (by n d) (back_of d) ≡ n = marked.back n inside d (in_flows marks wave is (by n d) leads.reached) in
              let at = is.frontier (by n d) (back_of d) leads.reached (ap (mark_at marks) back ∙ two) in
              absurd (omega (arith, at.1.0)))
              (is.member n inside)

      module _ (new next : List ℕ) (new_flows : List Flow) (go : Advances by marks old_flows new next new_flows) where
        still_zero : (k : ℕ) → mark_at marks k ≡ 0 → mark_at new k ≡ 0
        still_zero = old_of by marks old_flows new next new_flows go

        kept_so : (k : ℕ) → (mark_at marks k ≡ 2 → mark_at new k ≡ 2) → IsFlow t level (place k) (slice_index_or new_flows k Unknown)
        kept_so k not = subst (IsFlow t level (place k)) (sym (go.kept k not)) (told.so k)

        -- a place of the next wave has the next distance, and its first step to a reached place is its direction
        directed_so : (k : ℕ) → mark_at marks k ≡ 2 → IsDirected by marks new_flows k → IsFlow t level (place k) (slice_index_or new_flows k Unknown)
        directed_so k two directed =
            let member : IsMember members k = λ out. absurd (omega (arith, is.outside k out)) in
            let d = directed.0 in
            let first = directed.1.1 in
            let fresh : mark_at marks k ≡ 0 → ⊥ = λ at_zero. absurd (omega arith) in
            subst (IsFlow t level (place k)) (sym directed.1.0) (
              lies k member,
              (
                λ one. fresh ((told.waves.1 k member).1 (1, (one, omega arith))),
                direction t level full.stepped ℕ place by (IsMember members) members_are (λ n. mark_at marks n ≡ 0) count told.waves.1 k member fresh d (omega arith) (lead k d member first.reached)
                    (λ e leads. first.first e leads.reached),
              ),
            )

        pub so_on : AreFlows t level place new_flows
        so_on k = elim (cases_eq (mark_at marks k) 2) [
          | inl two ↦ ⊎_elim (λ still. kept_so k (λ at. still)) (λ now. directed_so k two now.1.0) (go.joined k two)
          | inr other ↦ kept_so k (λ two. absurd (other two))
        ]

        pub waves_on : IsPassed by new wave → AreWavesOf t level place members new new_flows
        waves_on passed = record {
          so = so_on;
          waves = (
            count,
            grown t level full.stepped ℕ place by (IsMember members) members_are (λ n. mark_at marks n ≡ 0) count told.waves.1 (λ n. mark_at new n ≡ 0) (omega arith)
                (λ k member. (
                  λ at_zero. ⊎_elim
                      (λ before. inl before)
                      (λ two. ⊎_elim (λ still. absurd (omega arith)) (λ now. inr (now.1.0.0, lead k now.1.0.0 member now.1.0.1.1.reached)) (go.joined k two))
                      (is.member k member),
                  λ either. ⊎_elim
                      (λ before. still_zero k before)
                      (λ leads. ⊎_elim (λ before. still_zero k before) (λ two. comes marks wave old_flows new next new_flows is go passed k leads.0 member two leads.1.reached) (is.member k member))
                      either,
                )),
          );
          named = λ k at_zero. elim (cases_eq (mark_at marks k) 2) [
            | inl two ↦ ⊎_elim (λ still. absurd (omega arith)) (λ now. (now.1.0.0, subst (λ f. Names f now.1.0.0) (sym now.1.0.1.0) refl)) (go.joined k two)
            | inr other ↦ elim (cases_eq (mark_at members k) 3) [
              | inl out ↦ absurd (omega (arith, outside_of by marks old_flows new next new_flows go k (is.outside k out)))
              | inr member ↦ ⊎_elim
                  (λ before. let name = told.named k before in (name.0, subst (λ f. Names f name.0) (sym (go.kept k (λ two. absurd (other two)))) name.1))
                  (λ two. absurd (other two))
                  (is.member k member)
            ]
          ];
        }
