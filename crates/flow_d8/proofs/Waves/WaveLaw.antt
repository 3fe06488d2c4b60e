-- The law of waves, over the points of flats or places that represent them.
use Rattle.flow_d8.proofs.Prelude.{CrossesFlat, Dir, HasLower, IsDirection, IsFalse, IsFlatDistance, IsLawful, IsNearer, IsStepped, IsTrue, Point, Some, Terrain, ℕ, ℤ, arith, cases_Bool, cases_order, false, inl, inr, int_lt, ints, lt_false, lt_true, order_of, step, subst, suc, sym, zero, ⊎_elim, ◌<◌, ◌↔◌, ◌∙◌, ◌≡◌, ◌≤◌, ◌⊎◌}
use Rattle.water.proofs.Ends.{end_or_inside}
use Rattle.water.proofs.Unique.{one_distance}

at_most_or_more : (a b : ℕ) → (a ≤ b) ⊎ (b < a)
at_most_or_more a b = ⊎_elim (λ same. inl (omega arith)) (λ other. ⊎_elim (λ lt. inl (omega arith)) (λ gt. inr gt) other) (cases_order a b)

module _ (t : Terrain Point) (level : Point → ℤ) where
  not_lower : (x y : Point) → IsTrue (t.is_adjacent x y) → (HasLower t level x → ⊥) → int_lt (level y) (level x) ≡ false
  not_lower x y beside none = ⊎_elim (λ below. absurd (none (y, record { beside = beside; below = lt_true (level y) (level x) below }))) (λ not. not) (cases_Bool (int_lt (level y) (level x)))

  pub same_level : IsLawful t → (x y : Point) → IsTrue (t.is_adjacent x y) → (HasLower t level x → ⊥) → (HasLower t level y → ⊥) → level y ≡ level x
  same_level lawful x y beside none_x none_y =
      let there = lt_false (level y) (level x) (not_lower x y beside none_x) in
      let back = lt_false (level x) (level y) (not_lower y x (lawful.both_ways x y beside) none_y) in
      omega (arith, ints)

module _ (t : Terrain Point) (level : Point → ℤ) (is : IsStepped t) where
  module _ (A : Type 0) (place : A → Point) (beside : A → Dir → A) (Within : A → Type 0) where
    pub record AreMembers : Type 0 where
      pub inside : (a : A) → Within a → CrossesFlat t level (place a) 0 → ⊥
      pub there : (a : A) (d : Dir) → Within a → place (beside a d) ≡ step d (place a)
      pub closed : (a : A) (d : Dir) → Within a → IsTrue (t.is_adjacent (place a) (step d (place a))) → (CrossesFlat t level (step d (place a)) 0 → ⊥) → Within (beside a d)

    module _ (Reached : A → Type 0) where
      pub record Leads (a : A) (d : Dir) : Type 0 where
        pub adjacent : IsTrue (t.is_adjacent (place a) (step d (place a)))
        pub within : Within (beside a d)
        pub reached : Reached (beside a d)

      abbrev pub AreWaves : ℕ → Type 0
      AreWaves k = (a : A) → Within a → Reached a ↔ ((j : ℕ) × (CrossesFlat t level (place a) j × (j ≤ k)))

    module _ (members : AreMembers) where
      flat : (a : A) (d : Dir) → Within a → IsTrue (t.is_adjacent (place a) (step d (place a))) → Within (beside a d) → level (step d (place a)) ≡ level (place a)
      flat a d w adjacent wb = same_level t level is.lawful (place a) (step d (place a)) adjacent
          (λ low. members.inside a w (inl low))
          (λ low. members.inside (beside a d) wb (inl (subst (HasLower t level) (sym (members.there a d w)) low)))

      module _ (Reached : A → Type 0) (k : ℕ) (waves : AreWaves Reached k) where
        lead_crosses : (a : A) (d : Dir) → Within a → Leads Reached a d → (j : ℕ) × (CrossesFlat t level (step d (place a)) j × (j ≤ k))
        lead_crosses a d w leads =
            let found = (waves (beside a d) leads.within).0 leads.reached in
            (found.0, (subst (λ p. CrossesFlat t level p found.0) (members.there a d w) found.1.0, found.1.1))

        onward : (a : A) (d : Dir) (j : ℕ) → Within a → Leads Reached a d → CrossesFlat t level (step d (place a)) j → CrossesFlat t level (place a) (suc j)
        onward a d j w leads crosses = (step d (place a), (leads.adjacent, flat a d w leads.adjacent leads.within, crosses))

        -- a point next to the waves that is in none of them
        module _ (a : A) (w : Within a) (new : Reached a → ⊥) where
          beyond : (j : ℕ) → CrossesFlat t level (place a) j → k < j
          beyond j crosses = ⊎_elim (λ small. absurd (new ((waves a w).1 (j, (crosses, small))))) (λ large. large) (at_most_or_more j k)

          lead_distance : (d : Dir) → Leads Reached a d → IsFlatDistance t level (step d (place a)) k
          lead_distance d leads =
              let found = lead_crosses a d w leads in
              let same : found.0 ≡ k = omega (arith, beyond (suc found.0) (onward a d found.0 w leads found.1.0), found.1.1) in
              record {
                crosses = subst (CrossesFlat t level (step d (place a))) same found.1.0;
                least = λ j crosses. omega (arith, beyond (suc j) (onward a d j w leads crosses));
              }

          pub next : (d : Dir) → Leads Reached a d → IsFlatDistance t level (place a) (suc k)
          next d leads = record { crosses = onward a d k w leads (lead_distance d leads).crosses; least = λ j crosses. omega (arith, beyond j crosses) }

          pub nearer : (d : Dir) → Leads Reached a d → IsNearer t level (place a) (step d (place a))
          nearer d leads = record { beside = leads.adjacent; same_level = flat a d w leads.adjacent leads.within; nearer = (k, (lead_distance d leads, next d leads)) }

          pub leads_if : (d e : Dir) → 1 ≤ k → Leads Reached a d → IsNearer t level (place a) (step e (place a)) → Leads Reached a e
          leads_if d e some leads near =
              let j = near.nearer.0 in
              let same : suc j ≡ suc k = one_distance t level (place a) (suc j) (suc k) near.nearer.1.1 (next d leads) in
              let wb = members.closed a e w near.beside (λ end. absurd (omega (arith, near.nearer.1.0.least 0 end))) in
              record {
                adjacent = near.beside;
                within = wb;
                reached = (waves (beside a e) wb).1 (j, (subst (λ p. CrossesFlat t level p j) (sym (members.there a e w)) near.nearer.1.0.crosses, omega arith));
              }

          -- the first step to the waves is the direction
          pub direction : (d : Dir) → 1 ≤ k → Leads Reached a d → ((e : Dir) → Leads Reached a e → order_of d ≤ order_of e) → IsDirection t level (place a) (Some d)
          direction d some leads first = inr (
            (λ low. members.inside a w (inl low)),
            (not_out, record { nearer = nearer d leads; first = λ e near. first e (leads_if d e some leads near) }),
          )
            where
              not_out : IsFalse (t.is_outlet (place a))
              not_out = ⊎_elim (λ out. absurd (members.inside a w (inr out))) (λ not. not) (cases_Bool (t.is_outlet (place a)))

        -- a place from which the flat can be crossed in at most k + 1 steps is reached or next to a reached one
        arrives : (a : A) → Within a → 1 ≤ k → (j : ℕ) → CrossesFlat t level (place a) j → j ≤ suc k → Reached a ⊎ ((d : Dir) × Leads Reached a d)
        arrives a w some zero crosses le = absurd (members.inside a w crosses)
        arrives a w some (suc j) crosses le = ⊎_elim
            (λ end. inl ((waves a w).1 (1, ((crosses.0, (crosses.1.0, crosses.1.1, end)), some))))
            (λ inside.
            let way = is.steps (place a) crosses.0 crosses.1.0 in
            let adjacent = subst (λ y. IsTrue (t.is_adjacent (place a) y)) way.1 crosses.1.0 in
            let wb = members.closed a way.0 w adjacent (subst (λ y. CrossesFlat t level y 0 → ⊥) way.1 inside) in
            inr (
              way.0,
              record {
                adjacent = adjacent;
                within = wb;
                reached = (waves (beside a way.0) wb).1 (j, (subst (λ p. CrossesFlat t level p j) (way.1 ∙ sym (members.there a way.0 w)) crosses.1.2, omega arith));
              },
            ))
            (end_or_inside t level is crosses.0)

        pub grown : (New : A → Type 0) → 1 ≤ k → ((a : A) → Within a → New a ↔ (Reached a ⊎ ((d : Dir) × Leads Reached a d))) → AreWaves New (suc k)
        grown New some by a w = (
          λ new. ⊎_elim
              (λ old. let found = (waves a w).0 old in (found.0, (found.1.0, omega (arith, found.1.1))))
              (λ lead. let found = lead_crosses a lead.0 w lead.1 in (suc found.0, (onward a lead.0 found.0 w lead.1 found.1.0, omega (arith, found.1.1))))
              ((by a w).0 new),
          λ found. (by a w).1 (arrives a w some found.0 found.1.0 found.1.1),
        )

        pub settled : 1 ≤ k → ((a : A) (d : Dir) → Within a → Leads Reached a d → Reached a) → (j : ℕ) (a : A) → Within a → CrossesFlat t level (place a) j → Reached a
        settled some still zero a w crosses = absurd (members.inside a w crosses)
        settled some still (suc j) a w crosses = ⊎_elim
            (λ end. (waves a w).1 (1, ((crosses.0, (crosses.1.0, crosses.1.1, end)), some)))
            (λ inside.
            let way = is.steps (place a) crosses.0 crosses.1.0 in
            let adjacent = subst (λ y. IsTrue (t.is_adjacent (place a) y)) way.1 crosses.1.0 in
            let wb = members.closed a way.0 w adjacent (subst (λ y. CrossesFlat t level y 0 → ⊥) way.1 inside) in
            still a way.0 w (record {
              adjacent = adjacent;
              within = wb;
              reached = settled some still j (beside a way.0) wb (subst (λ p. CrossesFlat t level p j) (way.1 ∙ sym (members.there a way.0 w)) crosses.1.2);
            }))
            (end_or_inside t level is crosses.0)
