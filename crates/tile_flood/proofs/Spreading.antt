-- The steps of a flood of a whole block. It is a mending in which no point is suspect and no level is lowered (after the
-- correctness argument of Barnes, Lehman and Mulla 2014).
use Rattle.std.proofs.Common.{rules}
use Rattle.tile_flood.proofs.Prelude.{AreCarried, Decides-int_eq, IsFlooding, IsIn, IsJoined, IsLabelling, IsOwnLabel, IsSeed, IsSeeding, IsSpreading, IsTaken, IsTrue, List, NO_LABEL, Names, Queue, SFits, WaitStill, Waits, ℕ, ℤ, [], ap, arith, bare_block, block_is_lawful, block_of, cases_eq, cases_lt, cond, false, get_or, get_or-set_same, inl, inr, int_eq, int_max, is_exit, is_linked, is_marked, is_solid, le-max_left, length, length-set, ne_eqb, not, not-true, of_z, refl, set, slice_index, subst, sum_by-set, sym, to_z, true≢false, void, w16, ≤ℤ_same, ≤ℤ_trans, ◌*◌, ◌+◌, ◌<◌, ◌∙◌, ◌≡◌, ◌≢◌, ◌≤ℤ◌, ◌≤◌, ◌⊎◌}
use Rattle.tile_flood.specs.Flooding.{unmarked, lack, AreMarkedStill, IsNear}
use Rattle.tile_flood.specs.Spreading.{no_suspects, HaveLevels}
use Rattle.tile_flood.proofs.Buckets.{none_in}
use Rattle.labelling.proofs.Squares.{rim_is_exit, test_if, linked_parts, linked_from, solid_height, solid_below}
use Rattle.tile_flood.proofs.Dependence.{max_mono, beside_back}
use Rattle.tile_flood.proofs.Held.{level_else, label_else, marked_else, seed_anew}
use Rattle.tile_flood.proofs.Steps.{unmarked_void, in_still, taken_in, mending_as, mark_state, mended, at_most_as, max_second}

-- the point y, which has no level, gets this one and waits at it
module _ (levels : List ℤ) (labels : List ℕ) (queue queue' : Queue) (y : ℕ) (v : ℤ) (a : ℕ) (inside : y < length levels) (off : is_marked levels y ≡ false) (full : v ≢ void)
    (only : (l : ℤ) (e : ℕ) → Waits queue' l e → ((l ≡ v) × (e ≡ y)) ⊎ Waits queue l e) where
  at : get_or (set levels y v) y void ≡ v
  at = get_or-set_same levels y v void inside

  now : IsTrue (is_marked (set levels y v) y)
  now = test_if (get_or (set levels y v) y void) (subst (λ l. l ≢ void) (sym at) full)

  -- a point with a level is another point
  apart : (e : ℕ) → IsTrue (is_marked levels e) → e ≢ y
  apart e on same = true≢false (sym on ∙ (ap (is_marked levels) same ∙ off))

  waiting_on : HaveLevels levels queue → HaveLevels (set levels y v) queue'
  waiting_on waiting l e w = elim (only l e w) [
    | inl new ↦ (subst (λ x. IsTrue (is_marked (set levels y v) x)) (sym new.1) now, ap (λ x. get_or (set levels y v) x void) new.1 ∙ (at ∙ sym new.0))
    | inr old ↦
        let was = waiting l e old in
        (marked_else levels labels y v a e (apart e was.0) ∙ was.0, level_else levels labels y v a e (apart e was.0) ∙ was.1)
  ]

  -- the number of points without a level falls by one
  counted : unmarked (set levels y v) + 1 ≡ unmarked levels
  counted =
      let total : unmarked (set levels y v) + lack (get_or levels y void) ≡ unmarked levels + lack v = sum_by-set lack levels y v void inside in
      let old : lack (get_or levels y void) ≡ 1 = ap (λ b. cond b 1 0) ((Decides-int_eq (get_or levels y void) void).1 (unmarked_void levels y off)) in
      let new : lack v ≡ 0 = ap (λ b. cond b 1 0) (not-true (int_eq v void) (test_if v full)) in
      omega arith

-- an unmarked outlet is marked at its height, with its own label
pub seeded : (n : ℕ) (heights : List ℤ) (sinks : List ℕ) (levels levels' : List ℤ) (labels labels' : List ℕ) (queue queue' : Queue) (k : ℕ) (v : ℤ) (label : ℕ) →
    IsSeeding (block_of n heights sinks) levels labels queue k → IsTrue (is_exit (block_of n heights sinks) k) → IsOwnLabel (block_of n heights sinks) k label →
    v ≡ get_or heights k void → levels' ≡ set levels k v → labels' ≡ set labels k label → IsJoined queue queue' v k → IsSeeding (block_of n heights sinks) levels' labels' queue' (k + 1)
seeded n heights sinks levels levels' labels labels' queue queue' k v label s exit own is wrote wrote_label joined =
    let solid = (block_is_lawful (block_of n heights sinks)).outlet_ground k exit in
    let full : v ≢ void = λ none. solid_height n heights k solid (sym is ∙ none) in
    let in_levels : k < length levels = subst (λ m. k < m) (sym s.levels_whole) (solid_below n heights k solid) in
    let at_label : slice_index (set labels k label) k ≡ label = get_or-set_same labels k label 0 (subst (λ m. k < m) (sym s.labels_whole) (solid_below n heights k solid)) in
    let off = s.fresh k (omega arith) in
    let at_level = at levels labels queue queue' k v label in_levels off full joined.only in
    let on_now = now levels labels queue queue' k v label in_levels off full joined.only in
    let here : IsSeed (block_of n heights sinks) (set levels k v) (set labels k label) k = record {
      exit = exit;
      level = at_level ∙ is;
      names = subst (λ a. Names (block_of n heights sinks) a k) (sym at_label) own.names;
      inner_outlet = λ out. at_label ∙ own.inner_outlet out;
    } in
    subst (λ ls. IsSeeding (block_of n heights sinks) ls labels' queue' (k + 1)) (sym wrote)
    (subst (λ bs. IsSeeding (block_of n heights sinks) (set levels k v) bs queue' (k + 1)) (sym wrote_label) (record {
      levels_whole = length-set levels k v ∙ s.levels_whole;
      labels_whole = length-set labels k label ∙ s.labels_whole;
      unlabelled = λ e below off_e. elim (cases_eq e k) [
        | inl same ↦ absurd (true≢false (sym on_now ∙ (ap (is_marked (set levels k v)) (sym same) ∙ off_e)))
        | inr other ↦ label_else levels labels k v label e other ∙ s.unlabelled e below (sym (marked_else levels labels k v label e other) ∙ off_e)
      ];
      seeds = λ e on. elim (cases_eq e k) [
        | inl same ↦ subst (λ z. IsSeed (block_of n heights sinks) (set levels k v) (set labels k label) z × Waits queue' (get_or (set levels k v) z void) z) (sym same)
            (here, subst (λ l. Waits queue' l k) (sym at_level) joined.waits)
        | inr other ↦
            let was = s.seeds e (sym (marked_else levels labels k v label e other) ∙ on) in (
              seed_anew n heights heights sinks levels labels (λ _. ⊥) (λ _. ⊥) k v label (λ z. refl) (λ z apart. refl) e other was.0,
              in_still levels labels k v label queue queue' joined.others e other was.1,
            )
      ];
      outlets = λ e below out. elim (cases_eq e k) [
        | inl same ↦ subst (λ z. IsTrue (is_marked (set levels k v) z)) (sym same) on_now
        | inr other ↦ marked_else levels labels k v label e other ∙ s.outlets e (omega arith) out
      ];
      fresh = λ e above. let other : e ≢ k = omega arith in marked_else levels labels k v label e other ∙ s.fresh e (omega arith);
      waiting = waiting_on levels labels queue queue' k v label in_levels off full joined.only s.waiting;
    }))

-- seeding passes points that aren't outlets without marking any
pub seeds_passed : (n : ℕ) (heights : List ℤ) (sinks : List ℕ) (levels : List ℤ) (labels : List ℕ) (queue : Queue) (k l : ℕ) → IsSeeding (block_of n heights sinks) levels labels queue k → k ≤ l →
    ((e : ℕ) → k ≤ e → e < l → is_exit (block_of n heights sinks) e ≡ false) → IsSeeding (block_of n heights sinks) levels labels queue l
seeds_passed n heights sinks levels labels queue k l s le none = record {
  levels_whole = s.levels_whole;
  labels_whole = s.labels_whole;
  unlabelled = s.unlabelled;
  seeds = s.seeds;
  outlets = λ e below exit. elim (cases_lt e k) [
    | inl before ↦ s.outlets e before exit
    | inr from ↦ absurd (true≢false (sym exit ∙ none e from below))
  ];
  fresh = λ e above. s.fresh e (omega arith);
  waiting = s.waiting;
}

-- before seeding no point is marked
pub seeding_start : (n : ℕ) (heights : List ℤ) (sinks : List ℕ) (levels : List ℤ) (labels : List ℕ) (queue : Queue) → length levels ≡ n * n → length labels ≡ n * n →
    ((e : ℕ) → get_or levels e void ≡ void) → ((e : ℕ) → e < n * n → slice_index labels e ≡ NO_LABEL) → ((l : ℤ) (e : ℕ) → Waits queue l e → ⊥) → IsSeeding (block_of n heights sinks) levels labels queue 0
seeding_start n heights sinks levels labels queue levels_whole labels_whole none no_label nobody = record {
  levels_whole = levels_whole;
  labels_whole = labels_whole;
  unlabelled = λ e below _. no_label e below;
  seeds = λ e on. absurd (true≢false (sym on ∙ fresh e));
  outlets = λ e low out. absurd (omega arith);
  fresh = λ e _. fresh e;
  waiting = λ l e w. absurd (nobody l e w);
}
  where
    fresh : (e : ℕ) → is_marked levels e ≡ false
    fresh e = ap not ((Decides-int_eq (get_or levels e void) void).1 (none e))

module _ (n : ℕ) (heights : List ℤ) (sinks : List ℕ) (levels : List ℤ) (labels : List ℕ) where
  -- after all outlets are marked, they all wait, and the flood can start
  pub seeding_end : (queue : Queue) → IsSeeding (block_of n heights sinks) levels labels queue (n * n) → IsFlooding (block_of n heights sinks) levels labels queue
  seeding_end queue s = record {
    state = record {
      levels_whole = s.levels_whole;
      labels_whole = s.labels_whole;
      ground = λ e on. ground e (s.seeds e on).0.exit;
      unlabelled = s.unlabelled;
      exits = λ e out. (s.seeds e (s.outlets e (solid_below n heights e (ground e out)) out)).0;
      held = λ e on. ([], inr (s.seeds e on).0);
      links = λ x y on link. inl (inl (s.seeds x on).1);
    };
    waiting = s.waiting;
    capped = λ l x e w on. subst (λ v. v ≤ℤ int_max (get_or heights e void) l) (sym (s.seeds e on).0.level) (le-max_left (get_or heights e void) l);
  }
    where
      ground : (e : ℕ) → IsTrue (is_exit (block_of n heights sinks) e) → IsTrue (is_solid (block_of n heights sinks) e)
      ground = (block_is_lawful (block_of n heights sinks)).outlet_ground

  -- a point of the lowest level is removed from the queue and spreads
  pub spread_begin : (queue queue' : Queue) (Frontier : ℕ → Type 0) (c : ℕ) (low : ℤ) → IsFlooding (block_of n heights sinks) levels labels queue → IsTaken queue queue' low c → Frontier c → ((e : ℕ) → Frontier e → e ≡ c) →
      IsSpreading (block_of n heights sinks) levels labels queue' Frontier low (slice_index labels c)
  spread_begin queue queue' Frontier c low s taken here only =
      let on = s.waiting low c taken.waited in
      record {
        state = mending_as n heights sinks levels labels (IsIn queue levels) (IsIn no_suspects levels) (λ e. IsIn queue' levels e ⊎ Frontier e) (IsIn no_suspects levels) s.state
            (λ e on is. is) (λ x y on link w. inl (elim (taken_in levels queue queue' c low taken x w) [ inl waits ↦ inl waits | inr front ↦ inr (subst Frontier (sym front.0) here) ]));
        frontier = λ e front. subst (λ z. IsTrue (is_marked levels z) × ((get_or levels z void ≡ low) × (slice_index labels z ≡ slice_index labels c))) (sym (only e front)) (on.0, (on.1, refl));
        waiting = λ l e w. s.waiting l e (taken.only l e w);
        lowest = λ l e w. taken.lowest l e (taken.only l e w);
        capped = λ e on. s.capped low c e taken.waited on;
      }

  -- when no point waits any more, the levels and labels are a labelling
  module _ (queue : Queue) (some : 0 < n) (s : IsFlooding (block_of n heights sinks) levels labels queue) (nobody : (l : ℤ) (e : ℕ) → Waits queue l e → ⊥) where
    none_suspect : (e : ℕ) → IsIn no_suspects levels e → ⊥
    none_suspect e w = none_in e [] refl w.1.1

    pub flooding_end : IsLabelling (block_of n heights sinks) levels labels × AreCarried (block_of n heights sinks) levels labels
    flooding_end = mended n heights sinks levels labels (IsIn queue levels) (IsIn no_suspects levels) (λ _. ⊥) (λ _. ⊥) s.state some (λ e w. nobody (get_or levels e void) e w) none_suspect

  -- while the points in `Frontier` spread
  module _ (queue : Queue) (Frontier : ℕ → Type 0) (low : ℤ) (label : ℕ) (s : IsSpreading (block_of n heights sinks) levels labels queue Frontier low label) where
    -- the set of spreading points may change; a point whose neighbours are all marked may leave it
    pub spread_on : (Frontier' : ℕ → Type 0) → ((e : ℕ) → Frontier' e → Frontier e) → ((e : ℕ) → Frontier e → Frontier' e ⊎ ((y : ℕ) → IsTrue (is_linked (bare_block n heights) e y) → IsTrue (is_marked levels y))) →
        IsSpreading (block_of n heights sinks) levels labels queue Frontier' low label
    spread_on Frontier' only still = record {
      state = mending_as n heights sinks levels labels (λ e. IsIn queue levels e ⊎ Frontier e) (IsIn no_suspects levels) (λ e. IsIn queue levels e ⊎ Frontier' e) (IsIn no_suspects levels) s.state (λ e on is. is)
          (λ x y on link w. elim w [
            | inl waits ↦ inl (inl waits)
            | inr front ↦ elim (still x front) [
              | inl front' ↦ inl (inr front')
              | inr all ↦
                  let on_y = all y link in
                  inr (on_y, subst (λ m. get_or levels y void ≤ℤ int_max (get_or heights y void) m) (sym (s.frontier x front).1.0) (s.capped y on_y))
            ]
          ]);
      frontier = λ e front. s.frontier e (only e front);
      waiting = s.waiting;
      lowest = s.lowest;
      capped = s.capped;
    }

    -- when no point spreads any more, the flood goes on from its queue
    pub spread_end : ((e : ℕ) → Frontier e → ⊥) → IsFlooding (block_of n heights sinks) levels labels queue
    spread_end none = record {
      state = mending_as n heights sinks levels labels (λ e. IsIn queue levels e ⊎ Frontier e) (IsIn no_suspects levels) (IsIn queue levels) (IsIn no_suspects levels) s.state (λ e on is. is)
          (λ x y on link w. elim w [ inl waits ↦ inl waits | inr front ↦ absurd (none x front) ]);
      waiting = s.waiting;
      capped = λ l x e w on. ≤ℤ_trans (get_or levels e void) (int_max (get_or heights e void) low) (int_max (get_or heights e void) l) (s.capped e on)
          (max_mono (get_or heights e void) low (get_or heights e void) l (≤ℤ_same (get_or heights e void)) (s.lowest l x w));
    }

    pub spreader_solid : (c : ℕ) → Frontier c → IsTrue (is_solid (bare_block n heights) c)
    spreader_solid c from = s.state.ground c (s.frontier c from).0

    pub spreader_below : (c : ℕ) → Frontier c → c < n * n
    spreader_below c from = solid_below n heights c (spreader_solid c from)

    -- outlets have their levels
    pub outlet_marked : (e : ℕ) → IsTrue (is_exit (block_of n heights sinks) e) → IsTrue (is_marked levels e)
    outlet_marked e out = test_if (get_or levels e void) (λ none. solid_height n heights e ((block_is_lawful (block_of n heights sinks)).outlet_ground e out) (sym (s.state.exits e out).level ∙ none))

    -- a ground point without a level that is near a spreading point is linked to it, since all of the rim's ground is marked
    pub near_linked : (c e : ℕ) → Frontier c → IsNear n c e → IsTrue (is_solid (bare_block n heights) e) → is_marked levels e ≡ false → IsTrue (is_linked (bare_block n heights) c e)
    near_linked c e from near solid off = elim near [
      | inl rim ↦ absurd (true≢false (sym (outlet_marked e (rim_is_exit n heights sinks e solid rim)) ∙ off))
      | inr beside ↦ linked_from n heights c e (record {
        from = spreader_solid c from;
        to = solid;
        apart = ap not (ne_eqb c e (λ h. true≢false (sym (s.frontier c from).0 ∙ (ap (is_marked levels) h ∙ off))));
        beside = beside;
      })
    ]

-- the unmarked point e gets its level and label from a spreading neighbour, and waits or spreads too
module _ (n : ℕ) (heights : List ℤ) (sinks : List ℕ) (levels : List ℤ) (labels : List ℕ) (queue queue' : Queue) (Frontier Frontier' : ℕ → Type 0) (low : ℤ) (label c e : ℕ) (v : ℤ)
    (s : IsSpreading (block_of n heights sinks) levels labels queue Frontier low label) (from : Frontier c) (near : IsNear n c e) (solid : IsTrue (is_solid (bare_block n heights) e)) (off : is_marked levels e ≡ false)
    (is : v ≡ int_max (get_or heights e void) low) (full : v ≢ void) (others : WaitStill queue queue') (only : (l : ℤ) (f : ℕ) → Waits queue' l f → ((l ≡ v) × (f ≡ e)) ⊎ Waits queue l f)
    (keep : (z : ℕ) → Frontier z → Frontier' z) (new : (z : ℕ) → Frontier' z → ((z ≡ e) × (v ≡ low)) ⊎ Frontier z) (waits : Waits queue' v e ⊎ Frontier' e) where
  link : IsTrue (is_linked (bare_block n heights) c e)
  link = near_linked n heights sinks levels labels queue Frontier low label s c e from near solid off

  inside : e < length levels
  inside = subst (λ k. e < k) (sym s.state.levels_whole) (solid_below n heights e solid)

  inside_labels : e < length labels
  inside_labels = subst (λ k. e < k) (sym s.state.labels_whole) (solid_below n heights e solid)

  at_e : get_or (set levels e v) e void ≡ v
  at_e = at levels labels queue queue' e v label inside off full only

  at_label : slice_index (set labels e label) e ≡ label
  at_label = get_or-set_same labels e label 0 inside_labels

  on_e : IsTrue (is_marked (set levels e v) e)
  on_e = now levels labels queue queue' e v label inside off full only

  other_than : (z : ℕ) → IsTrue (is_marked levels z) → z ≢ e
  other_than z on = apart levels labels queue queue' e v label inside off full only z on

  back : IsTrue (is_linked (block_of n heights sinks) e c)
  back = let l = linked_parts n heights c e link in linked_from n heights e c (record {
    from = l.to;
    to = l.from;
    apart = ap not (ne_eqb e c (λ same. other_than c (s.frontier c from).0 (sym same)));
    beside = beside_back n c e l.beside;
  })

  visited : IsSpreading (block_of n heights sinks) (set levels e v) (set labels e label) queue' Frontier' low label
  visited = record {
    state = mark_state n heights sinks levels labels (λ z. IsIn queue levels z ⊎ Frontier z) (IsIn no_suspects levels) (λ z. IsIn queue' (set levels e v) z ⊎ Frontier' z) (IsIn no_suspects (set levels e v)) s.state
        e c v label off full back (s.frontier c from).0 (is ∙ ap (int_max (get_or heights e void)) (sym (s.frontier c from).1.0)) (s.frontier c from).1.1
        (λ z other w. in_still levels labels e v label no_suspects no_suspects (λ _ _ w. w) z other w)
        (λ z other w. elim w [ inl in_queue ↦ inl (in_still levels labels e v label queue queue' others z other in_queue) | inr front ↦ inr (keep z front) ])
        (elim waits [ inl w ↦ inl (subst (λ l. Waits queue' l e) (sym at_e) w) | inr front ↦ inr front ]);
    frontier = λ z front. elim (new z front) [
      | inl fresh ↦ subst (λ t. IsTrue (is_marked (set levels e v) t) × ((get_or (set levels e v) t void ≡ low) × (slice_index (set labels e label) t ≡ label))) (sym fresh.0) (on_e, (at_e ∙ fresh.1, at_label))
      | inr old ↦
          let was = s.frontier z old in
          let other = other_than z was.0 in
          (marked_else levels labels e v label z other ∙ was.0, (level_else levels labels e v label z other ∙ was.1.0, label_else levels labels e v label z other ∙ was.1.1))
    ];
    waiting = waiting_on levels labels queue queue' e v label inside off full only s.waiting;
    lowest = λ m z w. elim (only m z w) [
      | inl fresh ↦ subst (λ t. low ≤ℤ t) (sym fresh.0) (max_second (get_or heights e void) low v is)
      | inr old ↦ s.lowest m z old
    ];
    capped = λ z on. elim (cases_eq z e) [
      | inl same ↦ subst (λ t. get_or (set levels e v) t void ≤ℤ int_max (get_or heights t void) low) (sym same) (at_most_as (get_or (set levels e v) e void) (int_max (get_or heights e void) low) (at_e ∙ is))
      | inr other ↦ subst (λ t. t ≤ℤ int_max (get_or heights z void) low) (sym (level_else levels labels e v label z other)) (s.capped z (sym (marked_else levels labels e v label z other) ∙ on))
    ];
  }

  pub visited_as : (levels' : List ℤ) (labels' : List ℕ) → levels' ≡ set levels e v → labels' ≡ set labels e label → IsSpreading (block_of n heights sinks) levels' labels' queue' Frontier' low label
  visited_as levels' labels' wrote wrote_label =
      subst (λ ls. IsSpreading (block_of n heights sinks) ls labels' queue' Frontier' low label) (sym wrote)
      (subst (λ bs. IsSpreading (block_of n heights sinks) (set levels e v) bs queue' Frontier' low label) (sym wrote_label) visited)

-- the effect of marking a point, whichever points spread
pub record IsMarkedNow (levels levels' : List ℤ) (e : ℕ) : Type 0 where
  pub marked : IsTrue (is_marked levels' e)
  pub still : AreMarkedStill levels levels'
  pub count : unmarked levels' + 1 ≡ unmarked levels

pub marked_now : (levels levels' : List ℤ) (labels : List ℕ) (e : ℕ) (v : ℤ) (label : ℕ) → e < length levels → is_marked levels e ≡ false → v ≢ void → levels' ≡ set levels e v → IsMarkedNow levels levels' e
marked_now levels levels' labels e v label inside off full wrote = subst (λ ls. IsMarkedNow levels ls e) (sym wrote) (record {
  marked = now levels labels no_suspects no_suspects e v label inside off full (λ _ _ w. inr w);
  still = λ z on. marked_else levels labels e v label z (apart levels labels no_suspects no_suspects e v label inside off full (λ _ _ w. inr w) z on) ∙ on;
  count = counted levels labels no_suspects no_suspects e v label inside off full (λ _ _ w. inr w);
})

pub passed_max : (r h low g : ℤ) → SFits w16 r → SFits w16 h → SFits w16 low → r ≡ int_max (to_z w16 (of_z w16 h)) (to_z w16 (of_z w16 low)) → h ≡ g →
    to_z w16 (of_z w16 r) ≡ int_max g low
passed_max r h low g fr fh fl is same = search rules
