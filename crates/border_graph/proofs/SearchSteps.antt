-- The steps of a bottleneck search from a start over links: the next visited node ends a least path (after the correctness
-- argument of Barnes, Lehman and Mulla 2014).
use Rattle.std.proofs.Common.{rules}
use Rattle.std.proofs.Common.{◌≡◌, ℕ, zero, suc, ◌+◌, ◌<◌, ◌≤◌, ◌⊎◌, inl, inr, ℤ, ◌≤ℤ◌, ◌<ℤ◌, true, false, IsTrue, List, [], ◌∷◌, length, get_or, refl, sym, ap, ◌∙◌, subst, arith, true≢false, Contains}
use Rattle.border_graph.proofs.Prelude.{AreAllEdges, AreEdges, AreRaised, Contains-get_or, Edge, Entry, IsAdded, IsEnd, IsJoinedLevel, IsNext, IsReachedBelow, IsWayBelow, NoneLeft, Settled, cases_Bool, cases_eq, cases_lt, get_or_default, int_max, ints, is_among, le-max_left, le-max_right, max-le, void, ≤ℤ_same, ≤ℤ_trans}
use Rattle.std.proofs.lemmas.Int.{clamps}
use Rattle.border_graph.proofs.Onward.{way_up, go_on}
use Rattle.border_graph.proofs.Forests.Next.{taken_still, taken_other}
use Rattle.border_graph.specs.Bottleneck.{raised, IsSettledBy, WaitsBelow, IsExpanded, IsOn, IsSearching}

-- each link has an opposite one, except links to the outlet node, from which no link leads
pub record IsTwoWay (L : ℕ → ℕ → ℤ → Type 0) : Type 0 where
  pub back : (x y : ℕ) (level : ℤ) → 0 < y → L x y level → L y x level
  pub last : (y : ℕ) (level : ℤ) → L 0 y level → ⊥

-- each path has an opposite one
pub way_back : (L : ℕ → ℕ → ℤ → Type 0) → IsTwoWay L → (start x : ℕ) (level : ℤ) (rest : List ℕ) → IsWayBelow L x level start rest → 0 < x → (back : List ℕ) × IsWayBelow L start level x back
way_back L two start x level [] way some = ([], sym way)
way_back L two start x level (y ∷ rest) way some =
    let further = way_back L two y x level rest way.1 some in
    go_on L y start level x further.0 (start ∷ []) further.1 ((way.0.0, (two.back start y way.0.0 (above y rest way.1) way.0.1.0, way.0.1.1)), refl)
  where
    above : (y : ℕ) (rest : List ℕ) → IsWayBelow L x level y rest → 0 < y
    above zero [] way = subst (λ v. 0 < v) (sym way) some
    above zero (z ∷ rest) way = absurd (two.last z way.0.0 way.0.1.0)
    above (suc y) rest way = omega arith

-- a node that the start reaches below the start's level has that level too
pub alike : (L : ℕ → ℕ → ℤ → Type 0) → IsTwoWay L → (start x : ℕ) (crest level : ℤ) → IsJoinedLevel L 0 start level → 0 < x → IsReachedBelow L start crest x → crest <ℤ level → IsJoinedLevel L 0 x level
alike L two start x crest level joined some first below = record {
  reached =
      let back = way_back L two start x crest first.0 first.1 some in
      go_on L start 0 level x back.0 joined.reached.0 (way_up L start crest level (lt-le crest level below) x back.0 back.1) joined.reached.1;
  least = λ lower rest way.
      let on = go_on L x 0 (int_max crest lower) start first.0 rest (way_up L x crest (int_max crest lower) (le-max_left crest lower) start first.0 first.1) (way_up L 0 lower (int_max crest lower) (le-max_right crest lower) x rest way) in
      under crest lower level below (joined.least (int_max crest lower) on.0 on.1);
}
  where
    lt-le : (a b : ℤ) → a <ℤ b → a ≤ℤ b
    lt-le a b less = omega (arith, ints)

    under : (a b c : ℤ) → a <ℤ c → c ≤ℤ int_max a b → c ≤ℤ b
    under a b c less le = omega (arith, ints, clamps)

-- a node that the start reaches at the start's level has that level too, if no link from the node is lower
pub alike_at : (L : ℕ → ℕ → ℤ → Type 0) → IsTwoWay L → (start x : ℕ) (level : ℤ) → IsJoinedLevel L 0 start level → 0 < x → IsReachedBelow L start level x → ((y : ℕ) (l : ℤ) → L x y l → level ≤ℤ l) → IsJoinedLevel L 0 x level
alike_at L two start x level joined some first from = record {
  reached =
      let back = way_back L two start x level first.0 first.1 some in
      go_on L start 0 level x back.0 joined.reached.0 back.1 joined.reached.1;
  least = λ lower rest way. over lower rest way;
}
  where
    over : (lower : ℤ) (rest : List ℕ) → IsWayBelow L 0 lower x rest → level ≤ℤ lower
    over lower [] way = let here = some in absurd (omega (arith, way))
    over lower (y ∷ rest) way = ≤ℤ_trans level way.0.0 lower (from y way.0.0 way.0.1.0) way.0.1.1

-- an entry's node is settled, with all its links
pub settled_by : (L : ℕ → ℕ → ℤ → Type 0) (start : ℕ) (entry : Entry) (edges : List Edge) (one : Settled) → AreAllEdges L entry.node edges → IsSettledBy entry edges one → 0 < entry.node → IsReachedBelow L start entry.crest entry.node
    → (0 < one.node) × (IsReachedBelow L start one.crest one.node × (IsTrue one.has_no_lower → (y : ℕ) (level : ℤ) → L one.node y level → one.crest ≤ℤ level))
settled_by L start entry edges one all by some reached = search rules

waits_up : (frontier : List Entry) (x : ℕ) (low high : ℤ) → low ≤ℤ high → WaitsBelow frontier x low → WaitsBelow frontier x high
waits_up frontier x low high le w = record { entry = w.entry; waits = w.waits; node = w.node; low = ≤ℤ_trans w.entry.crest low high w.low le }

max_up : (a b c : ℤ) → a ≤ℤ b → int_max a c ≤ℤ int_max b c
max_up a b c le = max-le a c (int_max b c) (≤ℤ_trans a b (int_max b c) le (le-max_left b c)) (le-max_right b c)

module _ (L : ℕ → ℕ → ℤ → Type 0) (Exact : Type 0) (start : ℕ) where
  module _ (visited : List ℕ) (frontier : List Entry) (s : IsSearching L start visited frontier Exact) where
    -- the frontier has an entry for a node that isn't visited
    record Enters (level : ℤ) : Type 0 where
      pub node : ℕ
      pub free : is_among visited node ≡ false
      pub waits : WaitsBelow frontier node level

    here_enters : (level : ℤ) (x : ℕ) → is_among visited x ≡ false → IsOn L start visited frontier x level → Enters level
    here_enters level x free (inl full) = absurd (true≢false (sym full ∙ free))
    here_enters level x free (inr w) = record { node = x; free = free; waits = w }

    on_up : (low high : ℤ) → low ≤ℤ high → (x : ℕ) → IsOn L start visited frontier x low → IsOn L start visited frontier x high
    on_up low high le x (inl full) = inl full
    on_up low high le x (inr w) = inr (waits_up frontier x low high le w)

    -- a path from a followed node leads to a frontier entry whose node isn't visited
    enters : (level : ℤ) → s.floor ≤ℤ level → (x : ℕ) (rest : List ℕ) → IsOn L start visited frontier x level → IsWayBelow L 0 level x rest → Enters level
    enters level low x [] on way = here_enters level x (ap (is_among visited) way ∙ s.outlet) on
    enters level low x (y ∷ rest) on way = elim (cases_Bool (is_among visited x)) [
      | inr free ↦ here_enters level x free on
      | inl full ↦ enters level low y rest (on_up (int_max s.floor way.0.0) level (max-le s.floor way.0.0 level low way.0.1.1) y (s.border x full y way.0.0 way.0.1.0)) way.1
    ]

    -- a path from the start leads to a frontier entry whose node isn't visited
    onto : Exact → (level : ℤ) (rest : List ℕ) → IsWayBelow L 0 level start rest → Enters level
    onto exact level rest way = let low = s.below exact level rest way in enters level low start rest (on_up s.floor level low start s.first) way

    -- if all frontier entries have visited nodes, no path leads out: its last node would be visited, but the outlet node
    -- isn't
    pub no_way : NoneLeft frontier visited → (level : ℤ) (rest : List ℕ) → IsWayBelow L 0 level start rest → ⊥
    no_way none level rest way = along start rest (seen start s.floor s.first) way
      where
        seen : (x : ℕ) (low : ℤ) → IsOn L start visited frontier x low → is_among visited x ≡ true
        seen x low (inl full) = full
        seen x low (inr w) = subst (λ y. is_among visited y ≡ true) w.node (none w.entry w.waits)

        along : (x : ℕ) (rest : List ℕ) → is_among visited x ≡ true → IsWayBelow L 0 level x rest → ⊥
        along x [] full way = true≢false (sym full ∙ (ap (is_among visited) way ∙ s.outlet))
        along x (y ∷ rest) full way = along y rest (seen y (int_max s.floor way.0.0) (s.border x full y way.0.0 way.0.1.0)) way.1

    module _ (frontier' : List Entry) (visited' : List ℕ) (entry : Entry) (n : IsNext frontier visited frontier' visited' entry) where
      -- no path is lower than the node visited next
      lowest_way : Exact → (level : ℤ) (rest : List ℕ) → IsWayBelow L 0 level start rest → entry.crest ≤ℤ level
      lowest_way exact level rest way =
          let e = onto exact level rest way in
          ≤ℤ_trans entry.crest e.waits.entry.crest level (n.lowest e.waits.entry e.waits.waits (subst (λ x. is_among visited x ≡ false) (sym e.waits.node) e.free)) e.waits.low

      -- nodes visited before are reached at no more than its level
      pub reached_below : Exact → (x : ℕ) → is_among visited x ≡ true → IsReachedBelow L start entry.crest x
      reached_below exact x full = let way = s.reached exact x full in (way.0, way_up L x s.floor entry.crest (s.above entry n.waited) start way.0 way.1)

      -- the entry's node ends a least path
      pub ended : Exact → IsTwoWay L → (level : ℤ) → IsEnd L entry level → IsJoinedLevel L 0 start level
      ended exact two level e = record {
        reached = let first = s.ways exact entry n.waited in go_on L entry.node 0 level start first.0 e.reached.0 (way_up L entry.node entry.crest level e.high start first.0 first.1) e.reached.1;
        least = λ lower rest way. let low = lowest_way exact lower rest way in let on = from_end lower rest low way in e.least lower on.0 low on.1;
      }
        where
          from_end : (lower : ℤ) (rest : List ℕ) → entry.crest ≤ℤ lower → IsWayBelow L 0 lower start rest → (all : List ℕ) × IsWayBelow L 0 lower entry.node all
          from_end lower rest low way = elim (cases_eq entry.node 0) [
            | inl out ↦ ([], out)
            | inr other ↦
                let first = s.ways exact entry n.waited in
                let back = way_back L two start entry.node entry.crest first.0 first.1 (let o = other in omega arith) in
                go_on L start 0 lower entry.node back.0 rest (way_up L start entry.crest lower low entry.node back.0 back.1) way
          ]

      -- the visited node is expanded
      module _ (frontier'' : List Entry) (f : IsExpanded L Exact visited' frontier' frontier'' entry) where
        outlet_free : is_among visited' 0 ≡ false
        outlet_free = taken_other visited visited' entry.node 0 n.takes (λ same. let some = f.inner in absurd (omega arith)) ∙ s.outlet

        keep : (x : ℕ) (low high : ℤ) → low ≤ℤ high → IsOn L start visited frontier x low → IsOn L start visited' frontier'' x high
        keep x low high le (inl full) = inl (taken_still visited visited' entry.node x n.takes full)
        keep x low high le (inr w) = elim (cases_Bool (is_among visited' x)) [
          | inl full ↦ inl full
          | inr free ↦ inr (record {
            entry = w.entry;
            waits = f.others w.entry (n.others w.entry w.waits (subst (λ y. is_among visited' y ≡ false) (sym w.node) free));
            node = w.node;
            low = ≤ℤ_trans w.entry.crest low high w.low le;
          })
        ]

        higher : s.floor ≤ℤ entry.crest
        higher = s.above entry n.waited

        way_to : Exact → (l : Entry) → Contains frontier' l ⊎ ((entry.crest ≤ℤ l.crest) × (Exact → (rest : List ℕ) × IsWayBelow L l.node l.crest entry.node rest)) → (rest : List ℕ) × IsWayBelow L l.node l.crest start rest
        way_to exact l (inl old) = s.ways exact l (n.only l old)
        way_to exact l (inr more) =
            let first = s.ways exact entry n.waited in
            let on = more.1 exact in
            go_on L entry.node l.node l.crest start first.0 on.0 (way_up L entry.node entry.crest l.crest more.0 start first.0 first.1) on.1

        leads_on : (x : ℕ) → is_among visited' x ≡ true → (y : ℕ) (level : ℤ) → L x y level → IsOn L start visited' frontier'' y (int_max entry.crest level)
        leads_on x full y level link = elim (cases_eq x entry.node) [
          | inl same ↦ f.left y level (subst (λ v. L v y level) same link)
          | inr apart ↦ keep y (int_max s.floor level) (int_max entry.crest level) (max_up s.floor entry.crest level higher)
              (s.border x (sym (taken_other visited visited' entry.node x n.takes apart) ∙ full) y level link)
        ]

        reached_on : Exact → (x : ℕ) → is_among visited' x ≡ true → IsReachedBelow L start entry.crest x
        reached_on exact x full = elim (cases_eq x entry.node) [
          | inl same ↦ subst (λ v. IsReachedBelow L start entry.crest v) (sym same) (s.ways exact entry n.waited)
          | inr apart ↦ reached_below exact x (sym (taken_other visited visited' entry.node x n.takes apart) ∙ full)
        ]

        pub risen : IsSearching L start visited' frontier'' Exact
        risen = record {
          floor = entry.crest;
          first = keep start s.floor entry.crest higher s.first;
          outlet = outlet_free;
          below = lowest_way;
          above = λ l has. elim (f.only l has) [ inl old ↦ n.above l old | inr more ↦ more.0 ];
          ways = λ exact l has. way_to exact l (f.only l has);
          reached = reached_on;
          border = leads_on;
        }

  -- at first the frontier has only the start
  pub rising_first : (Exact → (x y : ℕ) (level : ℤ) → L x y level → void ≤ℤ level) → 0 < start → (visited : List ℕ) → ((x : ℕ) → is_among visited x ≡ false) → (frontier : List Entry) (entry : Entry) → IsAdded [] frontier entry →
      entry.crest ≡ void → entry.node ≡ start → IsSearching L start visited frontier Exact
  rising_first fit some visited none frontier entry a crest node = record {
    floor = void;
    first = inr (record { entry = entry; waits = a.waits; node = node; low = subst (λ v. v ≤ℤ void) (sym crest) (≤ℤ_same void) });
    outlet = none 0;
    below = over_void;
    above = λ l has. subst (λ (v : Entry). void ≤ℤ v.crest) (sym (alone l has)) (subst (λ v. void ≤ℤ v) (sym crest) (≤ℤ_same void));
    ways = λ exact l has. ([], sym (ap (λ (v : Entry). v.node) (alone l has) ∙ node));
    reached = λ exact x full. absurd (true≢false (sym full ∙ none x));
    border = λ x full. absurd (true≢false (sym full ∙ none x));
  }
    where
      alone : (l : Entry) → Contains frontier l → l ≡ entry
      alone l has = elim (a.only l has) [ inl same ↦ same | inr old ↦ let h = old.1 in absurd (omega arith) ]

      over_void : Exact → (level : ℤ) (rest : List ℕ) → IsWayBelow L 0 level start rest → void ≤ℤ level
      over_void exact level [] way = absurd (omega arith)
      over_void exact level (y ∷ rest) way = ≤ℤ_trans void way.0.0 level (fit exact start y way.0.0 way.0.1.0) way.0.1.1

-- the search ends at the outlet node
pub end_at_outlet : (L : ℕ → ℕ → ℤ → Type 0) (entry : Entry) → entry.node ≡ 0 → IsEnd L entry entry.crest
end_at_outlet L entry out = record { high = ≤ℤ_same entry.crest; reached = ([], out); least = λ lower rest low way. low }

-- the search ends at a node with a known level
pub end_at_known : (L : ℕ → ℕ → ℤ → Type 0) (entry : Entry) (level : ℤ) → IsJoinedLevel L 0 entry.node level → IsEnd L entry (int_max entry.crest level)
end_at_known L entry level joined = record {
  high = le-max_left entry.crest level;
  reached = (joined.reached.0, way_up L 0 level (int_max entry.crest level) (le-max_right entry.crest level) entry.node joined.reached.0 joined.reached.1);
  least = λ lower rest low way. max-le entry.crest level lower low (joined.least lower rest way);
}

-- the frontier after all edges from a node are followed
pub followed_all : (L : ℕ → ℕ → ℤ → Type 0) (Exact : Type 0) (visited : List ℕ) (old new : List Entry) (entry : Entry) (found : List Edge) → 0 < entry.node → AreAllEdges L entry.node found → (Exact → AreEdges L entry.node found) → AreRaised found (length found) entry visited old new → IsExpanded L Exact visited old new entry
followed_all L Exact visited old new entry found inner all exactly r = record {
  inner = inner;
  others = r.others;
  only = λ l has. elim (r.only l has) [
    | inl before ↦ inl before
    | inr end ↦ inr (subst (λ (v : Entry). (entry.crest ≤ℤ v.crest) × (Exact → (rest : List ℕ) × IsWayBelow L v.node v.crest entry.node rest)) (sym end.1.1)
        (le-max_left entry.crest end.0.level, λ exact. (end.0.to ∷ [], ((end.0.level, ((exactly exact).each end.0 end.1.0, le-max_right entry.crest end.0.level)), refl))))
  ];
  left = λ y level link. waits y level (all y level link);
}
  where
    waits : (y : ℕ) (level : ℤ) → Contains found (record { level = level; to = y }) → (is_among visited y ≡ true) ⊎ WaitsBelow new y (int_max entry.crest level)
    waits y level has = elim (subst (λ (w : Edge). (is_among visited w.to ≡ true) ⊎ Contains new (raised entry w)) has.2 (r.waits has.0 (record { level = level; to = y }) has.1)) [
      | inl full ↦ inl full
      | inr still ↦ inr (record { entry = raised entry (record { level = level; to = y }); waits = still; node = refl; low = ≤ℤ_same (int_max entry.crest level) })
    ]

-- adding the entries for a node's edges, one by one
module _ (found : List Edge) (i : ℕ) (entry : Entry) (visited : List ℕ) (old mid : List Entry) (e way : Edge) (r : AreRaised found i entry visited old mid) (small : i < length found) (at : way ≡ get_or found i e) where
  this : (k : ℕ) (d : Edge) → k < i + 1 → i ≤ k → way ≡ get_or found k d
  this k d below later =
      let same : i ≡ k = omega arith in
      at ∙ (get_or_default found i e d small ∙ ap (λ j. get_or found j d) same)

  -- an edge to a visited node adds no entry to the frontier
  pub raised_none : is_among visited way.to ≡ true → AreRaised found (i + 1) entry visited old mid
  raised_none full = record {
    waits = λ k d below. elim (cases_lt k i) [
      | inl earlier ↦ r.waits k d earlier
      | inr later ↦ inl (subst (λ (w : Edge). is_among visited w.to ≡ true) (this k d below later) full)
    ];
    others = r.others;
    only = r.only;
  }

  -- an edge to an unvisited node adds its entry to the frontier
  pub raised_one : (new : List Entry) (next : Entry) → next ≡ raised entry way → IsAdded mid new next → AreRaised found (i + 1) entry visited old new
  raised_one new next is a = record {
    waits = λ k d below. elim (cases_lt k i) [
      | inl earlier ↦ before k d (r.waits k d earlier)
      | inr later ↦ inr (subst (λ (w : Edge). Contains new (raised entry w)) (this k d below later) (subst (Contains new) is a.waits))
    ];
    others = λ l has. a.others l (r.others l has);
    only = λ l has. elim (a.only l has) [
      | inl same ↦ inr (way, (subst (Contains found) (sym at) (Contains-get_or found i e small), same ∙ is))
      | inr held ↦ r.only l held
    ];
  }
    where
      before : (k : ℕ) (d : Edge) → (is_among visited (get_or found k d).to ≡ true) ⊎ Contains mid (raised entry (get_or found k d)) → (is_among visited (get_or found k d).to ≡ true) ⊎ Contains new (raised entry (get_or found k d))
      before k d (inl full) = inl full
      before k d (inr held) = inr (a.others (raised entry (get_or found k d)) held)
