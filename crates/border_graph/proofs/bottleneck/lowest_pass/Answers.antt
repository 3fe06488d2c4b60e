use Rattle.border_graph.proofs.Prelude.{AreAllEdges, AreEdges, AreOfMosaic, AreRaised, Contains, Contains-push_cases, Edge, HasLevel, IfNone, IfSome, IsAdded, IsEnd, IsJoinedLevel, IsNext, IsPlacedLink, IsReachedBelow, IsSettledBy, IsTrue, List, NoneLeft, Rim, SFits, Settled, Summary, ℕ, ℤ, [], arith, err_from_is_err_and, inl, inr, is_among, length, map, node_number, of_z, refl, rules, subst, sym, to_z, to_z-of_z, true, void, w16, ◌<◌, ◌^◌, ◌∷◌, ◌≡◌, ◌≤ℤ◌, ◌⊎◌}
use Rattle.border_graph.specs.Crests.{crest, LeadsOut}
use Rattle.border_graph.proofs.Onward.{way_up}
use Rattle.border_graph.proofs.Crested.{below_crest, least_crest}
use Rattle.border_graph.proofs.Forests.Left.{fewer_left}
use Rattle.border_graph.proofs.Lowest.{low_placed}
use Rattle.border_graph.proofs.Forests.Next.{taken_now, taken_still, taken_other}
use Rattle.border_graph.proofs.SearchSteps.{IsTwoWay, alike, alike_at, settled_by, followed_all, rising_first, no_way, reached_below, ended, risen}
use Rattle.border_graph.proofs.Turned.{two_way}
use Rattle.border_graph.proofs.bottleneck.lowest_pass.Goals as goal

none : {X : Type 0} (x : X) → Contains [] x → ⊥
none x has = let h = has.1 in absurd (omega arith)

pub rise-init : goal.rise-init
rise-init g c = record {
  fits = λ n summaries fits. fits;
  keeps = g.met.G.EdgeSource.keeps_itself c.args.graph.now c.args.source.now;
  asked = λ n summaries fits t asked. inl asked;
  none = c.requires.empty;
  settled = λ n summaries fits of one has. absurd (none one (subst (λ (l : List Settled). Contains l one) c.new-settled.ensures.items has));
  rising = λ n summaries fits. rising_first (IsPlacedLink n summaries) (AreOfMosaic n summaries) c.args.start (low_placed n summaries) c.requires.start c.new-visited.result c.new-visited.ensures c.push.new.self (record { crest = void; level = void; node = c.args.start })
      (subst (λ old. IsAdded old c.push.new.self (record { crest = void; level = void; node = c.args.start })) c.new-frontier.ensures c.in_ok-push.ensures.added) refl refl;
}

pub returns-in-Some-2-clause-joined : goal.returns-in-Some-2-clause-joined
returns-in-Some-2-clause-joined g c n summaries fits of =
    let in_range : SFits w16 c.in-Some-2.level = search rules in
    let before = c.in_ok-level.ensures.fits n summaries fits in
    let next : IsNext c.rise.frontier c.rise.visited c.pop_unvisited.new.frontier c.pop_unvisited.new.visited c.in-Some.entry =
    subst (λ found. IfSome found (IsNext c.rise.frontier c.rise.visited c.pop_unvisited.new.frontier c.pop_unvisited.new.visited)) c.in-Some.is c.in_ok-entry.ensures.next in
    subst (λ v. IsJoinedLevel (IsPlacedLink n summaries) 0 c.args.start v) (sym (to_z-of_z in_range))
    (ended (IsPlacedLink n summaries) (AreOfMosaic n summaries) c.args.start c.rise.visited c.rise.frontier (c.rise.invariant.rising n summaries before) c.pop_unvisited.new.frontier c.pop_unvisited.new.visited c.in-Some.entry next
    of (two_way n summaries of) c.in-Some-2.level
    (subst (λ found. IfSome found (IsEnd (IsPlacedLink n summaries) c.in-Some.entry)) c.in-Some-2.is (c.in_ok-level.ensures.ends n summaries fits of)))

pub returns-in-Some-2-clause-level : goal.returns-in-Some-2-clause-level
returns-in-Some-2-clause-level g c n summaries fits of =
    least_crest (IsPlacedLink n summaries) c.args.start (to_z w16 (of_z w16 c.in-Some-2.level)) (λ same. let some = c.requires.start in absurd (omega arith)) (returns-in-Some-2-clause-joined g c n summaries fits of)

pub returns-in-Some-2-clause-alike : goal.returns-in-Some-2-clause-alike
returns-in-Some-2-clause-alike g c n summaries fits of x has =
    let before = c.in_ok-level.ensures.fits n summaries fits in
    by (IsPlacedLink n summaries) (two_way n summaries of) (to_z w16 (of_z w16 c.in-Some-2.level)) (returns-in-Some-2-clause-joined g c n summaries fits of) (λ one held. c.rise.invariant.settled n summaries before of one (subst (λ (l : List Settled). Contains l one) c.deref.ensures.value held))
    (c.in_ok-list_alike.ensures.only x has)
  where
    by : (L : ℕ → ℕ → ℤ → Type 0) → IsTwoWay L → (level : ℤ) → IsJoinedLevel L 0 c.args.start level
        → ((one : Settled) → Contains c.deref.result.now one → (0 < one.node) × (IsReachedBelow L c.args.start one.crest one.node × (IsTrue one.has_no_lower → (y : ℕ) (l : ℤ) → L one.node y l → one.crest ≤ℤ l)))
        → Contains c.rise.alike.items x ⊎ ((one : Settled) × (Contains c.deref.result.now one × ((one.node ≡ x) × HasLevel one level))) → (0 < x) × IsJoinedLevel L 0 x level
    by L two level joined settled (inl early) = absurd (none x (subst (λ (l : List ℕ). Contains l x) c.rise.invariant.none early))
    by L two level joined settled (inr found) =
        let one = found.0 in
        let reached = settled one found.1.0 in
        subst (λ y. (0 < y) × IsJoinedLevel L 0 y level) found.1.1.0 (
          reached.0,
          elim found.1.1.1 [
            | inl below ↦ alike L two c.args.start one.node one.crest level joined reached.0 reached.1.0 below
            | inr at ↦ alike_at L two c.args.start one.node level joined reached.0 (subst (λ v. IsReachedBelow L c.args.start v one.node) at.0 reached.1.0)
                (λ y l link. subst (λ v. v ≤ℤ l) at.0 (reached.1.1 at.1 y l link))
          ],
        )

pub returns-in-Some-2-clause-asked : goal.returns-in-Some-2-clause-asked
returns-in-Some-2-clause-asked g c n summaries fits of t asked =
    let in_range : SFits w16 c.in-Some-2.level = search rules in
    let before = c.in_ok-level.ensures.fits n summaries fits in
    let next : IsNext c.rise.frontier c.rise.visited c.pop_unvisited.new.frontier c.pop_unvisited.new.visited c.in-Some.entry =
    subst (λ found. IfSome found (IsNext c.rise.frontier c.rise.visited c.pop_unvisited.new.frontier c.pop_unvisited.new.visited)) c.in-Some.is c.in_ok-entry.ensures.next in
    let rising = c.rise.invariant.rising n summaries before in
    let end : IsEnd (IsPlacedLink n summaries) c.in-Some.entry c.in-Some-2.level = subst (λ found. IfSome found (IsEnd (IsPlacedLink n summaries) c.in-Some.entry)) c.in-Some-2.is (c.in_ok-level.ensures.ends n summaries fits of) in
    let up : (y : ℕ) → IsReachedBelow (IsPlacedLink n summaries) c.args.start c.in-Some.entry.crest y → IsReachedBelow (IsPlacedLink n summaries) c.args.start (to_z w16 (of_z w16 c.in-Some-2.level)) y =
    λ y way. (way.0, way_up (IsPlacedLink n summaries) y c.in-Some.entry.crest (to_z w16 (of_z w16 c.in-Some-2.level)) (subst (λ v. c.in-Some.entry.crest ≤ℤ v) (sym (to_z-of_z in_range)) end.high) c.args.start way.0 way.1) in
    elim (c.in_ok-level.ensures.asked n summaries fits t asked) [
      | inr here ↦ inr (here.0, up (node_number n (Rim t here.0)) (subst (IsReachedBelow (IsPlacedLink n summaries) c.args.start c.in-Some.entry.crest) here.1 (rising.ways of c.in-Some.entry next.waited)))
      | inl earlier ↦ elim (c.rise.invariant.asked n summaries before t earlier) [
        | inl first ↦ inl first
        | inr at ↦ inr (at.0, up (node_number n (Rim t at.0)) (reached_below (IsPlacedLink n summaries) (AreOfMosaic n summaries) c.args.start c.rise.visited c.rise.frontier rising c.pop_unvisited.new.frontier c.pop_unvisited.new.visited c.in-Some.entry next of (node_number n (Rim t at.0)) at.1))
      ]
    ]

pub rise-smaller : goal.rise-smaller
rise-smaller g c =
    let next : IsNext c.rise.frontier c.rise.visited c.pop_unvisited.new.frontier c.pop_unvisited.new.visited c.in-Some.entry =
    subst (λ found. IfSome found (IsNext c.rise.frontier c.rise.visited c.pop_unvisited.new.frontier c.pop_unvisited.new.visited)) c.in-Some.is c.in_ok-entry.ensures.next in
    let small : c.in-Some.entry.node < 2 ^ 32 = search rules in
    fewer_left (2 ^ 32) c.in-Some.entry.node (is_among c.rise.visited) (is_among c.pop_unvisited.new.visited) small next.fresh (taken_now c.rise.visited c.pop_unvisited.new.visited c.in-Some.entry.node next.takes)
    (λ x apart. taken_other c.rise.visited c.pop_unvisited.new.visited c.in-Some.entry.node x next.takes apart)

pub rise-preserved : goal.rise-preserved
rise-preserved g c =
    let next : IsNext c.rise.frontier c.rise.visited c.pop_unvisited.new.frontier c.pop_unvisited.new.visited c.in-Some.entry =
    subst (λ found. IfSome found (IsNext c.rise.frontier c.rise.visited c.pop_unvisited.new.frontier c.pop_unvisited.new.visited)) c.in-Some.is c.in_ok-entry.ensures.next in
    let inner : 0 < c.in-Some.entry.node = subst (λ found. IfNone found (0 < c.in-Some.entry.node)) c.in_default-2.is c.in_ok-level.ensures.inner in
    let listed = λ (n : ℕ) (summaries : List Summary) (fits : g.G.EdgeSource.fits c.expand.new.graph n summaries). subst (λ found. IfNone found (AreAllEdges (IsPlacedLink n summaries) c.in-Some.entry.node c.expand.new.edges.items)) c.in_default-2.is (c.in_ok-level.ensures.listed n summaries fits) in
    record {
      fits = λ n summaries fits. c.rise.invariant.fits n summaries (c.in_ok-level.ensures.fits n summaries fits);
      keeps = g.met.G.EdgeSource.keeps_on c.args.graph.now c.rise.graph c.expand.new.graph c.args.source.now c.rise.source c.expand.new.source c.rise.invariant.keeps c.in_ok-level.ensures.keeps;
      asked = λ n summaries fits t asked. elim (c.in_ok-level.ensures.asked n summaries fits t asked) [
        | inr here ↦ inr (here.0, subst (λ y. is_among c.pop_unvisited.new.visited y ≡ true) here.1 (taken_now c.rise.visited c.pop_unvisited.new.visited c.in-Some.entry.node next.takes))
        | inl before ↦ elim (c.rise.invariant.asked n summaries (c.in_ok-level.ensures.fits n summaries fits) t before) [
          | inl first ↦ inl first
          | inr at ↦ inr (at.0, taken_still c.rise.visited c.pop_unvisited.new.visited c.in-Some.entry.node (node_number n (Rim t at.0)) next.takes at.1)
        ]
      ];
      none = c.rise.invariant.none;
      settled = λ n summaries fits of one has.
          let before = c.in_ok-level.ensures.fits n summaries fits in
          let last = c.in_ok-settle.ensures.1.1 in
          elim (Contains-push_cases c.rise.settled.items c.in_ok-settle.ensures.0 one (subst (λ (l : List Settled). Contains l one) c.in_ok-settle.ensures.1.0 has)) [
            | inl earlier ↦ c.rise.invariant.settled n summaries before of one earlier
            | inr here ↦ subst (λ (s : Settled). (0 < s.node) × (IsReachedBelow (IsPlacedLink n summaries) c.args.start s.crest s.node × (IsTrue s.has_no_lower → (y : ℕ) (level : ℤ) → IsPlacedLink n summaries s.node y level → s.crest ≤ℤ level))) here
                (settled_by (IsPlacedLink n summaries) c.args.start c.in-Some.entry c.expand.new.edges.items c.in_ok-settle.ensures.0 (listed n summaries fits)
                (subst (λ (l : List Edge). IsSettledBy c.in-Some.entry l c.in_ok-settle.ensures.0) c.deref-in-Some-2.ensures.value last) inner ((c.rise.invariant.rising n summaries before).ways of c.in-Some.entry next.waited))
          ];
      rising = λ n summaries fits.
          let before = c.in_ok-level.ensures.fits n summaries fits in
          risen (IsPlacedLink n summaries) (AreOfMosaic n summaries) c.args.start c.rise.visited c.rise.frontier (c.rise.invariant.rising n summaries before) c.pop_unvisited.new.frontier c.pop_unvisited.new.visited c.in-Some.entry next c.push_all.new.frontier
          (followed_all (IsPlacedLink n summaries) (AreOfMosaic n summaries) c.pop_unvisited.new.visited c.pop_unvisited.new.frontier c.push_all.new.frontier c.in-Some.entry c.expand.new.edges.items inner (listed n summaries fits)
          (λ of. subst (λ found. IfNone found (AreEdges (IsPlacedLink n summaries) c.in-Some.entry.node c.expand.new.edges.items)) c.in_default-2.is (c.in_ok-level.ensures.exactly n summaries fits of))
          (subst (λ (l : List Edge). AreRaised l (length l) c.in-Some.entry c.pop_unvisited.new.visited c.pop_unvisited.new.frontier c.push_all.new.frontier) c.deref-in-Some.ensures.value c.in_ok-push_all.ensures));
    }

pub returns-in_err-level-clause-refusal : goal.returns-in_err-level-clause-refusal
returns-in_err-level-clause-refusal g c =
    let p = err_from_is_err_and c.from_residual-in_err-level.result c.from_residual-in_err-level.ensures.1 in
    rw p.1 (subst (g.G.EdgeSource.refuses c.args.graph.now c.args.source.now c.expand.new.graph c.expand.new.source) (sym p.2)
    (g.met.G.EdgeSource.refuses_on c.args.graph.now c.rise.graph c.expand.new.graph c.args.source.now c.rise.source c.expand.new.source c.in_err-level.field-0.0 c.rise.invariant.keeps c.in_err-level.ensures.refusal))

pub returns-in_err-list_alike-clause-refusal : goal.returns-in_err-list_alike-clause-refusal
returns-in_err-list_alike-clause-refusal g c =
    let out = g.met.G.EdgeSource.runs_out _ _ _ _ (g.met.G.EdgeSource.keeps_on _ _ _ _ _ _ c.rise.invariant.keeps c.in_ok-level.ensures.keeps) in
    search rules

pub returns-in_err-push_all-clause-refusal : goal.returns-in_err-push_all-clause-refusal
returns-in_err-push_all-clause-refusal g c =
    let out = g.met.G.EdgeSource.runs_out _ _ _ _ (g.met.G.EdgeSource.keeps_on _ _ _ _ _ _ c.rise.invariant.keeps c.in_ok-level.ensures.keeps) in
    search rules

pub returns-in_err-settle-clause-refusal : goal.returns-in_err-settle-clause-refusal
returns-in_err-settle-clause-refusal g c =
    let out = g.met.G.EdgeSource.runs_out _ _ _ _ (g.met.G.EdgeSource.keeps_on _ _ _ _ _ _ c.rise.invariant.keeps c.in_ok-level.ensures.keeps) in
    search rules

pub returns-clause-not_joined : goal.returns-clause-not_joined
returns-clause-not_joined g c n summaries fits =
    no_way (IsPlacedLink n summaries) (AreOfMosaic n summaries) c.args.start c.rise.visited c.rise.frontier (c.rise.invariant.rising n summaries fits)
    (subst (λ found. IfNone found (NoneLeft c.rise.frontier c.rise.visited)) c.in_default.is c.in_ok-entry.ensures.none)

pub returns-clause-none : goal.returns-clause-none
returns-clause-none g c n summaries fits = none
  where
    none : (rest : List Edge) → LeadsOut (IsPlacedLink n summaries) c.args.start rest → ⊥
    none [] out = absurd (omega (arith, c.requires.start))
    none (way ∷ rest) out = returns-clause-not_joined g c n summaries fits (crest way rest) (map (λ (w : Edge). w.to) (way ∷ rest)) (below_crest (IsPlacedLink n summaries) c.args.start way rest out)
