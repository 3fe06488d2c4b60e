use Rattle.border_graph.proofs.Prelude.{All, Contains, Global, HasLevel, List, Settled, Vec, ℕ, ℤ, [], ap, arith, false, get_or, inl, inr, length, of_z, pos, rules, subst, sym, take, take_all, to_z, to_z-of_z, true≢false, w16, ◌++◌, ◌+◌, ◌∙◌, ◌∷◌, ◌≡◌, ◌≤◌, ◌⊎◌}
use Rattle.std.proofs.lemmas.List.Elements.{All-contains, All-more, All-weaker, Contains-append_left, Contains-get_or, Contains-push, Contains-push_cases}
use Rattle.border_graph.proofs.bottleneck.list_alike.Goals as goal
use Rattle.border_graph.proofs.bottleneck.list_alike.Goals.{then-has_level+in_ok-push, else-has_level}

pub loop-one-preserved : goal.loop-one-preserved
loop-one-preserved c =
    let nothing : Settled = record { node = 0; crest = pos 0; has_no_lower = false } in
    let i = c.loop-one.one-index in
    let one : Settled = get_or c.args.settled.now i nothing in
    let level : ℤ = to_z w16 (of_z w16 c.args.level) in
    elim c.if-has_level.branch [
      | then-has_level+in_ok-push w ↦
          let pushed = ap (λ (v : Vec ℕ Global). v.items) w.into-is ∙ w.in_ok-push.ensures.items in
          record {
            only = λ x has. elim (Contains-push_cases c.loop-one.into.items one.node x (subst (λ (l : List ℕ). Contains l x) pushed has)) [
              | inl earlier ↦ c.loop-one.invariant.only x earlier
              | inr last ↦ inr (one, (Contains-get_or c.args.settled.now i nothing c.loop-one-test.true, (last, c.has_level.ensures.0 w.if-has_level.true)))
            ];
            all = subst (λ (l : List ℕ). All (λ (s : Settled). HasLevel s level → Contains l s.node) (take (i + 1) c.args.settled.now)) (sym pushed)
                (All-more (λ (s : Settled). HasLevel s level → Contains (c.loop-one.into.items ++ one.node ∷ []) s.node) c.args.settled.now i nothing c.loop-one-test.true
                (All-weaker (λ (s : Settled). HasLevel s level → Contains c.loop-one.into.items s.node) (λ (s : Settled). HasLevel s level → Contains (c.loop-one.into.items ++ one.node ∷ []) s.node) (λ s was has. Contains-append_left c.loop-one.into.items (one.node ∷ []) s.node (was has)) (take i c.args.settled.now) c.loop-one.invariant.all)
                (λ has. Contains-push c.loop-one.into.items one.node));
          }
      | else-has_level w ↦
          let same = sym (ap (λ (v : Vec ℕ Global). v.items) w.into-is) in
          record {
            only = λ x has. c.loop-one.invariant.only x (subst (λ (v : Vec ℕ Global). Contains v.items x) w.into-is has);
            all = subst (λ (l : List ℕ). All (λ (s : Settled). HasLevel s level → Contains l s.node) (take (i + 1) c.args.settled.now)) same
                (All-more (λ (s : Settled). HasLevel s level → Contains c.loop-one.into.items s.node) c.args.settled.now i nothing c.loop-one-test.true c.loop-one.invariant.all
                (λ has. absurd (true≢false (sym (c.has_level.ensures.1 has) ∙ w.if-has_level.false))));
          }
    ]

pub returns-clause-only : goal.returns-clause-only
returns-clause-only c x has = subst (λ v. Contains c.args.into.now.items x ⊎ ((one : Settled) × (Contains c.args.settled.now one × ((one.node ≡ x) × HasLevel one v)))) (to_z-of_z {w = w16} {z = c.args.level} (search rules)) (c.loop-one.invariant.only x has)

pub returns-clause-all : goal.returns-clause-all
returns-clause-all c s there has =
    let settled = c.args.settled.now in
    let level : ℤ = to_z w16 (of_z w16 c.args.level) in
    let listed = λ (s : Settled). HasLevel s level → Contains c.loop-one.into.items s.node in
    let end : length settled ≤ c.loop-one.one-index = (let last = c.loop-one-test.false in omega arith) in
    All-contains listed settled s (subst (All listed) (take_all c.loop-one.one-index settled end) c.loop-one.invariant.all) there
    (subst (HasLevel s) (sym (to_z-of_z {w = w16} {z = c.args.level} (search rules))) has)
