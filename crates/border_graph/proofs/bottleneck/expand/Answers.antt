use Rattle.std.proofs.Common.{rules, ◌≡◌, SFits, w16, ap₂, sym, ◌∙◌, subst, MatchOption, IfNone, to_z-of_z}
use Rattle.border_graph.proofs.Prelude.{AreAllEdges, AreEdges, IsEnd, IsJoinedLevel, IsPlacedLink, int_max}
use Rattle.border_graph.proofs.SearchSteps.{end_at_outlet, end_at_known}
use Rattle.border_graph.proofs.bottleneck.expand.Goals as goal

pub returns-then-entry-eq0-clause-ends : goal.returns-then-entry-eq0-clause-ends
returns-then-entry-eq0-clause-ends g c n summaries fits of =
    let in_range : SFits w16 c.args.entry.crest = search rules in
    subst (IsEnd (IsPlacedLink n summaries) c.args.entry) (sym (to_z-of_z in_range)) (end_at_outlet (IsPlacedLink n summaries) c.args.entry c.if-entry-eq0.true)

pub returns-in-Some-clause-ends : goal.returns-in-Some-clause-ends
returns-in-Some-clause-ends g c n summaries fits of =
    let answer = c.in_ok-level.ensures.answer n summaries fits of in
    let in_range : SFits w16 c.max.result = record { sfits = c.max.type_inv } in
    let higher : c.max.result ≡ int_max c.args.entry.crest c.in-Some.level = c.max.ensures.value ∙ ap₂ int_max (to_z-of_z {w = w16} {z = c.args.entry.crest} (search rules)) (to_z-of_z {w = w16} {z = c.in-Some.level} (search rules)) in
    subst (IsEnd (IsPlacedLink n summaries) c.args.entry) (sym higher ∙ sym (to_z-of_z in_range))
    (end_at_known (IsPlacedLink n summaries) c.args.entry c.in-Some.level
    (subst (λ known. MatchOption known (AreEdges (IsPlacedLink n summaries) c.args.entry.node c.edges_from.new.into.items) (IsJoinedLevel (IsPlacedLink n summaries) 0 c.args.entry.node)) c.in-Some.is answer))

pub returns-clause-listed : goal.returns-clause-listed
returns-clause-listed g c n summaries fits =
    subst (λ known. IfNone known (AreAllEdges (IsPlacedLink n summaries) c.args.entry.node c.edges_from.new.into.items)) c.in_default.is (c.in_ok-level.ensures.all n summaries fits)

pub returns-clause-exactly : goal.returns-clause-exactly
returns-clause-exactly g c n summaries fits of =
    subst (λ known. MatchOption known (AreEdges (IsPlacedLink n summaries) c.args.entry.node c.edges_from.new.into.items) (IsJoinedLevel (IsPlacedLink n summaries) 0 c.args.entry.node)) c.in_default.is (c.in_ok-level.ensures.answer n summaries fits of)
