use Rattle.drainage.proofs.Prelude.{AreFilledLevels, Flow, IfOk-weaker, IsToldOf, Mosaic, OnLevels, subst, sym, terrain, ◌∙◌}
use Rattle.drainage.proofs.Questions.Told.{given_late}
use Rattle.drainage.proofs.prepared_flows.PreparedFlowsFlowSource.flow.Goals as goal

pub returns-clause-flow : goal.returns-clause-flow
returns-clause-flow g c =
    let e = c.flow_anywhere.ensures in
    let p = c.args.point in
    let old = g.S.Samples.mosaic c.args.self.now.samples.now in
    let honest = g.S.Samples.is_honest c.flow_anywhere.new.samples in
    IfOk-weaker c.flow_anywhere.result
    (λ (flow : Flow). honest → OnLevels old (λ level. IsToldOf (terrain old) level p flow)) _
    (λ flow told m level tells.
    subst (λ (n : Mosaic). AreFilledLevels (terrain n) level → IsToldOf (terrain n) level p flow) (sym (tells.1.0 ∙ e.asked.reads.mosaic tells.0)) (told tells.0 level) tells.1.1)
    (given_late honest c.flow_anywhere.result (λ (flow : Flow). OnLevels old (λ level. IsToldOf (terrain old) level p flow)) e.flow)
