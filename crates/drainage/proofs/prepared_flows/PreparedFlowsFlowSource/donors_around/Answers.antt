use Rattle.drainage.proofs.Questions.Told.{donors_told}
use Rattle.drainage.proofs.prepared_flows.PreparedFlowsFlowSource.donors_around.Goals as goal

pub returns : goal.returns
returns g c =
    let samples = c.args.self.now.samples.now in
    let m = g.S.Samples.mosaic samples in
    donors_told c.donors_around.result (g.S.Samples.is_honest samples) m c.args.point (λ honest. c.donors_around.ensures.right m (c.requires honest))
