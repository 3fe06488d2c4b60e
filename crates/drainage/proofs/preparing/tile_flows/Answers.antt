use Rattle.drainage.proofs.Prelude.{Contains, Corner, List, present_iff, subst, sym, ◌∙◌}
use Rattle.drainage.proofs.preparing.tile_flows.Goals as goal

pub returns-clause-flows : goal.returns-clause-flows
returns-clause-flows g c honest present padded =
    let a = c.args.samples.now in
    let m = g.S.Samples.mosaic a in
    let laws = g.met.S.Samples in
    c.in_ok-flows.ensures.flows m (laws.is_mosaic a honest) (laws.same_side a honest ∙ sym c.side.ensures)
    (record {
      present = (present_iff m c.args.corner).1 (subst (λ (cs : List Corner). Contains cs c.args.corner) (sym (laws.same_corners a honest)) present);
      levels_are = padded;
      sides_are = c.sides_of-sides.ensures honest;
      sinks_are = c.sinks.ensures.sinks ∙ sym (laws.same_sinks a honest);
    })
