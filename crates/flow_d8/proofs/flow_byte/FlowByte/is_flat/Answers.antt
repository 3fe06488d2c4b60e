use Rattle.flow_d8.proofs.Prelude.{ap, arith, nat_tests, sym, ◌∙◌, ◌≡◌}
use Rattle.flow_d8.specs.FlowBytes.{flow_at, byte_of, byte_of_flow_at}
use Rattle.flow_d8.proofs.flow_byte.FlowByte.is_flat.Goals as goal

pub returns : goal.returns
returns c =
    let byte = c.self.inside.byte in
    let is : flow_at byte ≡ c.args.self = c.self.view_is in (
      λ yes. let three : byte ≡ 3 = grind (arith, nat_tests) in sym is ∙ ap flow_at three,
      λ flat. let three : byte ≡ 3 = sym (byte_of_flow_at byte c.self.invariant) ∙ ap byte_of (is ∙ flat) in grind (arith, nat_tests),
    )
