use Rattle.flow_d8.proofs.Prelude.{Flat, Flow, IsTellingAll, Unknown, ap, arith, byte_of, byte_of_flow_at, nat_tests, refl, sym, ◌∙◌, ◌≡◌, ◌≢◌}
use Rattle.flow_d8.proofs.flow_byte.FlowByte.tells_all.Goals as goal

tells : (f : Flow) → byte_of f ≢ 0 → byte_of f ≢ 3 → IsTellingAll f
tells Unknown some other = some refl
tells Flat some other = other refl
tells _ some other = tt

no_flat : (f : Flow) → IsTellingAll f → byte_of f ≢ 3
no_flat Flat all is = all
no_flat _ all is = omega arith

pub returns-then-self-ne0 : goal.returns-then-self-ne0
returns-then-self-ne0 c =
    let byte : byte_of c.args.self ≡ c.self.inside.byte = ap byte_of (sym c.self.view_is) ∙ byte_of_flow_at c.self.inside.byte c.self.invariant in (
      λ yes. let other : c.self.inside.byte ≢ 3 = grind (arith, nat_tests) in tells c.args.self (λ zero_is. c.if-self-ne0.true (sym byte ∙ zero_is)) (λ three. other (sym byte ∙ three)),
      λ all. let other : c.self.inside.byte ≢ 3 = λ three. no_flat c.args.self all (byte ∙ three) in grind (arith, nat_tests),
    )
