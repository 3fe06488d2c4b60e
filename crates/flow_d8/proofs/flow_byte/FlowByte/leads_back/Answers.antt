use Rattle.flow_d8.proofs.Prelude.{Beside, Dir, East, FlatTo, Flow, Some, To, ℕ, ap, arith, back_of, direction_of, nat_tests, order_of, refl, sym, ◌%◌, ◌+◌, ◌∙◌, ◌≡◌, ◌≤◌}
use Rattle.std.specs.Prelude.{◌↔◌}
use denote.Enum.Declared.{tag_of}
use Rattle.lattice.specs.contracts.direction.Dir.{the_type}
use Rattle.flow_d8.specs.FlowBytes.{byte_of, byte_of_flow_at}
use Rattle.water.proofs.Compass.{same_order}
use Rattle.water.proofs.StepBack.{back_twice}
use Rattle.flow_d8.proofs.flow_byte.FlowByte.leads_back.Goals as goal

tag_is : (d : Dir) → tag_of the_type d ≡ order_of d
tag_is East = refl
tag_is _ = refl

to_back : (e : Dir) → (4 + order_of e) % 8 ≡ order_of (back_of e)
to_back East = refl
to_back _ = refl

beside_back : (e : Dir) → (12 + order_of e) % 8 ≡ order_of (back_of e)
beside_back East = refl
beside_back _ = refl

flat_back : (e : Dir) → (20 + order_of e) % 8 ≡ order_of (back_of e)
flat_back East = refl
flat_back _ = refl

named : (e d : Dir) (n : ℕ) → n % 8 ≡ order_of (back_of e) → (n % 8 ≡ order_of d) ↔ (Some e ≡ Some (back_of d))
named e d n at = (
  λ same. ap Some (sym (back_twice e) ∙ ap back_of (same_order (back_of e) d (sym at ∙ same))),
  λ is. let e_is : e ≡ back_of d = cc in at ∙ ap (λ x. order_of (back_of x)) e_is ∙ ap order_of (back_twice d),
)

-- a byte that has a direction has its number modulo eight
by_eights : (f : Flow) (d : Dir) → 4 ≤ byte_of f → (byte_of f % 8 ≡ order_of d) ↔ (direction_of f ≡ Some (back_of d))
by_eights (To e) d low = named e d (4 + order_of e) (to_back e)
by_eights (Beside e) d low = named e d (12 + order_of e) (beside_back e)
by_eights (FlatTo e) d low = named e d (20 + order_of e) (flat_back e)
by_eights _ d low = absurd (omega arith)

pub returns : goal.returns
returns c =
    let byte : byte_of c.args.self ≡ c.self.inside.byte = ap byte_of (sym c.self.view_is) ∙ byte_of_flow_at c.self.inside.byte c.self.invariant in
    let eights = by_eights c.args.self c.args.direction (omega (arith, byte, c.if-self-lt4.false)) in
    let left : byte_of c.args.self % 8 ≡ c.self.inside.byte % 8 = ap (λ n. n % 8) byte in
    let tag = tag_is c.args.direction in (
      λ test. let same : c.self.inside.byte % 8 ≡ tag_of the_type c.args.direction = grind (arith, nat_tests) in eights.0 (left ∙ same ∙ tag),
      λ names. let same : c.self.inside.byte % 8 ≡ tag_of the_type c.args.direction = sym left ∙ eights.1 names ∙ sym tag in grind (arith, nat_tests),
    )
