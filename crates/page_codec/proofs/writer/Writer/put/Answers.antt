use Rattle.page_codec.proofs.Prelude.{List, ℕ, ap, arith, length, length-take, refl, ◌++◌, ◌+◌, ◌∙◌, ◌≤◌}
use Rattle.page_codec.proofs.Padding.{put_front, put_padded}
use Rattle.page_codec.proofs.writer.Writer.put.Goals as goal

pub invariant_of-self : goal.invariant_of-self
invariant_of-self g c =
    let view_len = ap length c.self.view_is in
    let front_len = length-take c.self.inside.end c.self.inside.bytes in
    let fits : c.self.inside.end + length c.args.field.now ≤ g.row.N = omega (arith, view_len, front_len, c.self.invariant.0, c.requires) in
    (fits, put_padded g.row.N c.self.inside.end (length c.args.field.now) c.self.inside.bytes c.args.field.now c.copy_from_slice.new.self fits c.self.told c.self.invariant.1 c.copy_from_slice.ensures.after refl)

pub returns-clause-bytes : goal.returns-clause-bytes
returns-clause-bytes g c =
    let within : c.self.inside.end ≤ length c.self.inside.bytes = omega (arith, c.self.invariant.0, c.self.told) in
    put_front c.self.inside.end (length c.args.field.now) c.self.inside.bytes c.args.field.now c.copy_from_slice.new.self within c.copy_from_slice.ensures.after refl
    ∙ ap (λ (l : List ℕ). l ++ c.args.field.now) c.self.view_is
