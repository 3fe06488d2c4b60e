use Rattle.std.proofs.Common.{rules, ◌≡◌, ◌≢◌, ◌⊎◌, ⊎_elim, ◌<◌, ◌≤◌, ℕ, length, ◌*◌, ◌∙◌, sym, ap, inl, inr, refl, arith}
use Rattle.std.proofs.Math.Nat.{le-mul_of_pos_right}
use Rattle.lattice.specs.declared.refusal.Refusal.TheVariants.{BadName, BadLength, NoMemory}
use Rattle.edits.specs.declared.command.Command.TheVariants.{Import}
use Rattle.engine.specs.declared.event.Event.TheVariants as ask
use Rattle.lines.specs.declared.source.Extent.TheVariants.{Whole, Cut}
use Rattle.serving.specs.Answers.{Ask, Refuse}
use Rattle.serving.proofs.answering.answer_import.Goals as goal
use Rattle.serving.proofs.answering.answer_import.Goals.{then-len-file_bytes-via-then-len-file_bytes, then-len-file_bytes-via-else-len-file_bytes+then-eq}

pub returns-in_default : goal.returns-in_default
returns-in_default g c = λ bytes stored whole cut. (Refuse BadName, inl (c.in_default.ensures.err.1, refl), (c.refused.ensures, refl))

pub returns-then-len-file_bytes : goal.returns-then-len-file_bytes
returns-then-len-file_bytes g c = λ bytes stored whole cut.
    let n = g.E.Engine.side_of c.args.engine.now in
    let right : c.file_bytes.result ≡ 2 * (n * n) = c.file_bytes.ensures.value ∙ ap (λ (k : ℕ). 2 * (k * k)) c.side.ensures in
    let wrong : (c.args.len ≢ 2 * (n * n)) ⊎ (length bytes < c.args.len) = elim c.then-len-file_bytes.branch [
      | then-len-file_bytes-via-then-len-file_bytes w ↦ inl (λ same. w.if-len-file_bytes.true (same ∙ sym right))
      | then-len-file_bytes-via-else-len-file_bytes+then-eq w ↦
          let is_cut : c.args.extent ≡ Cut = search rules in
          let some = c.file_bytes.ensures.low in
          let more : c.side.result ≤ c.side.result * c.side.result = le-mul_of_pos_right c.side.result (omega (arith, some)) in
          inr (⊎_elim (λ fewer. fewer) (λ none. omega (arith, some, more, c.file_bytes.ensures.value, w.if-len-file_bytes.false, none)) (cut is_cut))
    ] in
    (Refuse BadLength, inr (c.in-Ok.corner, c.in-Ok.ensures.ok, inl (wrong, refl)), (c.refused-then-len-file_bytes.ensures, refl))

pub returns-in_default-payload : goal.returns-in_default-payload
returns-in_default-payload g c = λ bytes stored whole cut.
    let came : c.args.extent ≡ Whole = search rules in
    let right = c.if-len-file_bytes.false ∙ c.file_bytes.ensures.value ∙ ap (λ (k : ℕ). 2 * (k * k)) c.side.ensures in
    (Refuse NoMemory, inr (c.in-Ok.corner, c.in-Ok.ensures.ok, inr (right, whole came, inl refl)), (c.refused-in_default-payload.ensures, refl))

pub returns : goal.returns
returns g c = λ bytes stored whole cut.
    let came : c.args.extent ≡ Whole = search rules in
    let kept : c.in-Some.payload.items ≡ bytes = rw c.in-Some.is at stored in
    let given : c.new-bytes.result ≡ bytes = c.new-bytes.ensures ∙ kept in
    let right = c.if-len-file_bytes.false ∙ c.file_bytes.ensures.value ∙ ap (λ (k : ℕ). 2 * (k * k)) c.side.ensures in
    (Ask (ask.Do (Import c.in-Ok.corner bytes)), inr (c.in-Ok.corner, c.in-Ok.ensures.ok, inr (right, whole came, inr refl)), (_, rw given at c.answer.ensures, c.format_reply.ensures))
