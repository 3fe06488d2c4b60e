use Rattle.std.proofs.Common.{rules, refl, sym, ap, ◌∙◌, ◌≡◌, [], ◌∷◌, ◌++◌, ⊎_elim, inl, subst}
use Rattle.std.specs.Prelude.{Ok, Err}
use Rattle.engine.specs.Runs.{last_of}
use Rattle.lines.specs.Ahead.{Lookahead, to_come}
use Rattle.serving.specs.Moments.{Moment, at_first}
use Rattle.serving.specs.declared.session.Next.TheVariants.{More, End}
use Rattle.serving.proofs.OutputLemmas.{still_left}
use Rattle.serving.proofs.SessionLemmas.{so_far_none, so_far_more, so_far_end, so_far_fault, reads_no_further, last_of-append, turn_more, goes_in_turn}
use Rattle.serving.proofs.session.serve_items.Goals as goal

-- nothing is ahead at first
at_start : {R O E : Type 0} (ahead : Lookahead) (reader : R) (writer : O) (engine : E) → ahead.bytes ≡ [] → ahead.given ≡ 0 → ahead.reads ≡ 18446744073709551615
    → ◌≡◌ {A = Moment R O E} (at_first reader writer engine) (record { ahead = ahead; reader = reader; writer = writer; engine = engine })
at_start ahead reader writer engine none given reads = search rules

pub items-init : goal.items-init
items-init g c = (refl, ([], (refl, so_far_none c.args.language g.A.Responder.responded c.new-ahead.result.bytes _ _ c.args.responder.now c.new-ahead.ensures.bytes)), inl refl, ([], (tt, at_start _ _ _ _ c.new-ahead.ensures.bytes c.new-ahead.ensures.given c.new-ahead.ensures.reads)))

pub items-preserved : goal.items-preserved
items-preserved g c =
    let before = c.items.invariant.1 in
    let next = c.in-Ok-More.ensures.calls in
    let more : c.in-Ok-More.field-0 ≡ More = search rules in
    let so_far = c.items.invariant.3 in (
      ⊎_elim (λ none. none ∙ c.items.invariant.0) (λ told. absurd (cc)) c.in-Ok-More.ensures.output.told,
      (
        before.0 ++ next.0,
        (
          last_of-append _ before.0 next.0 ∙ ap (λ e. last_of e next.0) before.1.0 ∙ next.1.0,
          so_far_more c.args.language g.A.Responder.responded _ _ _ _ _ _ c.args.responder.now _ before.0 next.0 before.1.0 before.1.1 (rw more at next.1.1),
        ),
      ),
      still_left (g.O.Output.stream c.args.writer.now) _ _ c.items.invariant.2 c.in-Ok-More.ensures.left,
      turn_more g.A.Responder.responded c.args.language g.R.Read.remaining g.O.Output.stream (at_first c.args.reader.now c.args.writer.now c.args.responder.now) so_far.0 so_far.1.0 c.items.ahead c.step.new.ahead c.items.reader c.step.new.reader c.items.writer c.step.new.writer c.items.responder c.step.new.responder so_far.1.1
          next.0 next.1.0 (rw more at next.1.1) c.in-Ok-More.ensures.left (c.in-Ok-More.ensures.rest (cc)),
    )

pub returns-in-Ok-End-clause-calls : goal.returns-in-Ok-End-clause-calls
returns-in-Ok-End-clause-calls g c =
    let before = c.items.invariant.1 in
    let next = c.in-Ok-End.ensures.calls in
    let end : c.in-Ok-End.field-0 ≡ End = search rules in (
      before.0 ++ next.0,
      (
        last_of-append _ before.0 next.0 ∙ ap (λ e. last_of e next.0) before.1.0 ∙ next.1.0,
        so_far_end c.args.language g.A.Responder.responded _ _ (to_come c.step.new.ahead (g.R.Read.remaining c.step.new.reader)) (g.R.Read.remaining c.step.new.reader) _ _ _ c.args.responder.now _ before.0 next.0 before.1.0 before.1.1 (rw end at next.1.1),
      ),
    )

pub returns-in-Err-clause-calls : goal.returns-in-Err-clause-calls
returns-in-Err-clause-calls g c =
    let before = c.items.invariant.1 in
    let next = c.in-Err.ensures in
    let calls = next.calls in (
      before.0 ++ calls.0,
      (
        last_of-append _ before.0 calls.0 ∙ ap (λ e. last_of e calls.0) before.1.0 ∙ calls.1.0,
        so_far_fault c.args.language g.A.Responder.responded _ _ _ _ _ c.step.new.ahead.bytes (g.R.Read.remaining c.step.new.reader) c.args.responder.now _ before.0 calls.0 c.in-Err.fault before.1.0 before.1.1 next.none_ahead calls.1.1,
      ),
    )

pub returns-in-Ok-End-clause-end : goal.returns-in-Ok-End-clause-end
returns-in-Ok-End-clause-end g c =
    let before = c.items.invariant.1 in
    let end : c.in-Ok-End.field-0 ≡ End = search rules in
    reads_no_further c.args.language g.A.Responder.responded _ _ _ _ c.step.new.ahead.bytes (g.R.Read.remaining c.step.new.reader) c.args.responder.now before.0 before.1.1 (c.in-Ok-End.ensures.end (cc))

pub returns-in-Ok-End-clause-turns : goal.returns-in-Ok-End-clause-turns
returns-in-Ok-End-clause-turns g c =
    let so_far = c.items.invariant.3 in
    let end : c.in-Ok-End.field-0 ≡ End = search rules in
    let next = c.in-Ok-End.ensures.calls in
    goes_in_turn g.A.Responder.responded c.args.language g.R.Read.remaining g.O.Output.stream (at_first c.args.reader.now c.args.writer.now c.args.responder.now) so_far.0 so_far.1.0 c.items.ahead c.step.new.ahead c.items.reader c.step.new.reader c.items.writer c.step.new.writer c.items.responder c.step.new.responder so_far.1.1
    next.0 next.1.0 (Ok tt) (rw end at next.1.1) c.in-Ok-End.ensures.left

pub returns-in-Err-clause-turns : goal.returns-in-Err-clause-turns
returns-in-Err-clause-turns g c =
    let so_far = c.items.invariant.3 in
    let next = c.in-Err.ensures.calls in
    goes_in_turn g.A.Responder.responded c.args.language g.R.Read.remaining g.O.Output.stream (at_first c.args.reader.now c.args.writer.now c.args.responder.now) so_far.0 so_far.1.0 c.items.ahead c.step.new.ahead c.items.reader c.step.new.reader c.items.writer c.step.new.writer c.items.responder c.step.new.responder so_far.1.1
    next.0 next.1.0 (Err c.in-Err.fault) next.1.1 tt
