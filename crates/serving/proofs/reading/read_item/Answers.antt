use Rattle.std.proofs.Common.{rules, arith, ◌≡◌, ◌<◌, ℕ, zero, suc, [], refl, sym, ap, ◌∙◌, subst}
use Rattle.std.specs.Prelude.{option_map}
use Rattle.lines.specs.declared.source.Extent.TheVariants.{Whole, Cut}
use Rattle.lines.specs.Ahead.{IsRest, Lookahead}
use Rattle.lines.specs.Requests.{asked}
use Rattle.serving.specs.Items.{payload_len}
use Rattle.serving.proofs.SessionLemmas.{holds_whole, holds_cut, nothing_taken}
use Rattle.serving.proofs.reading.read_item.Goals as goal
use Rattle.serving.proofs.reading.read_item.Goals.{in-Whole+in_ok-read_or_skip_payload-in-Whole, in-Cut}

rest_after : (len : ℕ) (old new : Lookahead) → IsRest old → (len ≡ 0 → new ≡ old) → (0 < len → IsRest new) → IsRest new
rest_after zero old new before none some = subst IsRest (sym (none refl)) before
rest_after (suc len) old new before none some = some (omega arith)

pub returns-clause-ok : goal.returns-clause-ok
returns-clause-ok g c = λ text is line some.
    let request = c.request_in-request.result in
    let right = c.request_in-request.ensures text is in
    elim c.match-fed.branch [
      | in-Whole+in_ok-read_or_skip_payload-in-Whole w ↦
          let came = w.in_ok-read_or_skip_payload-in-Whole.ensures.ok in
          let fed : c.args.fed ≡ Whole = search rules in
          rw (w.payload-is, w.ahead-is, w.reader-is)
          (record { line = text; fed = Whole; asked = option_map asked request; payload = came.0 }, holds_whole c.args.language text request _ _ came.0 line (rw fed at some) right came.1 (rw w.payload_len.ensures at came.2), refl, sym fed, came.3)
      | in-Cut w ↦
          let fed : c.args.fed ≡ Cut = search rules in
          rw (w.payload-is, w.ahead-is, w.reader-is)
          (record { line = text; fed = Cut; asked = option_map asked request; payload = [] }, holds_cut c.args.language text request line (some fed) right, refl, sym fed, nothing_taken _ _)
    ]

pub returns-clause-quit : goal.returns-clause-quit
returns-clause-quit g c = λ whole quit.
    elim c.match-fed.branch [
      | in-Whole+in_ok-read_or_skip_payload-in-Whole w ↦
          let none = w.read_or_skip_payload.ensures.none (w.payload_len.ensures ∙ ap payload_len quit) in
          (w.ahead-is ∙ none.0, w.reader-is ∙ none.1)
      | in-Cut w ↦ absurd (cc)
    ]

pub returns-clause-rest : goal.returns-clause-rest
returns-clause-rest g c = λ whole before.
    elim c.match-fed.branch [
      | in-Whole+in_ok-read_or_skip_payload-in-Whole w ↦
          let read = w.read_or_skip_payload.ensures in
          rw (w.ahead-is)
          (rest_after w.payload_len.result _ _ before (λ none. (read.none none).0) (w.in_ok-read_or_skip_payload-in-Whole.ensures.rest (rw w.payload-is at whole)))
      | in-Cut w ↦ absurd (let cut = rw w.payload-is at whole in cc)
    ]
