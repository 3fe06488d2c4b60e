use Rattle.std.proofs.Common.{subst, List, ℕ}
use Rattle.lines.specs.Requests.{IsRequestOf}
use Rattle.serving.proofs.SessionLemmas.{asks_for, kept_some}
use Rattle.serving.proofs.reading.request_in.Goals as goal

pub returns : goal.returns
returns c = λ text is.
    asks_for c.args.language text c.request_of.result
    (subst (λ (l : List ℕ). IsRequestOf c.args.language l c.request_of.result) (kept_some text c.in_ok-bytes.field-0.now c.args.line.now c.in_ok-bytes.ensures.value is) c.request_of.ensures.exact)
