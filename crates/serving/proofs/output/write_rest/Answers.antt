use Rattle.std.proofs.Common.{◌≡◌, ◌+◌, ◌++◌, ◌∙◌, List, ℕ, [], Ok, Err, ap, sym, refl, subst}
use Rattle.std.proofs.KnownBytes.{Appends-nil}
use Rattle.std.proofs.lemmas.Result.{err_from_is_err_and}
use Rattle.serving.specs.Writing.{WritesAll}
use Rattle.serving.specs.declared.output.OutputFault.{OutputFault}
use Rattle.serving.proofs.OutputLemmas.{breaks_first, in_turn}
use Rattle.serving.proofs.output.write_rest.Goals as goal

pub loop-rest-preserved : goal.loop-rest-preserved
loop-rest-preserved g c = λ r s more.
    let (appended, none) = c.in_ok-write_all.ensures in
    c.loop-rest.invariant r s
    (in_turn r (g.O.Output.stream c.loop-rest.output) (g.O.Output.stream c.write_all.new.output) s c.as_slice.result.now c.next_part-part.new.self c.loop-rest.rest
    (ap (λ (part : List ℕ). part ++ c.next_part-part.new.self) c.as_slice.ensures.value ∙ c.next_part-part.ensures.next) appended none more)

pub returns-in_err-write_all : goal.returns-in_err-write_all
returns-in_err-write_all g c =
    let ended = err_from_is_err_and c.from_residual.result c.from_residual.ensures.1 in
    let after = g.O.Output.stream c.write_all.new.output in
    rw ended.1 (c.loop-rest.invariant (Err ended.0) after
    (breaks_first (g.O.Output.stream c.loop-rest.output) after c.as_slice.result.now c.next_part-part.new.self c.loop-rest.rest
    (ap (λ (part : List ℕ). part ++ c.next_part-part.new.self) c.as_slice.ensures.value ∙ c.next_part-part.ensures.next) c.in_err-write_all.ensures))

pub returns : goal.returns
returns g c =
    let now = g.O.Output.stream c.loop-rest.output in
    let none : c.loop-rest.rest ≡ [] = c.is_made.ensures.0 c.loop-rest-test.false in
    c.loop-rest.invariant (Ok (tt {0})) now (subst (λ (left : List ℕ). WritesAll {E = OutputFault} now now (Ok (tt {0})) left) (sym none) (Appends-nil now.contents, refl))
