use Rattle.flow_d8.proofs.Prelude.{IsSinkPlace, arith, subst, sym}
use Rattle.flow_d8.proofs.preparing.drain_sinks.Goals as goal

pub returns : goal.returns
returns c =
    let was = c.loop-i.invariant in
    record {
      whole = was.whole;
      each = was.each;
      sunk = λ k sink flat.
          let listed = sink.1.0 in
          was.sunk listed.0 k sink.0 (omega (arith, listed.1, c.loop-i-test.false)) (subst (λ s. IsSinkPlace c.args.side c.args.corner s k) (sym listed.2) sink.1.1) flat;
    }
