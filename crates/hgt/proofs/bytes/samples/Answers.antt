use Rattle.std.proofs.Common.{sym, subst, arith}
use Rattle.std.proofs.lemmas.Grind.{common_steps, get_or_default_zero}
use Rattle.hgt.specs.Bytes.{AreHgtBytes}
use Rattle.hgt.proofs.BytesLemmas.{AreHgtBytes-samples_in}
use Rattle.hgt.proofs.bytes.samples.Goals as goal

pub returns-clause-value : goal.returns-clause-value
returns-clause-value c = grind (arith, common_steps)

pub returns-clause-hgt : goal.returns-clause-hgt
returns-clause-hgt c =
    let are = AreHgtBytes-samples_in c.args.side c.args.bytes.now
    (λ k d below. rw (get_or_default_zero c.args.bytes.now k d below) (omega (arith, c.type_inv.bytes k))) (omega arith) in
    subst (AreHgtBytes c.args.side c.args.bytes.now) (sym (returns-clause-value c)) are
