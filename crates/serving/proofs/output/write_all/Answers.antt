use Rattle.std.proofs.Common.{arith, ◌∙◌}
use Rattle.std.proofs.lemmas.Grind.{common_steps}
use Rattle.serving.proofs.WriteLemmas.{Appends-next}
use Rattle.serving.proofs.output.write_all.Goals as goal

pub loop-at-preserved : goal.loop-at-preserved
loop-at-preserved g c =
    let (some, few, appended, none) = c.in_ok-at.ensures in
    record {
      within = grind (arith, common_steps, few, c.loop-at.invariant.within);
      written = Appends-next _ _ _ c.args.bytes.now c.loop-at.at c.in_ok-at.field-0 c.loop-at.invariant.written appended;
      none = none ∙ c.loop-at.invariant.none;
    }
