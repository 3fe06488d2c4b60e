use Rattle.std.proofs.Common.{◌≡◌, ap, ◌∙◌, arith, get_or, set}
use Rattle.std.proofs.lemmas.Grind.{common_steps}
use Rattle.std.proofs.lemmas.List.Edits.{map_over_more}
use Rattle.disk.specs.declared.sector.Sector.{Sector}
use Rattle.disk.specs.Record.{blank, settled_with, left_content}
use Rattle.disk.proofs.sector.settle_each.Goals as goal

pub loop-sector-preserved : goal.loop-sector-preserved
loop-sector-preserved c =
    let settle : Sector → Sector = λ sector. settled_with (left_content c.args.torn c.args.synced sector) in
    let now = c.loop-sector.sectors in
    let i = c.loop-sector.sector-index in
    let made : c.settled_with.result ≡ settle (get_or now i blank) = grind (arith, common_steps) in
    let read : get_or now i blank ≡ get_or now i (get_or now i blank) = grind (arith, common_steps) in
    ap (set now i) made ∙ map_over_more settle c.args.sectors.now now i (get_or now i blank) c.loop-sector-test.true c.loop-sector.invariant read
