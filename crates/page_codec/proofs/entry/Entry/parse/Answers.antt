use Rattle.page_codec.proofs.Prelude.{FitsSigned, arith, rules, w16, ◌<◌, ◌^◌}
use Rattle.page_codec.proofs.EntryFields.{none_spelled}
use Rattle.page_codec.proofs.entry.Entry.parse.Goals as goal

pub returns-clause-none : goal.returns-clause-none
returns-clause-none c =
    let lat : FitsSigned w16 c.read.result.lat = search rules in
    let lon : FitsSigned w16 c.read.result.lon = search rules in
    let heights : c.read.result.heights < 2 ^ 32 = omega arith in
    let levels : c.read.result.levels < 2 ^ 32 = omega arith in
    let labels : c.read.result.labels < 2 ^ 32 = omega arith in
    none_spelled _ _ c.read.result lat lon heights levels labels c.read.ensures c.entry.ensures.none
