use Rattle.std.proofs.Common.{rules, ◌≡◌}
use Rattle.std.specs.Prelude.{slice_index_or}
use Rattle.windows.proofs.UpstreamCounts.{count_left, count_of}
use Rattle.windows.proofs.counts.count_or.Goals as goal

pub returns-in-Some : goal.returns-in-Some
returns-in-Some c =
    let value : c.unwrap_or.result ≡ slice_index_or c.args.counts.now c.in-Some.index 0 = search rules in
    count_of c.args.side c.args.corner c.args.counts.now c.args.point c.args.was c.in-Some.index c.unwrap_or.result c.in-Some.ensures.index value

pub returns-in-None : goal.returns-in-None
returns-in-None c = count_left c.args.side c.args.corner c.args.counts.now c.args.point c.args.was c.requires.low c.requires.corner (λ held. let no = c.in-None.ensures.held.1 held in cc)
