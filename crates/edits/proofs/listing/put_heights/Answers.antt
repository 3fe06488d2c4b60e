use Rattle.edits.proofs.Prelude.{NewHeight, Sets, arith, get_or, pos, rules, same_point, subst, to_z-of_z}
use mir.Syntax.{w16}
use mir.Val.{SFits}
use Rattle.edits.proofs.EditStale.{read_within}
use Rattle.edits.proofs.Plans.Setting.{heights_more, heights_once}
use Rattle.edits.proofs.listing.put_heights.Goals as goal

abbrev none : NewHeight
none = record { point = record { y = pos 0; x = pos 0 }; was = pos 0; metres = pos 0 }

pub loop-height-preserved : goal.loop-height-preserved
loop-height-preserved g c =
    let n = g.S.Samples.side_of c.args.samples.now in
    let cs = g.S.Samples.corners c.args.samples.now in
    let heights = c.args.heights.now in
    let i = c.loop-height.height-index in
    let h = get_or heights i none in
    let a = c.loop-height.changes.items in
    let b = c.put.new.changes.items in
    let fits : SFits w16 h.metres = search rules in
    let was = c.loop-height.invariant in
    let put = c.in_ok-put.ensures in
    let sets = subst (λ v. Sets n cs (λ q. same_point q h.point) v a b) (to_z-of_z w16 h.metres fits) put.sets in
    let read = read_within heights i none h c.loop-height-test.true in
    record {
      given = heights_more n cs heights i h a b c.loop-height-test.true read was.given sets;
      once = λ apart. heights_once n cs heights i h a b c.loop-height-test.true read apart (was.once apart) sets;
      fits = put.fits was.fits;
      few = let more = put.few in let few = was.few in omega (arith, more, few);
    }
