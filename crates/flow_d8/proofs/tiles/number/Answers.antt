use Rattle.flow_d8.proofs.Prelude.{ap, get_or, get_or_default, length, no_corner, subst, sym, true≢false, ◌*◌, ◌+◌, ◌∙◌, ◌≡◌}
use Rattle.lattice.specs.Lattice.{IsIndexOf, Holds}
use Rattle.flow_d8.proofs.Samples.TilePlaces.{found_at, passed_on, none_at}
use Rattle.flow_d8.proofs.tiles.number.Goals as goal

pub returns-in-Some : goal.returns-in-Some
returns-in-Some c =
    let n = c.args.side in
    let corners = c.args.corners.now in
    let i = c.loop-i.i in
    let corner : c.index-corners-i.result ≡ get_or corners i no_corner = c.index-corners-i.is ∙ get_or_default corners i c.index-corners-i.result no_corner c.loop-i-test.true in
    let at : IsIndexOf n (get_or corners i no_corner) c.args.point c.in-Some.index = subst (λ k. IsIndexOf n k c.args.point c.in-Some.index) corner c.in-Some.ensures.index in
    ap (λ a. i * a + c.in-Some.index) c.area-area.ensures.value ∙ sym (found_at n c.area-area.ensures.low corners c.args.point i c.loop-i.invariant c.loop-i-test.true c.in-Some.index at)

pub loop-i-preserved : goal.loop-i-preserved
loop-i-preserved c =
    let n = c.args.side in
    let corners = c.args.corners.now in
    let i = c.loop-i.i in
    let corner : c.index-corners-i.result ≡ get_or corners i no_corner = c.index-corners-i.is ∙ get_or_default corners i c.index-corners-i.result no_corner c.loop-i-test.true in
    passed_on n c.area-area.ensures.low corners c.args.point i c.loop-i.invariant c.loop-i-test.true
    (λ holds. true≢false (sym (c.in_default.ensures.held.1 (subst (λ k. Holds n k c.args.point) (sym corner) holds))))

pub returns : goal.returns
returns c = ap (λ a. length c.args.corners.now * a) c.area-area.ensures.value
    ∙ sym (none_at c.args.side c.area-area.ensures.low c.args.corners.now c.args.point c.loop-i.i c.loop-i.invariant c.loop-i-test.false c.loop-i.auto.i-end)
