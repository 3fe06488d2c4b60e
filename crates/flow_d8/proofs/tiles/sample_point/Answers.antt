use Rattle.flow_d8.proofs.Prelude.{ap, get_or, get_or_default, length, subst, sym, ◌%◌, ◌*◌, ◌/◌, ◌<◌, ◌∙◌, ◌≡◌}
use Rattle.lattice.specs.Lattice.{point_of}
use Rattle.flow_d8.proofs.Samples.Numbers.{tile_below}
use Rattle.flow_d8.specs.Tiles.{no_corner, place_of}
use Rattle.flow_d8.proofs.Samples.TilePlaces.{square_some}
use Rattle.flow_d8.proofs.tiles.sample_point.Goals as goal

pub returns : goal.returns
unfolding place_of
returns c =
    let n = c.args.side in
    let corners = c.args.corners.now in
    let k = c.args.k in
    let area = c.area-area.result in
    let is_area = c.area-area.ensures.value in
    let some : 0 < n * n = square_some n c.area-area.ensures.low in
    let small : k / area < length corners = subst (λ a. k / a < length corners) (sym is_area) (tile_below (n * n) (length corners) k some c.requires) in
    let corner : c.index-corners-k.result ≡ get_or corners (k / area) no_corner = c.index-corners-k.is ∙ get_or_default corners (k / area) c.index-corners-k.result no_corner small in
    c.point_at.ensures.value ∙ ap (λ q. point_of n q (k % area)) corner ∙ ap (λ a. point_of n (get_or corners (k / a) no_corner) (k % a)) is_area
