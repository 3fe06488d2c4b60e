use Rattle.std.proofs.Common.{◌≡◌, ◌≢◌, ℕ, List, sym, ap, ◌∙◌, subst, Contains}
use Rattle.levels.proofs.Prelude.{Corner, IsGroundOf, IsIndexOf, NO_LABEL, held_at, nat_lt, slice_index}
use Rattle.levels.proofs.Tiles.TileOutlets.{ground_by_label, void_by_label, outlet_if_ground, outlet_by_sink, outlet_by_degree}
use Rattle.levels.proofs.outlets.is_tile_outlet.Goals as goal

pub returns-then-labels-index-clause-value : goal.returns-then-labels-index-clause-value
returns-then-labels-index-clause-value g c honest flooded =
    let now = c.args.samples.now in
    let m = g.S.Samples.mosaic now in
    let is = g.met.S.Samples.is_mosaic now honest in
    let at : IsIndexOf m.side c.args.tile.now.corner c.args.point c.args.index = subst (λ n. IsIndexOf n c.args.tile.now.corner c.args.point c.args.index) (sym (g.met.S.Samples.same_side now honest)) c.requires.index in
    let there = subst (λ (cs : List Corner). Contains cs c.args.tile.now.corner) (sym (g.met.S.Samples.same_corners now honest)) c.requires.present in
    let none : slice_index c.args.tile.now.labelled.now.labels c.args.index ≡ NO_LABEL = ap (λ (l : List ℕ). slice_index l c.args.index) (sym c.labels.ensures.value) ∙ c.if-labels-index.true in
    sym (outlet_if_ground m c.args.point (void_by_label m is c.args.tile.now.corner there c.args.tile.now.labelled.now flooded c.args.point c.args.index at none))

pub returns-then-is_sink-clause-value : goal.returns-then-is_sink-clause-value
returns-then-is_sink-clause-value g c honest flooded =
    let now = c.args.samples.now in
    let m = g.S.Samples.mosaic now in
    let is = g.met.S.Samples.is_mosaic now honest in
    let at : IsIndexOf m.side c.args.tile.now.corner c.args.point c.args.index = subst (λ n. IsIndexOf n c.args.tile.now.corner c.args.point c.args.index) (sym (g.met.S.Samples.same_side now honest)) c.requires.index in
    let there = subst (λ (cs : List Corner). Contains cs c.args.tile.now.corner) (sym (g.met.S.Samples.same_corners now honest)) c.requires.present in
    let some : slice_index c.args.tile.now.labelled.now.labels c.args.index ≢ NO_LABEL = λ none. c.if-labels-index.false (ap (λ (l : List ℕ). slice_index l c.args.index) c.labels.ensures.value ∙ none) in
    sym (outlet_by_sink m c.args.point (ground_by_label m is c.args.tile.now.corner there c.args.tile.now.labelled.now flooded c.args.point c.args.index at some) (sym (c.is_sink.ensures honest) ∙ c.if-is_sink.true))

pub returns-clause-value : goal.returns-clause-value
returns-clause-value g c later flooded =
    let now = c.args.samples.now in
    let m = g.S.Samples.mosaic now in
    let honest = c.in_ok-count.ensures.reads.honest later in
    let is = g.met.S.Samples.is_mosaic now honest in
    let at : IsIndexOf m.side c.args.tile.now.corner c.args.point c.args.index = subst (λ n. IsIndexOf n c.args.tile.now.corner c.args.point c.args.index) (sym (g.met.S.Samples.same_side now honest)) c.requires.index in
    let there = subst (λ (cs : List Corner). Contains cs c.args.tile.now.corner) (sym (g.met.S.Samples.same_corners now honest)) c.requires.present in
    let some : slice_index c.args.tile.now.labelled.now.labels c.args.index ≢ NO_LABEL = λ none. c.if-labels-index.false (ap (λ (l : List ℕ). slice_index l c.args.index) c.labels.ensures.value ∙ none) in
    let ground = ground_by_label m is c.args.tile.now.corner there c.args.tile.now.labelled.now flooded c.args.point c.args.index at some in
    let of : IsGroundOf m c.args.tile.now.corner c.args.tile.now.labelled.now c.args.point = record { flooded = flooded; held = held_at m.side c.args.tile.now.corner c.args.point c.args.index at; ground = ground } in
    ap (λ n. nat_lt n 8) (c.in_ok-count.ensures.value later of) ∙ sym (outlet_by_degree m c.args.point ground (sym (c.is_sink.ensures honest) ∙ c.if-is_sink.false))
