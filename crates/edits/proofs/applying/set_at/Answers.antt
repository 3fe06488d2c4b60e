use Rattle.edits.proofs.Prelude.{Corner, List, Mosaic, Place, ap, corners_of, of_z, present_iff, subst, sym, take, take_all, to_z, to_z-of_z, with_height, with_sample, ◌*◌, ◌<◌, ◌∙◌, ◌≡◌}
use Rattle.std.specs.Prelude.{Contains}
use mir.Syntax.{w16}
use Rattle.edits.proofs.Placing.{placed, placed_corners, placed_edit, placed_next, placed_side, this_place, whole_tiles}
use Rattle.edits.proofs.applying.set_at.Goals as goal

pub set-requires-clause-present : goal.set-requires-clause-present
set-requires-clause-present c =
    let old = c.args.table.now in
    let m = c.loop-place.table in
    let items = c.as_slice-place-items.result.now in
    let i = c.loop-place.place-index in
    let x = c.place-item.result in
    let at = this_place old.side (corners_of old) c.args.point c.places_of.result.items items i x c.as_slice-place-items.ensures.value c.places_of.ensures c.loop-place-test.true c.place-item.is in
    let kept : corners_of m ≡ corners_of old = ap corners_of c.loop-place.invariant.set ∙ placed_corners (to_z w16 (of_z w16 c.args.sample)) (take i items) old in
    (present_iff m x.corner).1 (subst (λ (l : List Corner). Contains l x.corner) (sym kept) at.present)

pub set-requires-clause-index : goal.set-requires-clause-index
set-requires-clause-index c =
    let old = c.args.table.now in
    let items = c.as_slice-place-items.result.now in
    let i = c.loop-place.place-index in
    let x = c.place-item.result in
    let at = this_place old.side (corners_of old) c.args.point c.places_of.result.items items i x c.as_slice-place-items.ensures.value c.places_of.ensures c.loop-place-test.true c.place-item.is in
    let kept : c.loop-place.table.side ≡ old.side = ap (λ (k : Mosaic). k.side) c.loop-place.invariant.set ∙ placed_side (to_z w16 (of_z w16 c.args.sample)) (take i items) old in
    subst (λ n. x.index < n * n) (sym kept) at.within

pub loop-place-preserved : goal.loop-place-preserved
loop-place-preserved c =
    let s = to_z w16 (of_z w16 c.args.sample) in
    let x = c.place-item.result in
    record {
      set = c.set.ensures.changed
          ∙ ap (with_sample x.corner x.index s) c.loop-place.invariant.set
          ∙ sym (placed_next s c.as_slice-place-items.result.now c.loop-place.place-index x c.args.table.now c.loop-place-test.true c.place-item.is);
      valid = c.set.ensures.valid;
    }

pub returns-clause-set : goal.returns-clause-set
returns-clause-set c =
    let old = c.args.table.now in
    let p = c.args.point in
    let s = to_z w16 (of_z w16 c.args.sample) in
    c.loop-place.invariant.set
    ∙ ap (λ (l : List Place). placed s l old) (take_all c.loop-place.place-index c.as_slice-place-items.result.now c.loop-place-test.false ∙ c.as_slice-place-items.ensures.value)
    ∙ placed_edit old (whole_tiles old c.requires) p s c.places_of.result.items c.places_of.ensures
    ∙ ap (λ v. with_height p v old) (to_z-of_z w16 c.args.sample c.ranges.sample)
