use Rattle.edits.proofs.Prelude.{IsMosaic, Mosaic, ap, ap₂, arith, false, filled, is_among, is_in_box, is_void_among, is_void_at, of_z, same_point, subst, sym, to_z, to_z-of_z, true, with_height, ◌&&◌, ◌*◌, ◌+◌, ◌<◌, ◌∙◌, ◌≡◌}
use mir.Syntax.{w16}
use Rattle.edits.proofs.BoxVoids.BoxPlaces.{among_all, among_more, among_none, not_among}
use Rattle.edits.proofs.BoxVoids.Filling.{fill_alike, fill_ground, fill_more, fill_none, fill_void}
use Rattle.edits.proofs.applying.fill_voids.Goals as goal
use Rattle.edits.proofs.applying.fill_voids.Goals.{then-is_void, else-is_void}

pub loop-k-init : goal.loop-k-init
loop-k-init c =
    let m = c.args.table.now in
    let box = c.in-Some.points in
    let of = c.in-Some.ensures.some.1 in
    record {
      filled = fill_none (is_void_among m c.args.from c.args.to box.columns 0) (to_z w16 (of_z w16 c.args.sample))
          (λ p. ap (λ b. b && is_void_at m p) (among_none c.args.from c.args.to box of p)) m;
      valid = c.requires.valid;
    }

pub loop-k-preserved : goal.loop-k-preserved
loop-k-preserved c =
    let m = c.args.table.now in
    let mid = c.loop-k.table in
    let from = c.args.from in
    let to = c.args.to in
    let box = c.in-Some.points in
    let of = c.in-Some.ensures.some.1 in
    let s = to_z w16 (of_z w16 c.args.sample) in
    let k = c.loop-k.k in
    let p = c.point-point.result in
    let at = c.point-point.ensures in
    let below : k < box.rows * box.columns = omega (arith, c.loop-k-test.true, c.len-k-end.ensures) in
    let same = c.is_void.ensures.same in
    let step : filled (λ q. same_point q p && is_void_at mid q) s mid ≡ filled (is_void_among m from to box.columns (k + 1)) s m =
    ap (λ (x : Mosaic). filled (λ q. same_point q p && is_void_at x q) s x) c.loop-k.invariant.filled
    ∙ fill_more m c.requires.valid s (is_among from to box.columns k) (λ q. same_point q p) (is_among from to box.columns (k + 1)) (among_more from to box of p k below at)
    (not_among from to box of p k below at) in
    elim c.if-is_void.branch [
      | then-is_void w ↦
          let void : is_void_at mid p ≡ true = sym c.is_void.ensures.void ∙ w.if-is_void.true in
          record {
            filled = w.table-is ∙ w.set_at.ensures.set ∙ ap (with_height p s) same ∙ fill_void p s mid void ∙ step;
            valid = subst IsMosaic (sym w.table-is) w.set_at.ensures.valid;
          }
      | else-is_void w ↦
          let ground : is_void_at mid p ≡ false = sym c.is_void.ensures.void ∙ w.if-is_void.false in
          record {
            filled = w.table-is ∙ same ∙ fill_ground p s mid ground ∙ step;
            valid = subst IsMosaic (sym (w.table-is ∙ same)) c.loop-k.invariant.valid;
          }
    ]

pub returns-clause-filled : goal.returns-clause-filled
returns-clause-filled c =
    let m = c.args.table.now in
    let from = c.args.from in
    let to = c.args.to in
    let box = c.in-Some.points in
    let of = c.in-Some.ensures.some.1 in
    let all : c.loop-k.k ≡ box.rows * box.columns = omega arith in
    c.loop-k.invariant.filled
    ∙ ap₂ (λ k v. filled (is_void_among m from to box.columns k) v m) all (to_z-of_z w16 c.args.sample c.ranges.sample)
    ∙ fill_alike (is_void_among m from to box.columns (box.rows * box.columns)) (λ p. is_in_box from to p && is_void_at m p) c.args.sample
    (λ p. ap (λ b. b && is_void_at m p) (among_all from to box of p)) m
