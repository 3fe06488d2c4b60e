use Rattle.std.proofs.Common.{◌≡◌, ◌+◌, ◌*◌, ◌<◌, Bool, ◌&&◌, Err, List, [], sym, ◌∙◌, ap, subst, to_z, of_z, arith}
use Rattle.edits.proofs.Prelude.{Change, Mosaic, Point, Refusal, Sets, and_parts, err_from_is_err_and, is_among, is_in_box, is_void_among, is_void_at, reads_on, same_point, to_z-of_z}
use mir.Syntax.{w16}
use Rattle.catalogue.specs.Readers.{reads_of}
use Rattle.edits.proofs.BoxVoids.BoxPlaces.{among_all, among_none, among_with, not_among}
use Rattle.edits.proofs.Plans.Setting.{sets_alike}
use Rattle.edits.proofs.Plans.VoidsPut.{ArePut, none_put, put_on}
use Rattle.edits.proofs.listing.put_in_voids.Goals as goal

pub loop-k-init : goal.loop-k-init
loop-k-init g c =
    let old = c.args.samples.now in
    let box = c.in-Some.points in
    let of = c.in-Some.ensures.some.1 in
    let test : Mosaic → Point → Bool = λ m. is_void_among m c.args.from c.args.to box.columns 0 in
    let s = to_z w16 (of_z w16 c.args.sample) in
    subst (λ (l : List Change). ArePut g.S.Samples test s old old [] l) (sym c.new-changes.ensures.items)
    (none_put g.S.Samples s g.met.S.Samples.keeps_itself test (λ m p. ap (λ b. b && is_void_at m p) (among_none c.args.from c.args.to box of p)) old [])

pub loop-k-preserved : goal.loop-k-preserved
loop-k-preserved g c =
    let from = c.args.from in
    let to = c.args.to in
    let box = c.in-Some.points in
    let of = c.in-Some.ensures.some.1 in
    let k = c.loop-k.k in
    let p = c.point.result in
    let at = c.point.ensures in
    let below : k < box.rows * box.columns = omega (arith, c.loop-k-test.true, c.len-k-end.ensures) in
    let put = c.in_ok-put_if_void.ensures in
    put_on g.S.Samples (to_z w16 (of_z w16 c.args.sample)) g.met.S.Samples.keeps_on (λ m. is_void_among m from to box.columns k) (λ m q. same_point q p && is_void_at m q) (λ m. is_void_among m from to box.columns (k + 1))
    (λ m q. among_with from to box of p k below at (is_void_at m) q)
    (λ m q inside here. not_among from to box of p k below at q (and_parts (is_among from to box.columns k q) (is_void_at m q) inside).0 (and_parts (same_point q p) (is_void_at m q) here).0)
    c.args.samples.now c.loop-k.samples c.put_if_void.new.samples [] c.loop-k.changes.items c.put_if_void.new.changes.items c.loop-k.invariant put.reads put.fits put.sets

pub returns-in_err-put_if_void-clause-reads : goal.returns-in_err-put_if_void-clause-reads
returns-in_err-put_if_void-clause-reads g c =
    let p = err_from_is_err_and c.from_residual.result c.from_residual.ensures.1 in
    let ended : c.from_residual.result ≡ Err c.in_err-put_if_void.field-0.0 = p.1 ∙ ap (λ (r : Refusal). Err r) p.2 in
    rw ended (reads_on g.S.Samples g.met.S.Samples.keeps_on c.args.samples.now c.loop-k.samples c.put_if_void.new.samples tt (reads_of {T = Unit {0}} (Err c.in_err-put_if_void.field-0.0)) c.loop-k.invariant.reads c.in_err-put_if_void.ensures.reads)

pub returns-clause-sets : goal.returns-clause-sets
returns-clause-sets g c = λ honest.
    let old = c.args.samples.now in
    let n = g.S.Samples.side_of old in
    let cs = g.S.Samples.corners old in
    let m = g.S.Samples.mosaic old in
    let from = c.args.from in
    let to = c.args.to in
    let box = c.in-Some.points in
    let of = c.in-Some.ensures.some.1 in
    let b = c.loop-k.changes.items in
    let s = to_z w16 (of_z w16 c.args.sample) in
    let all : c.loop-k.k ≡ box.rows * box.columns = omega arith in
    subst (λ v. Sets n cs (λ p. is_in_box from to p && is_void_at m p) v [] b) (to_z-of_z w16 c.args.sample c.ranges.sample)
    (sets_alike n cs (is_void_among m from to box.columns c.loop-k.k) (λ p. is_in_box from to p && is_void_at m p) s
    (λ p. ap (λ b. b && is_void_at m p) (ap (λ k. is_among from to box.columns k p) all ∙ among_all from to box of p)) [] b (c.loop-k.invariant.sets honest))
