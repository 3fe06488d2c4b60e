use Rattle.edits.proofs.Prelude.{ArrayVec, Corner, Holds, List, Mosaic, Ok, Point, Tile, [], ap, both_ways, corners_of, false, has_void_from, is_in_box, is_listed, reads_on, subst, sym, take, take_all, take_more, true, ◌++◌, ◌+◌, ◌∙◌, ◌∷◌, ◌≡◌}
use Rattle.std.specs.Prelude.{Contains}
use Rattle.edits.proofs.BoxVoids.TouchedTiles.{listed}
use Rattle.edits.proofs.BoxVoids.TilesFound.{AreOnce, FindsTiles, finds_skip, finds_put, finds_all, not_before}
use Rattle.edits.proofs.void_tiles.tiles_of_box.Goals as goal
use Rattle.edits.proofs.void_tiles.tiles_of_box.Goals.{then-present+in_ok-has_void+then-branch, else-present, else-present-via-then-present+in_ok-has_void+else-branch, else-present-via-else-present}

pub loop-corner-preserved : goal.loop-corner-preserved
loop-corner-preserved g c =
    let laws = g.met.S.Samples in
    let from = c.args.from in
    let to = c.args.to in
    let old = c.args.samples.now in
    let mid = c.loop-corner.samples in
    let inv = c.loop-corner.invariant in
    let hs = c.as_slice-corner-items.result.now in
    let i = c.loop-corner.corner-index in
    let corner : Corner = c.corner-item.result in
    let tiles : List Corner = c.loop-corner.tiles.items in
    let next : take i hs ++ corner ∷ [] ≡ take (i + 1) hs = ap (λ (d : Corner). take i hs ++ d ∷ []) c.corner-item.is ∙ sym (take_more hs i corner c.loop-corner-test.true) in
    let once = subst AreOnce (sym c.as_slice-corner-items.ensures.value) c.holders_of_box-corners.ensures.once in
    let fresh : is_listed corner (take i hs) ≡ false = not_before hs i corner once c.loop-corner-test.true c.corner-item.is in
    let made = λ (s : _) (ts : List Corner) (so : FindsTiles g.S.Samples from to (take i hs ++ corner ∷ []) old s ts). subst (λ (l : List Corner). FindsTiles g.S.Samples from to l old s ts) next so in
    elim c.if-present.branch [
      | then-present+in_ok-has_void+then-branch w ↦
          let now = w.has_void.new.samples in
          let read = w.in_ok-has_void.ensures.reads in
          let there : Contains (g.S.Samples.corners old) corner = subst (λ (cs : List Corner). Contains cs corner) inv.reads.corners (c.present.ensures.answer.0 w.if-present.true) in
          let put = finds_put g.S.Samples from to (take i hs) corner old mid now tiles inv (reads_on g.S.Samples laws.keeps_on old mid now tt (Ok tt) inv.reads read) read.honest there fresh
          (λ honest t in_tiles same. sym (subst (λ (m : Mosaic). (u : Tile) → Contains m.tiles u → u.corner ≡ corner → w.in_ok-has_void.field-0 ≡ has_void_from m from to u.corner 0 u.samples) (inv.reads.mosaic (read.honest honest)) (w.in_ok-has_void.ensures.void honest) t in_tiles same) ∙ w.if-branch.true) in
          let pushed : c.if-present.tiles.items ≡ tiles ++ corner ∷ [] = ap (λ (v : ArrayVec Corner). v.items) w.tiles-is ∙ w.push.ensures.items in
          subst (λ s. FindsTiles g.S.Samples from to (take (i + 1) hs) old s c.if-present.tiles.items) (sym w.samples-is)
          (subst (λ (ts : List Corner). FindsTiles g.S.Samples from to (take (i + 1) hs) old now ts) (sym pushed) (made now (tiles ++ corner ∷ []) put))
      | else-present v ↦
          let same_tiles : c.if-present.tiles.items ≡ tiles = ap (λ (ts : ArrayVec Corner). ts.items) v.tiles-is in
          subst (λ (ts : List Corner). FindsTiles g.S.Samples from to (take (i + 1) hs) old c.if-present.samples ts) (sym same_tiles)
          (elim v.else-present.branch [
            | else-present-via-then-present+in_ok-has_void+else-branch w ↦
                let now = w.has_void.new.samples in
                let read = w.in_ok-has_void.ensures.reads in
                let skip = finds_skip g.S.Samples from to (take i hs) corner old mid now tiles inv (reads_on g.S.Samples laws.keeps_on old mid now tt (Ok tt) inv.reads read) read.honest
                (λ honest t in_tiles same. sym (subst (λ (m : Mosaic). (u : Tile) → Contains m.tiles u → u.corner ≡ corner → w.in_ok-has_void.field-0 ≡ has_void_from m from to u.corner 0 u.samples) (inv.reads.mosaic (read.honest honest)) (w.in_ok-has_void.ensures.void honest) t in_tiles same) ∙ w.if-branch.false) in
                subst (λ s. FindsTiles g.S.Samples from to (take (i + 1) hs) old s tiles) (sym (v.samples-is ∙ w.samples-is)) (made now tiles skip)
            | else-present-via-else-present w ↦
                let skip = finds_skip g.S.Samples from to (take i hs) corner old mid mid tiles inv inv.reads (λ honest. honest)
                (λ honest t in_tiles same.
                let was = inv.reads.honest honest in
                let m = g.S.Samples.mosaic old in
                let here : Contains (g.S.Samples.corners mid) corner = subst (λ (cs : List Corner). Contains cs corner) (sym inv.reads.corners)
                (subst (λ (cs : List Corner). Contains cs corner) (laws.same_corners old was) (subst (λ (d : Corner). Contains (corners_of m) d) same (listed m t in_tiles))) in
                absurd (both_ways c.present.result w.if-present.false (c.present.ensures.answer.1 here))) in
                subst (λ s. FindsTiles g.S.Samples from to (take (i + 1) hs) old s tiles) (sym (v.samples-is ∙ w.samples-is)) (made mid tiles skip)
          ])
    ]

pub returns-clause-voids : goal.returns-clause-voids
returns-clause-voids g c = λ honest.
    let laws = g.met.S.Samples in
    let old = c.args.samples.now in
    let hs = c.as_slice-corner-items.result.now in
    let i = c.loop-corner.corner-index in
    let inv = c.loop-corner.invariant in
    let was = inv.reads.honest honest in
    let all = λ (d : Corner) (p : Point) (within : is_in_box c.args.from c.args.to p ≡ true) (held : Holds (g.S.Samples.mosaic old).side d p).
    subst (λ (l : List Corner). Contains l d) (sym (take_all i hs c.loop-corner-test.false)) (subst (λ (l : List Corner). Contains l d) (sym c.as_slice-corner-items.ensures.value)
    (c.holders_of_box-corners.ensures.all d p within (subst (λ n. Holds n d p) (laws.same_side old was ∙ sym c.side.ensures) held))) in
    finds_all g.S.Samples c.args.from c.args.to (take i hs) old c.loop-corner.samples c.loop-corner.tiles.items inv (λ _. laws.is_mosaic old was) all honest
