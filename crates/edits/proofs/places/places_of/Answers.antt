use Rattle.edits.proofs.Prelude.{ArrayVec, Corner, Holds, List, Place, Rising, [], ap, arith, rising_from, subst, sym, take, take_all, take_more, ◌++◌, ◌+◌, ◌↔◌, ◌∙◌, ◌∷◌, ◌≡◌}
use Rattle.std.specs.Prelude.{Contains}
use Rattle.edits.proofs.PlaceLemmas.{PlacesAmong, not_earlier, places_skip, places_push, places_all}
use Rattle.edits.proofs.places.places_of.Goals as goal
use Rattle.edits.proofs.places.places_of.Goals.{in-Some, in_default}

pub loop-corner-preserved : goal.loop-corner-preserved
loop-corner-preserved g c =
    let n = g.S.Samples.side_of c.args.samples.now in
    let cs = g.S.Samples.corners c.args.samples.now in
    let p = c.args.point in
    let hs = c.as_slice-corner-items.result.now in
    let i = c.loop-corner.corner-index in
    let corner : Corner = c.corner-item.result in
    let was : List Place = c.loop-corner.places.items in
    let rising : Rising (λ h. h) hs = subst (Rising (λ h. h)) (sym c.as_slice-corner-items.ensures.value) (rising_from (λ h. h) c.holders-corners.result.items c.holders-corners.ensures.in_order) in
    let fresh : Contains (take i hs) corner → ⊥ = λ there. not_earlier hs i corner rising c.loop-corner-test.true (subst (Contains (take i hs)) c.corner-item.is there) in
    let next : take i hs ++ corner ∷ [] ≡ take (i + 1) hs = ap (λ (d : Corner). take i hs ++ d ∷ []) c.corner-item.is ∙ sym (take_more hs i corner c.loop-corner-test.true) in
    subst (λ (l : List Corner). PlacesAmong n cs l p c.match-index_among.places.items) next
    (elim c.match-index_among.branch [
      | in-Some w ↦
          let there = w.in-Some.ensures.held in
          let added : c.match-index_among.places.items ≡ was ++ record { corner = corner; index = w.in-Some.index } ∷ [] = ap (λ (v : ArrayVec Place). v.items) w.places-is ∙ w.push.ensures.items in
          subst (λ (l : List Place). PlacesAmong n cs (take i hs ++ corner ∷ []) p l) (sym added) (places_push n cs p (take i hs) corner w.in-Some.index was fresh there.0 there.1 c.loop-corner.invariant)
      | in_default w ↦
          subst (λ (l : List Place). PlacesAmong n cs (take i hs ++ corner ∷ []) p l) (sym (ap (λ (v : ArrayVec Place). v.items) w.places-is)) (places_skip n cs p (take i hs) corner was w.in_default.ensures.none c.loop-corner.invariant)
    ])

pub returns : goal.returns
returns g c =
    let n = g.S.Samples.side_of c.args.samples.now in
    let cs = g.S.Samples.corners c.args.samples.now in
    let hs = c.as_slice-corner-items.result.now in
    let exactly = subst (λ m. (d : Corner) → Contains c.holders-corners.result.items d ↔ Holds m d c.args.point) c.side.ensures c.holders-corners.ensures.exactly in
    places_all n cs c.args.point hs c.loop-corner.places.items
    (subst (λ (l : List Corner). (d : Corner) → Contains l d ↔ Holds n d c.args.point) (sym c.as_slice-corner-items.ensures.value) exactly)
    (omega (arith, c.as_slice-corner-items.ensures.fits))
    (subst (λ (l : List Corner). PlacesAmong n cs l c.args.point c.loop-corner.places.items) (take_all c.loop-corner.corner-index hs c.loop-corner-test.false) c.loop-corner.invariant)
