use Rattle.edits.proofs.Prelude.{ArrayVec, Contains-append_left, Contains-push, Contains-push_cases, Corner, List, [], ap, arith, array_vec_len, inl, inr, is_listed, subst, sym, take, take_all, take_more, ◌++◌, ◌+◌, ◌∙◌, ◌∷◌, ◌≡◌}
use Rattle.std.specs.Prelude.{Contains}
use Rattle.catalogue.proofs.Presence.{listed_says}
use Rattle.edits.proofs.BoxVoids.TilesFound.{AreOnce, once_push}
use Rattle.edits.proofs.void_tiles.add_holders.Goals as goal
use Rattle.edits.proofs.void_tiles.add_holders.Goals.{then-not-contains, else-not-contains}

pub loop-corner-preserved : goal.loop-corner-preserved
loop-corner-preserved c =
    let hs = c.as_slice-corner-items.result.now in
    let i = c.loop-corner.corner-index in
    let corner : Corner = c.corner-item.result in
    let so = c.loop-corner.invariant in
    let was : List Corner = c.loop-corner.corners.items in
    let named : c.contains.result ≡ is_listed corner was = c.contains.ensures.value ∙ ap (is_listed corner) c.as_slice.ensures.value in
    let next : take i hs ++ corner ∷ [] ≡ take (i + 1) hs = ap (λ (d : Corner). take i hs ++ d ∷ []) c.corner-item.is ∙ sym (take_more hs i corner c.loop-corner-test.true) in
    let cases = λ (d : Corner) (there : Contains (take (i + 1) hs) d). Contains-push_cases (take i hs) corner d (subst (λ (l : List Corner). Contains l d) (sym next) there) in
    elim c.if-not-contains.branch [
      | then-not-contains w ↦
          let pushed : c.if-not-contains.corners.items ≡ was ++ corner ∷ [] = ap (λ (v : ArrayVec Corner). v.items) w.corners-is ∙ w.push.ensures.items in
          let left = λ (d : Corner) (there : Contains was d). subst (λ (l : List Corner). Contains l d) (sym pushed) (Contains-append_left was (corner ∷ []) d there) in
          record {
            kept = λ d there. left d (so.kept d there);
            added = λ d there. elim (cases d there) [
              | inl before ↦ left d (so.added d before)
              | inr same ↦ subst (λ (l : List Corner). Contains l d) (sym pushed) (subst (λ (e : Corner). Contains (was ++ corner ∷ []) e) same (Contains-push was corner))
            ];
            once = subst AreOnce (sym pushed) (once_push was corner so.once (sym named ∙ w.if-not-contains.true));
            few = let more = ap (λ (v : ArrayVec Corner). array_vec_len v) w.corners-is in let put = w.push.ensures.len in omega (arith, more, put, so.few);
          }
      | else-not-contains w ↦
          let stays : c.if-not-contains.corners.items ≡ was = ap (λ (v : ArrayVec Corner). v.items) w.corners-is in
          let left = λ (d : Corner) (there : Contains was d). subst (λ (l : List Corner). Contains l d) (sym stays) there in
          record {
            kept = λ d there. left d (so.kept d there);
            added = λ d there. elim (cases d there) [
              | inl before ↦ left d (so.added d before)
              | inr same ↦ left d (subst (λ (e : Corner). Contains was e) same (listed_says corner was (sym named ∙ w.if-not-contains.false)))
            ];
            once = subst AreOnce (sym stays) so.once;
            few = let more = ap (λ (v : ArrayVec Corner). array_vec_len v) w.corners-is in omega (arith, more, so.few);
          }
    ]

pub returns-clause-added : goal.returns-clause-added
returns-clause-added c = λ d held.
    let hs = c.as_slice-corner-items.result.now in
    c.loop-corner.invariant.added d (subst (λ (l : List Corner). Contains l d) (sym (take_all c.loop-corner.corner-index hs c.loop-corner-test.false))
    (subst (λ (l : List Corner). Contains l d) (sym c.as_slice-corner-items.ensures.value) ((c.holders.ensures.exactly d).1 held)))
