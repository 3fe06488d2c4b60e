use Rattle.std.proofs.Common.{◌≡◌, [], ◌∷◌, ◌++◌, List, Bool, true, false, not, take, filter, ap, sym, ◌∙◌}
use Rattle.std.proofs.lemmas.List.{append-nil}
use Rattle.std.specs.Global.{Vec}
use Rattle.lattice.specs.Corners.{Corner}
use Rattle.catalogue.specs.Tiles.{corners_of}
use Rattle.edits.specs.Edits.{goes_stale_by}
use Rattle.table_engine.proofs.FreshTiles.{filtered_more}
use Rattle.table_engine.proofs.table_engine.still_fresh.Goals as goal
use Rattle.table_engine.proofs.table_engine.still_fresh.Goals.{then-not-leaves_stale+in_ok-push, else-not-leaves_stale}

pub loop-corner-preserved : goal.loop-corner-preserved
loop-corner-preserved c =
    let m = c.args.table.now in
    let stays = λ (p : Corner). not (goes_stale_by m.side (corners_of m) c.args.edit.now p) in
    let corner = c.corner-item.result in
    let i = c.loop-corner.corner-index in
    let more = λ (b : Bool) (is : stays corner ≡ b). filtered_more stays c.args.corners.now i corner b c.loop-corner-test.true c.corner-item.is is in
    elim c.if-not-leaves_stale.branch [
      | then-not-leaves_stale+in_ok-push w ↦
          ap (λ (v : Vec Corner). v.items) w.fresh-is ∙ w.in_ok-push.ensures.pushed ∙ ap (λ (l : List Corner). l ++ corner ∷ []) c.loop-corner.invariant
          ∙ sym (more true (ap not (sym c.leaves_stale.ensures ∙ w.if-not-leaves_stale.true)))
      | else-not-leaves_stale w ↦
          ap (λ (v : Vec Corner). v.items) w.fresh-is ∙ c.loop-corner.invariant
          ∙ sym (more false (ap not (sym c.leaves_stale.ensures ∙ w.if-not-leaves_stale.false)) ∙ append-nil (filter stays (take i c.args.corners.now)))
    ]
