use Rattle.stored_mosaic.proofs.Prelude.{Corner, List, RootValue, Stales, Tree, ap₂, arith, corners_of, false, get_or, goes_stale_by, length, refl, root_of, rules, subst, sym, take, true, ◌+◌, ◌<◌, ◌∙◌, ◌≡◌, ◌≤◌}
use Rattle.stored_mosaic.proofs.Reading.Nearby.{passes_first, first_more, first_same, first_all}
use Rattle.stored_mosaic.proofs.Edits.Staled.{stales_none}
use Rattle.stored_mosaic.proofs.marking_stale.mark_stale.Goals as goal
use Rattle.stored_mosaic.proofs.marking_stale.mark_stale.Goals.{then-is_stale, else-is_stale}

pub loop-corner-init : goal.loop-corner-init
loop-corner-init g c = stales_none g.D.Disk c.args.tree.now

pub loop-corner-preserved : goal.loop-corner-preserved
loop-corner-preserved g c =
    let d = g.D.Disk in
    let old = c.args.tree.now in
    let mid = c.loop-corner.tree in
    let edit = c.args.edit.now in
    let corners = corners_of old in
    let test = goes_stale_by (root_of old).side corners edit in
    let listed : c.as_slice-corner-items.result.now ≡ corners = c.as_slice-corner-items.ensures.value ∙ c.corners-corners.ensures.corners in
    let i = c.loop-corner.corner-index in
    let here : Corner = c.corner-item.result in
    let within : i < length corners = subst (λ (cs : List Corner). i < length cs) listed c.loop-corner-test.true in
    let is : here ≡ get_or corners i here = subst (λ (cs : List Corner). here ≡ get_or cs i here) listed c.corner-item.is in
    let so = c.loop-corner.invariant in
    let same : goes_stale_by (root_of mid).side (corners_of mid) edit here ≡ test here =
    ap₂ (λ (r : RootValue) (cs : List Corner). goes_stale_by r.side cs edit here) so.no_call.root so.corners in
    elim c.if-is_stale.branch [
      | then-is_stale w ↦
          let stale : goes_stale_by (root_of mid).side (corners_of mid) edit here ≡ true = search rules in
          let dropped = w.drop_kept.ensures in
          subst (λ (t : Tree _ d). Stales d (passes_first test (take (i + 1) corners)) old t) (sym w.tree-is)
          (first_more d test corners i here within is old mid so w.drop_kept.new.self (sym same ∙ stale)
          (record { no_call = dropped.no_call; corners = dropped.corners; sinks = dropped.sinks; due = let due = dropped.due in omega (arith, due); staged = dropped.staged; at = dropped.at }))
      | else-is_stale w ↦
          let fresh : goes_stale_by (root_of mid).side (corners_of mid) edit here ≡ false = search rules in
          subst (λ (t : Tree _ d). Stales d (passes_first test (take (i + 1) corners)) old t) (sym w.tree-is)
          (first_same d test corners i here within is old mid so (sym same ∙ fresh))
    ]

pub returns : goal.returns
returns g c =
    let old = c.args.tree.now in
    let listed : c.as_slice-corner-items.result.now ≡ corners_of old = c.as_slice-corner-items.ensures.value ∙ c.corners-corners.ensures.corners in
    first_all g.D.Disk old c.loop-corner.tree (goes_stale_by (root_of old).side (corners_of old) c.args.edit.now) (corners_of old) c.loop-corner.corner-index refl
    (subst (λ (cs : List Corner). length cs ≤ c.loop-corner.corner-index) listed c.loop-corner-test.false) c.loop-corner.invariant
