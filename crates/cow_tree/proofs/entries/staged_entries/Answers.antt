use Rattle.cow_tree.proofs.Prelude.{All, AreInOrder, IsEntry, TileLocation, ap, arith, entry_of, length, length-map, map, subst, sym, take_all, ◌∙◌, ◌≡◌, ◌≤◌}
use Rattle.cow_tree.proofs.Listed.EntryTiles.{entries_rules, entries_in_order, one_entry_more}
use Rattle.cow_tree.proofs.entries.staged_entries.Goals as goal
use Rattle.cow_tree.proofs.entries.staged_entries.Goals.{After-loop-corner}

pub loop-corner-preserved : goal.loop-corner-preserved
loop-corner-preserved c =
    let listed = c.as_slice-corner-items.ensures.value ∙ c.corners-corners.ensures.value in
    rw c.push.ensures.items (one_entry_more c.args.page_map.now.staged c.loop-corner.corner-index c.corner-item.result c.loop-corner.entries.items _
    (rw listed at c.loop-corner-test.true) (rw listed at c.corner-item.is) c.loop-corner.invariant c.next_entry-entry.ensures)

all_listed : (c : After-loop-corner) → c.loop-corner.entries.items ≡ map entry_of c.args.page_map.now.staged
all_listed c =
    let all : length c.args.page_map.now.staged ≤ c.loop-corner.corner-index =
    omega (arith, c.loop-corner-test.false, ap length (c.as_slice-corner-items.ensures.value ∙ c.corners-corners.ensures.value), length-map c.args.page_map.now.staged (λ (t : TileLocation). t.corner)) in
    c.loop-corner.invariant ∙ ap (map entry_of) (take_all c.loop-corner.corner-index c.args.page_map.now.staged all)

pub returns-clause-each : goal.returns-clause-each
returns-clause-each c = subst (All IsEntry) (sym (all_listed (goal.at.returns-clause-each c).After-loop-corner)) (entries_rules c.args.page_map.now c.rules.ensures c.requires.fits)

pub returns-clause-in_order : goal.returns-clause-in_order
returns-clause-in_order c = subst AreInOrder (sym (all_listed (goal.at.returns-clause-in_order c).After-loop-corner)) (entries_in_order c.args.page_map.now c.rules.ensures)
