use Rattle.cow_tree.proofs.Prelude.{AreStaged, HasFreshHeights, List, PageMapValue, StoresAt, TileLocation, ap, arith, corners_of_locations, format_of, length, map, pages_due, subst, sym, tile_in, ◌∙◌, ◌≡◌}
use Rattle.cow_tree.proofs.Listed.Due.{prepared_due, prepared_due_same, prepared_located, prepared_still}
use Rattle.cow_tree.proofs.Prepared.{prepared_tiles, prepared_corners, still_prepared}
use Rattle.cow_tree.proofs.Steps.{on_ok, either_way}
use Rattle.cow_tree.proofs.tree.Tree.prepare.Goals as goal

pub returns-clause-corners : goal.returns-clause-corners
returns-clause-corners g c =
    let old = c.args.self.now.page_map in
    let corners = λ (x : PageMapValue). corners_of_locations x.staged in
    either_way c.prepare.result c.prepare.ensures.prepared c.prepare.ensures.unchanged
    (λ prepared. ap corners prepared.changed ∙ prepared_corners c.args.c prepared.record_page old.staged)
    (λ same. ap corners same)

pub returns-clause-staged : goal.returns-clause-staged
returns-clause-staged g c =
    let old = c.args.self.now.page_map in
    let seen = g.D.Disk.seen c.args.self.now.roots.disk in
    let tiles = λ (x : PageMapValue). map (tile_in seen) x.staged in
    either_way c.prepare.result c.prepare.ensures.prepared c.prepare.ensures.unchanged
    (λ prepared. ap tiles prepared.changed ∙ prepared_tiles c.args.c prepared.record_page seen old.staged)
    (λ same. ap tiles same)

pub returns-clause-due : goal.returns-clause-due
returns-clause-due g c =
    let old = c.args.self.now.page_map in
    either_way c.prepare.result c.prepare.ensures.prepared c.prepare.ensures.unchanged
    (λ prepared. prepared_due old c.prepare.new.self c.args.c c.rules.ensures prepared c.requires.present)
    (λ same. (let due = ap (λ (x : PageMapValue). length (pages_due x)) same in omega (arith, due)))

pub returns-clause-due_same : goal.returns-clause-due_same
returns-clause-due_same g c had =
    let old = c.args.self.now.page_map in
    either_way c.prepare.result c.prepare.ensures.prepared c.prepare.ensures.unchanged
    (λ prepared. prepared_due_same old c.prepare.new.self c.args.c c.rules.ensures prepared c.requires.present had)
    (λ same. ap (λ (x : PageMapValue). length (pages_due x)) same)

pub returns-clause-has_staged : goal.returns-clause-has_staged
returns-clause-has_staged g c =
    on_ok c.prepare.result (λ prepared. prepared_located c.args.self.now.page_map c.prepare.new.self c.args.c c.rules.ensures prepared c.requires.present) c.prepare.ensures.prepared

pub returns-clause-still_staged : goal.returns-clause-still_staged
returns-clause-still_staged g c other had =
    let old = c.args.self.now.page_map in
    either_way c.prepare.result c.prepare.ensures.prepared c.prepare.ensures.unchanged
    (λ prepared. prepared_still old c.prepare.new.self c.args.c c.rules.ensures prepared other had)
    (λ same. subst (HasFreshHeights other) (sym same) had)

pub returns-clause-at : goal.returns-clause-at
returns-clause-at g c s is =
    let old = c.args.self.now in
    let seen = g.D.Disk.seen old.roots.disk in
    let committed : c.prepare.new.self.committed ≡ old.page_map.committed =
    either_way c.prepare.result c.prepare.ensures.prepared c.prepare.ensures.unchanged (λ prepared. ap (λ (x : PageMapValue). x.committed) prepared.changed) (λ same. ap (λ (x : PageMapValue). x.committed) same) in
    record {
      ready = is.ready;
      each = λ image may. subst (λ (tiles : List TileLocation). StoresAt (g.D.Disk.size old.roots.disk) old.roots.root tiles s image) (sym committed) (is.each image may);
      staged = either_way c.prepare.result c.prepare.ensures.prepared c.prepare.ensures.unchanged
          (λ prepared. still_prepared (format_of old.roots.root) old.page_map c.prepare.new.self c.args.c seen prepared is.staged)
          (λ same. subst (λ (x : PageMapValue). AreStaged (format_of old.roots.root) x.committed x.staged seen) (sym same) is.staged);
    }
