use Rattle.std.proofs.Common.{◌≡◌, sym, ap, ◌∙◌}
use Rattle.std.specs.Prelude.{◌&&◌}
use Rattle.std.specs.List.{list_any}
use Rattle.std.specs.Option.{is_none}
use Rattle.lattice.specs.Corners.{same_corner}
use Rattle.page_codec.specs.Roots.{RootValue}
use Rattle.catalogue.specs.Tiles.{is_listed}
use Rattle.cow_tree.specs.Trees.{disk_of, root_of}
use Rattle.derived.specs.Kept.{stale_in}
use Rattle.derived.proofs.KeptTiles.{entry_listed, is_fresh}
use Rattle.derived.proofs.RootStored.{stale_at}
use Rattle.derived.proofs.staleness.stale.Goals as goal

pub returns-clause-value : goal.returns-clause-value
returns-clause-value g c =
    c.is_stale.ensures ∙ ap (list_any (λ e. same_corner e.corner c.args.corner && is_none e.kept)) (c.entries.ensures.value ∙ ap (λ (r : RootValue). r.entries) c.current.ensures)
    ∙ entry_listed c.args.corner (root_of c.args.tree.now).entries

pub returns-clause-kept : goal.returns-clause-kept
returns-clause-kept g c honest s at keeps present fresh =
    let tree = c.args.tree.now in
    let value : c.is_stale.result ≡ is_listed c.args.corner (stale_in (root_of tree)) = returns-clause-value g c in
    is_fresh s c.args.corner keeps present
    (ap (is_listed c.args.corner) (sym (stale_at g.D.Disk tree s at (g.met.D.Disk.seen_may (disk_of tree) honest))) ∙ sym value ∙ fresh)
