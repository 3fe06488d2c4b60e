use Rattle.std.proofs.Common.{◌≡◌, [], ◌++◌, List, false, not, ap, sym, ◌∙◌}
use Rattle.lattice.specs.Corners.{Corner}
use Rattle.lattice.proofs.Filters.{contains_filtered}
use Rattle.catalogue.specs.Tiles.{is_listed}
use Rattle.table_engine.proofs.FreshTiles.{filtered_more}
use Rattle.table_engine.proofs.table_engine.first_stale.Goals as goal

pub returns-then-not-contains : goal.returns-then-not-contains
returns-then-not-contains c =
    contains_filtered (λ p. not (is_listed p c.args.fresh.now)) c.args.corners.now c.corner-item.result
    (c.loop-corner.corner-index, c.loop-corner-test.true, sym c.corner-item.is)
    (ap not (sym c.contains.ensures.value ∙ c.if-not-contains.true))

pub loop-corner-preserved : goal.loop-corner-preserved
loop-corner-preserved c =
    let stale : not (is_listed c.corner-item.result c.args.fresh.now) ≡ false = ap not (sym c.contains.ensures.value ∙ c.if-not-contains.false) in
    filtered_more (λ p. not (is_listed p c.args.fresh.now)) c.args.corners.now c.loop-corner.corner-index c.corner-item.result false c.loop-corner-test.true c.corner-item.is stale
    ∙ ap (λ (l : List Corner). l ++ []) c.loop-corner.invariant
