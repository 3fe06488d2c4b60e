use Rattle.page_map.proofs.Prelude.{ap, false≢true, is_some, staged_tile, sym, ◌∙◌, ◌≡◌}
use Rattle.page_map.proofs.Changed.{unchanged_tile}
use Rattle.page_map.proofs.Listing.{some_alike}
use Rattle.page_map.proofs.tile_entry.TileEntry.is_changed.Goals as goal

pub returns-then-is_unchanged-clause-same : goal.returns-then-is_unchanged-clause-same
returns-then-is_unchanged-clause-same c _ corner t is =
    let same = c.is_unchanged.ensures in
    let holds = c.if-is_unchanged.true in
    unchanged_tile corner c.args.self.now (same.heights holds) (same.levels holds) (same.labels holds) ∙ is

pub returns-clause-staged : goal.returns-clause-staged
returns-clause-staged c changed corner = sym (some_alike c.location.result (corner, c.args.self.now) c.location.ensures) ∙ (sym c.is_some.ensures ∙ changed)

pub returns-clause-same : goal.returns-clause-same
returns-clause-same c unchanged corner t is =
    let none : is_some (staged_tile (corner, c.args.self.now)) ≡ c.is_some.result = sym (some_alike c.location.result (corner, c.args.self.now) c.location.ensures) ∙ sym c.is_some.ensures in
    absurd (false≢true (sym (none ∙ unchanged) ∙ ap is_some is))
