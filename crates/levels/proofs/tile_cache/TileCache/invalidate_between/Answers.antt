use Rattle.levels.proofs.Prelude.{Corner, IsHeldAt, IsNoHigher, List, false, is_reached, known_of, subst, ◌↔◌, ◌≡◌}
use Rattle.levels.proofs.Caches.Growing.{known_by}
use Rattle.levels.proofs.Changes.Invalidated.{left_right}
use Rattle.levels.proofs.tile_cache.TileCache.invalidate_between.Goals as goal

pub returns-clause-left : goal.returns-clause-left
returns-clause-left c =
    let was = c.args.self.now in
    let rim_graph = c.invalidate_between-2.ensures in
    record {
      same_side = rim_graph.side;
      same_corners = rim_graph.corners;
      whole = rim_graph.whole;
      loaded = rim_graph.loaded;
      labellings = λ t labelled. subst (λ (cs : List Corner). IsHeldAt c.invalidate_between.new.self.held.items t labelled ↔ (IsHeldAt was.labellings.held.items t labelled × (is_reached was.rim_graph.side cs c.args.from c.args.to t ≡ false)))
          c.deref.ensures.value (c.invalidate_between.ensures.left t labelled);
      levels = c.invalidate_above.ensures.levels;
    }

pub returns-clause-right : goal.returns-clause-right
returns-clause-right c m new differ still right =
    left_right m new c.args.from c.args.to (IsNoHigher c.args.most) (known_of c.args.self.now) (known_by c.invalidate_between-2.new.self c.invalidate_between.new.self c.invalidate_above.new.self) differ still
    (returns-clause-left c) right
