use Rattle.std.proofs.Common.{◌≡◌, Some, None, sym, ◌∙◌}
use Rattle.levels.proofs.Prelude.{Option, corner_at}
use Rattle.levels.proofs.tile_cache.TileCache.new.Goals as goal

none_some : {A : Type 0} (a : A) → ◌≡◌ {A = Option A} None (Some a) → ⊥
none_some a e = cc

pub returns-clause-right : goal.returns-clause-right
returns-clause-right g c honest = record {
  ready = c.in_ok-rim_graph.ensures.ready honest;
  labellings = λ t. c.in_ok-labellings.ensures.entered (g.S.Samples.mosaic c.args.samples.now) (corner_at c.in_ok-rim_graph.rim_graph.corners.items t) t;
  levels = λ x level at. absurd (none_some level (sym (c.new-3.ensures.none x) ∙ at));
}
