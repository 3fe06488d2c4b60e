-- The trait `Engine`, for the laws of calls (defined by this product).
use Rattle.std.specs.Prelude.{◌≡◌}
use Rattle.engine.specs.Engines.{Members, Laws}
use Rattle.engine.specs.State.{State}
use Rattle.engine.specs.declared.engine.Engine.{Ghosts}

module _ {E : Type 0} (g : Ghosts E) where
  -- the ghosts of the engine
  abbrev pub members : Members E
  members = record {
    is_honest = g.is_honest;
    is_at = g.is_at;
    leaves_only = g.leaves_only;
    side_of = g.side_of;
    capacity_of = g.capacity_of;
    has_failed = g.has_failed;
    failures = g.failures;
    writes = g.writes;
    sectors = g.sectors;
    known = g.known;
  }

  -- the trait's laws
  pub record IsEngine : Type 0 where
    pub laws : Laws members g.called
    pub same_side : (e : E) (s : State) → g.is_at e s → s.contents.mosaic.side ≡ g.side_of e
