-- The contents after a step are those that the step makes.
use Rattle.stored_mosaic.proofs.Prelude.{Contents, Corner, Holds, IsMosaic, KeptPlanes, List, Mosaic, Point, Stored, ℕ, ap, ap₂, filter, mosaic_of_tiles, next_commit, not, same_corner, stepped, subst, sym, ◌+◌, ◌∙◌, ◌≡◌}
use Rattle.cow_tree.specs.Kept.{with_kept_in, with_kept}
use Rattle.derived.specs.Kept.{AreRight, KeepRight, KeepsRight, mosaic_stored}
use Rattle.derived.specs.Steps.{IsStepped}
use Rattle.derived.proofs.KeptTiles.{others_stay, still_right, stale_less}
use Rattle.stored_mosaic.proofs.Reading.HeldTiles.{keepers_held, whole_filled}
use Rattle.stored_mosaic.proofs.Reading.Holding.{held, holds_from}

module _ (side capacity : ℕ) (stored : Stored) (c : Contents) (holds : Holds side capacity stored c) where
  -- The stored mosaic is that of the contents.
  pub stored_mosaic : mosaic_stored stored ≡ c.mosaic
  stored_mosaic =
      ap₂ (λ (n : ℕ) (sinks : List Point). mosaic_of_tiles n sinks stored.tiles) holds.stored_side holds.sinks ∙ sym (held side capacity stored c holds).mosaic

  -- All kept planes are right in that mosaic.
  pub stored_right : KeepsRight stored
  stored_right = record {
    pages = whole_filled side stored.tiles (held side capacity stored c holds).filled;
    valid = subst IsMosaic (sym stored_mosaic) holds.valid;
    kept = subst (λ (m : Mosaic). KeepRight m stored.tiles) (sym stored_mosaic) holds.kept;
  }

  step_holds : (corner : Corner) (kept : KeptPlanes) → AreRight c.mosaic corner kept → Holds side capacity (next_commit stored stored.sinks (with_kept corner kept stored.tiles) stored.count) (stepped corner c)
  step_holds corner kept right =
      holds_from side capacity (next_commit stored stored.sinks (with_kept corner kept stored.tiles) stored.count) (stepped corner c) holds.stored_side holds.stored_capacity holds.version (ap (λ (k : ℕ). k + 1) holds.number) holds.count holds.sinks
      holds.valid (keepers_held side (with_kept_in corner kept) (others_stay corner kept) stored.tiles c.mosaic (held side capacity stored c holds)) (still_right corner kept c.mosaic right stored.tiles holds.kept)
      (ap (filter (λ d. not (same_corner d corner))) holds.stale ∙ stale_less corner kept stored.tiles)

  pub stepped_holds : (corner : Corner) (now : Stored) → IsStepped stored corner now → Holds side capacity now (stepped corner c)
  stepped_holds corner now is =
      subst (λ (t : Stored). Holds side capacity t (stepped corner c)) (sym is.now_is)
      (step_holds corner is.kept (subst (λ (m : Mosaic). AreRight m corner is.kept) stored_mosaic is.right))
