use Rattle.page_map.specs.Locations.{listing_of}
use Rattle.page_map.proofs.FreeTimes.{taken-append}
use Rattle.page_map.proofs.upgrading.upgraded_kept.Goals as goal

pub returns-clause-taken : goal.returns-clause-taken
returns-clause-taken c =
    taken-append (listing_of c.in_ok-levels.levels) (listing_of c.in_ok-labels.labels) c.args.free.now c.upgraded_plane.new.free c.upgraded_plane-2.new.free c.in_ok-levels.ensures.taken c.in_ok-labels.ensures.taken
