use Rattle.page_map.proofs.Prelude.{listing_of, listing_of_kept}
use Rattle.page_map.proofs.FreeTimes.{taken-append}
use Rattle.page_map.proofs.upgrading.upgraded_planes.Goals as goal

pub returns-clause-taken : goal.returns-clause-taken
returns-clause-taken c =
    taken-append (listing_of c.in_ok-heights.heights) (listing_of_kept c.in_ok-kept.kept) c.args.free.now c.upgraded_plane.new.free c.upgraded_kept.new.free c.in_ok-heights.ensures.taken c.in_ok-kept.ensures.taken
