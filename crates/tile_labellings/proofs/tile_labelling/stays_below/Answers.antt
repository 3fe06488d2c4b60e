use Rattle.std.proofs.Common.{rules}
use Rattle.tile_labellings.proofs.tile_labelling.stays_below.Goals as goal

pub returns-then-to-ne-VOID-clause-yes : goal.returns-then-to-ne-VOID-clause-yes
returns-then-to-ne-VOID-clause-yes c done = record { inside = search rules; below = search rules; full = search rules; low = search rules }
