use Rattle.catalogue.proofs.Presence.{corners_in_order}
use Rattle.catalogue.proofs.table.TableSamples.present_corners.Goals as goal

pub returns-clause-in_order : goal.returns-clause-in_order
returns-clause-in_order c = corners_in_order c.args.self.now c.corners.ensures.valid
