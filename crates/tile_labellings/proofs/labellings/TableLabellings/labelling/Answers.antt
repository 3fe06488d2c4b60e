use Rattle.catalogue.proofs.Asking.{asked}
use Rattle.std.proofs.Common.{Ok}
use Rattle.tile_labellings.proofs.labellings.TableLabellings.labelling.Goals as goal

pub returns-clause-asked : goal.returns-clause-asked
returns-clause-asked c = asked _ c.args.self.now c.flooded.new.samples (tt {0}) (Ok _) c.in_ok-flooded.ensures.reads tt (λ _ _ e. absurd (cc))
