use Rattle.catalogue.proofs.Asking.{asked}
use Rattle.catalogue.proofs.Reading.{reads_nothing}
use Rattle.std.proofs.Common.{Ok, refl}
use Rattle.tile_labellings.proofs.labellings.TableLabellings.kept_at.Goals as goal

pub returns-clause-asked : goal.returns-clause-asked
returns-clause-asked c = asked _ c.args.self.now c.args.self.now (tt {0}) (Ok _) (reads_nothing _ (λ _. refl) c.args.self.now (tt {0})) tt (λ _ _ e. absurd (cc))
