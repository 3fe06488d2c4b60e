use Rattle.store.proofs.Reading.WaterHeld.{upgraded_holding}
use Rattle.store.proofs.store.Store.upgrade.Goals as goal

pub returns-clause-upgraded : goal.returns-clause-upgraded
returns-clause-upgraded g c = upgraded_holding g.D.Disk c.args.self.now.tree c.upgrade_tree.new.tree c.args.self.now.held c.upgrade_tree.result c.upgrade_tree.ensures.upgraded
