use Rattle.std.proofs.Common.{rules}
use Rattle.table_engine.proofs.table_engine.TableEngine.new.Goals as goal

pub invariant_of-result : goal.invariant_of-result
invariant_of-result c = record { valid = c.new.ensures.valid; above = search rules; within = search rules; right = c.new-3.ensures c.new.result }
