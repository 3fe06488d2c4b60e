use Rattle.std.proofs.Common.{arith}
use Rattle.tile_labellings.proofs.LittleBytes.{levels_read}
use Rattle.tile_labellings.proofs.bytes.fill_levels.Goals as goal

pub returns : goal.returns
returns c = levels_read c.args.bytes.now c.read_i16_into.new.dst (omega arith) c.type_inv.bytes (λ d k below. c.read_i16_into.ensures d k below)
