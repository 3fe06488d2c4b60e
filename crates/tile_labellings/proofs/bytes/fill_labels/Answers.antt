use Rattle.std.proofs.Common.{arith}
use Rattle.tile_labellings.proofs.LittleBytes.{labels_read}
use Rattle.tile_labellings.proofs.bytes.fill_labels.Goals as goal

pub returns : goal.returns
returns c = labels_read c.args.bytes.now c.read_u16_into.new.dst (omega arith) (λ k below. c.read_u16_into.ensures k below)
