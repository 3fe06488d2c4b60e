use Rattle.std.proofs.Common.{map, string_bytes, ◌∙◌}
use Rattle.std.proofs.lemmas.Slice.Zip.{AllZip-long}
use Rattle.hgt.specs.Names.{IsName}
use Rattle.mosaic_tiles.proofs.writing.write_all.Goals as goal

pub loop-i-init : goal.loop-i-init
loop-i-init c = λ named. c.len-count.ensures ∙ c.in_ok-corners.corners.ok.0 ∙ AllZip-long IsName (map string_bytes c.args.asked.now.names.now) c.in_ok-corners.corners.items (c.in_ok-corners.ensures.named named)
