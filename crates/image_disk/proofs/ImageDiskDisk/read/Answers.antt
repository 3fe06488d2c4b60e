use Rattle.std.proofs.Common.{◌≡◌, ℕ, ◌+◌, ◌-◌, ◌*◌, take, drop, ap, ◌∙◌, arith}
use Rattle.image_disk.specs.ImageDisks.{bytes_of}
use Rattle.image_disk.proofs.ImageDiskDisk.read.Goals as goal

pub returns-clause-read : goal.returns-clause-read
returns-clause-read c _ =
    let from : ℕ = c.args.s * 4096 in
    let count : from + 4096 - from ≡ 4096 = omega arith in
    c.copy_from_slice.ensures.after ∙ ap (λ (n : ℕ). take n (drop from (bytes_of c.args.self.now))) count
