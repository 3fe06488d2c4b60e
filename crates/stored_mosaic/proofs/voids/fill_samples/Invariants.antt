use Rattle.std.proofs.Common.{◌≡◌, false, length}
use Rattle.stored_mosaic.proofs.Edits.VoidPages.{IsFilledTo}
use Rattle.stored_mosaic.proofs.voids.fill_samples.Given as goal

abbrev pub invariant-loop-at : goal.invariant-loop-at
invariant-loop-at l = record {
  filled : IsFilledTo l.side l.rim l.patch l.index l.at l.fn.page l.page;
  long : length l.page ≡ 4096;
  left : l.is_filled ≡ false → l.page ≡ l.fn.page;
}
