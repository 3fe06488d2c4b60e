use Rattle.stored_mosaic.proofs.Prelude.{ℕ, false, has_rows, ◌<◌, ◌≡◌, ◌≤◌}
use Rattle.stored_mosaic.proofs.voids.VoidFillsPageEdit.next_page.Given as goal

abbrev pub invariant-loop-index : goal.invariant-loop-index
invariant-loop-index l = (i : ℕ) → l.from ≤ i → i < l.index → has_rows l.side l.corner i l.self.patch ≡ false
