-- If no record is due, nothing is staged.
use Rattle.stored_mosaic.proofs.Prelude.{Corner, Ghosts, HasStaged, Tree, arith, records_due, ◌≡◌}
use Rattle.cow_tree.proofs.Listed.Due.{fresh_due}

pub none_staged : {D : Type 0} (g : Ghosts D) (tree : Tree D g) → records_due tree ≡ 0 → (c : Corner) → ¬ HasStaged tree c
none_staged g tree none c had = omega (arith, fresh_due tree.page_map c had, none)
