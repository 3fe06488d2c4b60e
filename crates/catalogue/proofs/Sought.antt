-- The seam rule during a search.
use Rattle.catalogue.proofs.Prelude.{Height, List, ℤ}
use Rattle.lattice.specs.declared.height.Height.TheVariants.{Outside, Void, At}
use Rattle.lattice.specs.Height.{first_height, by_seam_rule}

-- the height, from the one found so far and the remaining samples
abbrev pub height_from : Height → List ℤ → Height
height_from Outside later = by_seam_rule later
height_from Void later = first_height later
height_from (At h) later = At h
