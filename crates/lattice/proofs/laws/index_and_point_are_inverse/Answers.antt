use Rattle.lattice.proofs.Prelude.{arith, index_of, ◌<◌}
use Rattle.lattice.proofs.Samples.{index_of_point, index_below, point_at_index, index_of_held, held_at}
use Rattle.lattice.proofs.laws.index_and_point_are_inverse.Goals as goal

pub returns-clause-point : goal.returns-clause-point
returns-clause-point c = λ n k e side corner small. let some : 0 < n = omega (arith, side) in index_of_point n k e some corner small

pub returns-clause-one_point : goal.returns-clause-one_point
returns-clause-one_point c = λ n k p e index. (index_below n k p e index, point_at_index n k p e index)

pub returns-clause-held : goal.returns-clause-held
returns-clause-held c = λ n k p. (λ held. (index_of n k p, index_of_held n k p held), λ some. held_at n k p some.0 some.1)
