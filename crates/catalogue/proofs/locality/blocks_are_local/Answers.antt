use Rattle.catalogue.proofs.Nearby.{near_height, near_block, near_adjacent, near_outlet}
use Rattle.catalogue.proofs.locality.blocks_are_local.Goals as goal

pub returns-clause-heights : goal.returns-clause-heights
returns-clause-heights c = near_height

pub returns-clause-blocks : goal.returns-clause-blocks
returns-clause-blocks c = near_block

pub returns-clause-adjacency : goal.returns-clause-adjacency
returns-clause-adjacency c = λ m new m_valid new_valid side k same p q held. near_adjacent m new m_valid new_valid side k same p held q

pub returns-clause-outlets : goal.returns-clause-outlets
returns-clause-outlets c = λ m new m_valid new_valid side k same sinks p held. near_outlet m new m_valid new_valid side k same p held (sinks p held)
