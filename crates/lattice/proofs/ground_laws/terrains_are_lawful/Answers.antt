use Rattle.lattice.proofs.Lawful.{terrain_is_lawful}
use Rattle.lattice.proofs.ground_laws.terrains_are_lawful.Goals as goal

pub returns : goal.returns
returns c = terrain_is_lawful
