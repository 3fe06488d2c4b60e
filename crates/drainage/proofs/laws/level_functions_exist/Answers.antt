use Rattle.drainage.proofs.Questions.LevelFunctions.{level_function}
use Rattle.drainage.proofs.laws.level_functions_exist.Goals as goal

pub returns : goal.returns
returns c = level_function
