-- Answers about all samples of a tile.
use Rattle.std.specs.Prelude.{ℕ}
use Rattle.water.specs.declared.flow.Flow.{Flow}
use Rattle.water.specs.declared.flow.Flow.TheVariants.{NoGround}
use Rattle.water.specs.Flows.{direction_of}
use Rattle.water.specs.Questions.{code_by}

-- the direction code of a sample with this flow; 255 if it isn't ground
abbrev pub code_told : Flow → ℕ
code_told NoGround = 255
code_told flow = code_by (direction_of flow)
