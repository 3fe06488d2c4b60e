use Rattle.std.proofs.Common.{◌≡◌, List}
use Rattle.engine.specs.Runs.{last_of}
use Rattle.lines.specs.Ahead.{to_come, weight}
use Rattle.serving.specs.Moments.{AreTurns, Moment, at_first}
use Rattle.serving.specs.Outputs.{HasLeft}
use Rattle.serving.specs.Session.{SoFar}
use Rattle.serving.proofs.session.serve_items.Given as goal

-- what was answered so far, without a failure of the output, and all of it has left
abbrev pub invariant-items : goal.invariant-items
invariant-items g l = ((g.O.Output.stream l.writer).failures ≡ (g.O.Output.stream l.fn.writer).failures)
    × ((after : List _) × ((last_of l.fn.responder after ≡ l.responder)
    × SoFar l.fn.language g.A.Responder.responded (g.R.Read.remaining l.fn.reader) (to_come l.ahead (g.R.Read.remaining l.reader)) (g.O.Output.stream l.fn.writer).contents (g.O.Output.stream l.writer).contents l.fn.responder after))
    × HasLeft (g.O.Output.stream l.fn.writer) (g.O.Output.stream l.writer)
    × ((moments : List (Moment _ _ _)) × (AreTurns g.A.Responder.responded l.fn.language g.R.Read.remaining g.O.Output.stream (at_first l.fn.reader l.fn.writer l.fn.responder) moments
    × (last_of (at_first l.fn.reader l.fn.writer l.fn.responder) moments ≡ record { ahead = l.ahead; reader = l.reader; writer = l.writer; engine = l.responder })))

abbrev pub decreases-items : goal.decreases-items
decreases-items g l = weight l.ahead
