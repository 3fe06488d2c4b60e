use Rattle.std.proofs.Common.{rules}
use Rattle.labelling.proofs.Squares.{row_of_cell, column_of_cell}
use Rattle.tile_flood.proofs.outlets.is_on_rim.Goals as goal

pub returns-then-j-eq0 : goal.returns-then-j-eq0
returns-then-j-eq0 c = rw (row_of_cell c.args.n c.args.i c.args.j c.requires.cell.1, column_of_cell c.args.n c.args.i c.args.j c.requires.cell.1) (search rules)

pub returns-else-j-eq0 : goal.returns-else-j-eq0
returns-else-j-eq0 c = rw (row_of_cell c.args.n c.args.i c.args.j c.requires.cell.1, column_of_cell c.args.n c.args.i c.args.j c.requires.cell.1) (search rules)
