use Rattle.std.proofs.Common.{rules}
use Rattle.labelling.proofs.Squares.{row_of_cell, column_of_cell}
use Rattle.tile_flood.proofs.outlets.number_of.Goals as goal

pub returns : goal.returns
returns c = rw (row_of_cell c.args.n c.args.i c.args.j c.requires.cell.1, column_of_cell c.args.n c.args.i c.args.j c.requires.cell.1) (search rules)
