use Rattle.tile_flood.proofs.Prelude.{label_of, labels_of, length, length-map, level_of, levels_of, ◌*◌, ◌∙◌, ◌≡◌}
use Rattle.tile_flood.proofs.Spreading.{seeding_start}
use Rattle.tile_flood.proofs.flood.flood_cells.Goals as goal

pub seed-requires-clause-state : goal.seed-requires-clause-state
seed-requires-clause-state c =
    let n = c.args.block.now.n in
    let heights = c.args.block.now.heights.now in
    let cells = c.args.cells.now in
    let whole : length cells ≡ n * n = c.requires.cells.whole ∙ c.args.block.now.whole.whole in
    seeding_start n heights c.args.block.now.sinks.now (levels_of cells) (labels_of cells) c.in_ok-queue.queue (length-map cells level_of ∙ whole) (length-map cells label_of ∙ whole)
    c.requires.no_level c.requires.no_label
    c.in_ok-queue.ensures
