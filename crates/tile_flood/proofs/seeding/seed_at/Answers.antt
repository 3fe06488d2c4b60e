use Rattle.tile_flood.proofs.Prelude.{IsSeeding, List, Queue, SFits, ℕ, ℤ, ap, arith, block_of, is_exit, labels_of, levels_of, of_z, rules, subst, to_z, to_z-of_z, w16, ◌*◌, ◌+◌, ◌∙◌, ◌≡◌}
use Rattle.tile_flood.proofs.InCells.{own_labelled}
use Rattle.labelling.proofs.Squares.{in_square}
use Rattle.tile_flood.proofs.Spreading.{seeded, seeds_passed}
use Rattle.tile_flood.proofs.seeding.seed_at.Goals as goal

pub mark-requires-clause-labelled : goal.mark-requires-clause-labelled
mark-requires-clause-labelled c = own_labelled c.args.block.now.n c.args.block.now.heights.now c.args.block.now.sinks.now (c.args.i * c.args.block.now.n + c.args.j) c.in-Some.label c.args.block.now.whole.side (in_square c.args.block.now.n c.args.i c.args.j c.requires.cell.0 c.requires.cell.1) c.in-Some.ensures.label

next_point : (n : ℕ) (heights : List ℤ) (sinks : List ℕ) (levels : List ℤ) (labels : List ℕ) (queue : Queue) (west j : ℕ) →
    IsSeeding (block_of n heights sinks) levels labels queue ((west + j) + 1) → IsSeeding (block_of n heights sinks) levels labels queue (west + (j + 1))
next_point n heights sinks levels labels queue west j s = let same : (west + j) + 1 ≡ west + (j + 1) = omega arith in subst (IsSeeding (block_of n heights sinks) levels labels queue) same s

pub returns-clause-cells : goal.returns-clause-cells
returns-clause-cells c = c.in_ok-mark.ensures.cells c.args.block.now.heights.now c.requires.cells

pub returns-clause-state : goal.returns-clause-state
returns-clause-state c =
    let fits : SFits w16 c.at.result = search rules in
    let a = c.in_ok-mark.ensures in
    let west = c.args.i * c.args.block.now.n in
    let j = c.args.j in
    let levels = levels_of c.args.cells.now in
    let labels = labels_of c.args.cells.now in
    let levels' = levels_of c.mark.new.cells in
    let labels' = labels_of c.mark.new.cells in
    next_point c.args.block.now.n c.args.block.now.heights.now c.args.block.now.sinks.now levels' labels' c.mark.new.queue west j
    (seeded c.args.block.now.n c.args.block.now.heights.now c.args.block.now.sinks.now levels levels' labels labels' c.args.queue.now c.mark.new.queue (west + j) (to_z w16 (of_z w16 c.at.result)) c.in-Some.label c.requires.state
    c.in-Some.ensures.outlet c.in-Some.ensures.label (to_z-of_z fits ∙ c.at.ensures) a.levels a.labels a.joined)

pub returns-in_default-clause-state : goal.returns-in_default-clause-state
returns-in_default-clause-state c =
    let west = c.args.i * c.args.block.now.n in
    let levels = levels_of c.args.cells.now in
    let labels = labels_of c.args.cells.now in
    seeds_passed c.args.block.now.n c.args.block.now.heights.now c.args.block.now.sinks.now levels labels c.args.queue.now (west + c.args.j) (west + (c.args.j + 1)) c.requires.state (omega arith)
    (λ e from below. let same : e ≡ west + c.args.j = omega arith in ap (is_exit (block_of c.args.block.now.n c.args.block.now.heights.now c.args.block.now.sinks.now)) same ∙ c.in_default.ensures.none)
