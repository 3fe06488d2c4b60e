use Rattle.tile_flood.proofs.Prelude.{arith, length, nat_tests, sym, true≢false, ◌∙◌, ◌≡◌}
use Rattle.tile_flood.proofs.Buckets.{none_left}
use Rattle.tile_flood.proofs.PlainRows.{plain_if}
use Rattle.tile_flood.proofs.seeding.is_plain.Goals as goal
use Rattle.tile_flood.proofs.seeding.is_plain.Goals.{then-is_full, else-is_full}

pub returns-then-is_full-2 : goal.returns-then-is_full-2
returns-then-is_full-2 c below =
    let columns = c.requires.columns in
    let low = columns.0 in
    let high = columns.1.1 in
    let none : length c.args.block.now.sinks.now ≡ 0 = grind (arith, nat_tests) in
    elim c.if-is_full.branch [
      | then-is_full w ↦ plain_if c.args.block.now.n c.args.block.now.heights.now c.args.block.now.sinks.now c.args.span.row c.args.span.from c.args.span.to (none_left c.args.block.now.sinks.now none) (omega arith) (omega arith) low high
          (c.is_full.ensures w.if-is_full.true) (w.is_full-then-is_full.ensures (sym w.value-is ∙ c.if-is_full-2.true)) (c.is_full-then-is_full-2.ensures below)
      | else-is_full w ↦ absurd (true≢false (sym c.if-is_full-2.true ∙ w.value-is ∙ w.if-is_full.false))
    ]
