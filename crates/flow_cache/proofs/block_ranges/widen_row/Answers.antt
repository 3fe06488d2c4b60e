use Rattle.flow_cache.proofs.Prelude.{arith, get_or, length, rules, set, subst, sym, void, ◌*◌, ◌+◌, ◌<◌, ◌≡◌}
use Rattle.flow_cache.specs.LevelRanges.{block_of, range_at, with_level, AreRangesTo}
use Rattle.flow_cache.proofs.Changes.LevelRanges.{one_more}
use Rattle.flow_cache.proofs.block_ranges.widen_row.Goals as goal

pub loop-column-preserved : goal.loop-column-preserved
loop-column-preserved c =
    let width = c.args.width in
    let row = c.args.row in
    let column = c.loop-column.column in
    let levels = c.args.levels.now in
    let ranges = c.loop-column.ranges in
    let b = block_of row column in
    let so = c.loop-column.invariant in
    let small : column < width = c.loop-column-test.true in
    let inside : b < length ranges = omega (arith, so.whole, c.requires.whole, c.requires.row, c.requires.width, small) in
    let next : row * width + column + 1 ≡ row * width + (column + 1) = omega arith in
    let made : c.widen.new.ranges ≡ set ranges b (with_level (range_at ranges b) (get_or levels (row * width + column) void)) = search rules in
    record {
      whole = search rules;
      so = subst (λ k. AreRangesTo width k levels c.widen.new.ranges) next (subst (AreRangesTo width (row * width + column + 1) levels) (sym made) (one_more width row column levels ranges small inside so.so));
    }
