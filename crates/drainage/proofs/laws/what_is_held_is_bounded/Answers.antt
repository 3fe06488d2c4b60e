use Rattle.drainage.proofs.Prelude.{All, LabellingCache, None, Option, Some, TileCache, ℕ, ap, arith, count_by, length, subst, ◌*◌, ◌+◌, ◌-◌, ◌/◌, ◌∙◌, ◌≡◌, ◌≤◌}
use Rattle.std.proofs.lemmas.Grind.{rows}
use Rattle.std.proofs.lemmas.List.Sums.{sum_by-le}
use Rattle.std.proofs.Math.Nat.{mul-div-le, mul-le-mul_left}
use Rattle.drainage.specs.Between.{are_of_side, rim_points_of, tile_bytes}
use Rattle.levels.specs.Room.{graph_size, has_block, labelling_bytes, HasSide}
use Rattle.drainage.proofs.laws.what_is_held_is_bounded.Goals as goal

at_most : (each count most : ℕ) → count ≤ most / each → each * count ≤ most
at_most each count most few = let more = mul-le-mul_left each few in let all = mul-div-le most each in omega (arith, more, all)

labellings_few : (l : LabellingCache) → labelling_bytes l.side l.held.items ≤ 293601280
labellings_few l =
    let n = l.side in
    let whole = at_most (4 * (n * n)) (length l.held.items) 241172480 l.few in
    let blocks = at_most (2 * (n * n)) (count_by has_block l.held.items) 52428800 l.few_blocks in
    omega (arith, whole, blocks)

few : (tile_cache : Option TileCache) → tile_bytes tile_cache ≤ 293601284 + 28 * rim_points_of tile_cache
few None = omega arith
few (Some w) =
    let labellings = subst (λ n. labelling_bytes n w.labellings.held.items ≤ 293601280) w.same_side (labellings_few w.labellings) in
    let rim = 4 * (w.rim_graph.side - 1) in
    let graphs = sum_by-le graph_size (2 * rim) w.rim_graph.loaded.items w.rim_graph.few in
    let tiles = length w.rim_graph.corners.items in
    let twice : length w.rim_graph.loaded.items * (2 * rim) ≡ 2 * (tiles * rim) = ap (λ k. k * (2 * rim)) w.rim_graph.whole ∙ grind (arith, rows) in
    let levels = w.few_levels in
    omega (arith, labellings, graphs, twice, levels)

sides : (tile_cache : Option TileCache) → are_of_side tile_cache
sides None = tt
sides (Some w) = subst (λ n. All (HasSide n) w.labellings.held.items) w.same_side w.labellings.sides

pub returns : goal.returns
returns c held = let tiles = few held.tile_cache in let flows = held.few in record { bytes = omega (arith, tiles, flows); sides = sides held.tile_cache }
