use Rattle.std.proofs.Common.{◌≢◌, ◌+◌, ◌*◌, ◌<◌, ◌∙◌, [], IsTrue, arith, inl, inr, sym, slice_index}
use Rattle.tile_flood.proofs.Prelude.{NO_LABEL, block_of, is_solid}
use Rattle.labelling.proofs.Squares.{in_square, not_void_if}
use Rattle.tile_flood.proofs.Fitting.{gap_at, ground_at, inner_fits}
use Rattle.tile_flood.proofs.Standing.{stand_on}
use Rattle.tile_flood.proofs.restoring.look_at.Goals as goal

pub returns-then-not-has_level-2-clause-standing : goal.returns-then-not-has_level-2-clause-standing
returns-then-not-has_level-2-clause-standing c =
    let e = c.args.i * c.args.planes.now.block.n + c.args.j in
    stand_on c.args.planes.now.block.n c.args.planes.now.block.heights.now c.args.planes.now.block.sinks.now c.args.planes.now.levels.now c.args.planes.now.labels.now c.args.stands.now e _ c.requires.standing (in_square c.args.planes.now.block.n c.args.i c.args.j c.requires.cell.0 c.requires.cell.1)
    (λ _. ([], inl (gap_at c.args.planes.now.block.n c.args.planes.now.block.heights.now e (sym c.has_level.ensures ∙ c.if-not-has_level.true))))

pub returns-else-not-has_level-2-clause-standing : goal.returns-else-not-has_level-2-clause-standing
returns-else-not-has_level-2-clause-standing c =
    let e = c.args.i * c.args.planes.now.block.n + c.args.j in
    stand_on c.args.planes.now.block.n c.args.planes.now.block.heights.now c.args.planes.now.block.sinks.now c.args.planes.now.levels.now c.args.planes.now.labels.now c.args.stands.now e _ c.requires.standing (in_square c.args.planes.now.block.n c.args.i c.args.j c.requires.cell.0 c.requires.cell.1)
    (λ _. ([], inl (gap_at c.args.planes.now.block.n c.args.planes.now.block.heights.now e (sym c.has_level.ensures ∙ c.if-not-has_level.true))))

pub returns-then-label_at-own-clause-standing : goal.returns-then-label_at-own-clause-standing
returns-then-label_at-own-clause-standing c =
    stand_on c.args.planes.now.block.n c.args.planes.now.block.heights.now c.args.planes.now.block.sinks.now c.args.planes.now.levels.now c.args.planes.now.labels.now c.args.stands.now (c.args.i * c.args.planes.now.block.n + c.args.j) _ c.requires.standing (in_square c.args.planes.now.block.n c.args.i c.args.j c.requires.cell.0 c.requires.cell.1)
    (λ _. ([], inr (inl c.in-Some.ensures.outlet)))

pub returns-else-label_at-own-clause-standing : goal.returns-else-label_at-own-clause-standing
returns-else-label_at-own-clause-standing c =
    stand_on c.args.planes.now.block.n c.args.planes.now.block.heights.now c.args.planes.now.block.sinks.now c.args.planes.now.levels.now c.args.planes.now.labels.now c.args.stands.now (c.args.i * c.args.planes.now.block.n + c.args.j) _ c.requires.standing (in_square c.args.planes.now.block.n c.args.i c.args.j c.requires.cell.0 c.requires.cell.1)
    (λ _. ([], inr (inl c.in-Some.ensures.outlet)))

pub returns-clause-fitting : goal.returns-clause-fitting
returns-clause-fitting c ok =
    let e = c.args.i * c.args.planes.now.block.n + c.args.j in
    let small : e < c.args.planes.now.block.n * c.args.planes.now.block.n = in_square c.args.planes.now.block.n c.args.i c.args.j c.requires.cell.0 c.requires.cell.1 in
    let solid : IsTrue (is_solid (block_of c.args.planes.now.block.n c.args.planes.now.block.heights.now c.args.planes.now.block.sinks.now) e) = ground_at c.args.planes.now.block.n c.args.planes.now.block.heights.now e small (sym c.has_level.ensures ∙ c.if-not-has_level.false) in
    let named : slice_index c.args.planes.now.labels.now e ≢ NO_LABEL = λ is. c.if-label_at.false (c.label_at-else-not-has_level-3.ensures ∙ is) in
    inner_fits c.args.planes.now.block.n c.args.planes.now.block.heights.now c.args.planes.now.block.sinks.now c.args.planes.now.levels.now c.args.planes.now.labels.now c.list_unless-2.new.points.items e solid c.in_default.ensures.none
    (not_void_if c.args.planes.now.levels.now e (sym c.has_level-2.ensures ∙ c.if-not-has_level-3.false)) named
    (elim (c.list_unless-2.ensures.listed ok) [ inl is ↦ inr (c.are_settled.ensures is c.args.j (omega arith) (omega arith)).1 | inr listed ↦ inl listed ])
