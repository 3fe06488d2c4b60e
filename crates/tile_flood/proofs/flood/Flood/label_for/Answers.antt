use Rattle.tile_flood.proofs.Prelude.{IsBesideWith, SFits, rules, slice_index_or, subst, sym, to_z-of_z, void, w16, ◌≤ℤ◌}
use Rattle.labelling.proofs.Squares.{solid_below}
use Rattle.tile_flood.proofs.Dependence.{beside_back}
use Rattle.tile_flood.proofs.Steps.{max_second}
use Rattle.tile_flood.proofs.flood.Flood.label_for.Goals as goal

pub returns-then-has_beside : goal.returns-then-has_beside
returns-then-has_beside c =
    let s = c.args.self.now in
    let fits : SFits w16 c.args.level = search rules in
    subst (λ l. IsBesideWith c.args.block.now.n s.levels.items s.labels.items c.args.e c.label_at-own.result l) (to_z-of_z fits) (c.has_beside.ensures c.if-has_beside.true)

pub returns : goal.returns
returns c =
    let s = c.requires.state in
    let popped = c.args.popped.point in (
      popped,
      (
        solid_below c.args.block.now.n c.args.block.now.heights.now popped (s.state.ground popped s.marked),
        (
          beside_back c.args.block.now.n popped c.args.e c.requires.beside,
          (s.marked, (s.named, subst (λ l. l ≤ℤ c.args.level) (sym s.level) (max_second (slice_index_or c.args.block.now.heights.now c.args.e void) c.args.popped.level c.args.level c.requires.level))),
        ),
      ),
    )
