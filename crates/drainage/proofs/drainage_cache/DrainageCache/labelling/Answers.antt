use Rattle.std.proofs.Common.{◌≡◌, Some, sym, subst, rules}
use Rattle.drainage.proofs.Prelude.{IfNone, LabelledGround, Option, TileCache}
use Rattle.drainage.specs.Between.{is_current_in}
use Rattle.drainage.proofs.drainage_cache.DrainageCache.labelling.Goals as goal

pub returns-clause-none : goal.returns-clause-none
returns-clause-none c =
    let same : c.args.self.now.tile_cache ≡ Some c.in_ok-tile_cache.tile_cache.now = search rules in
    subst (λ (held : Option TileCache). IfNone c.labelling.result ((labelled : LabelledGround) → is_current_in held c.args.corner labelled → ⊥)) (sym same) c.labelling.ensures.none
