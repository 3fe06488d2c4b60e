use Rattle.drainage.proofs.Prelude.{IsHeldOf, Mosaic, rules, subst, sym}
use Rattle.catalogue.proofs.Questioned.{short_here}
use Rattle.drainage.proofs.filled_level.level.Goals as goal

pub returns-in_err-tile_cache-clause-held : goal.returns-in_err-tile_cache-clause-held
returns-in_err-tile_cache-clause-held g c honest = c.take.ensures.left (g.S.Samples.mosaic c.args.samples.now) (c.requires.held honest)

pub returns-clause-held : goal.returns-clause-held
returns-clause-held g c honest =
    let read = c.level_in-found.ensures.asked.reads in
    let m = g.S.Samples.mosaic c.level_in-found.new.samples in
    let left = c.in_ok-tile_cache.ensures.left (g.S.Samples.mosaic c.args.samples.now) (c.requires.held (read.honest honest)) in
    c.put.ensures.right m (c.level_in-found.ensures.right honest) (subst (λ (n : Mosaic). IsHeldOf n c.take.new.self) (sym (read.mosaic honest)) left)

pub returns-in_err-tile_cache-clause-asked : goal.returns-in_err-tile_cache-clause-asked
returns-in_err-tile_cache-clause-asked g c = short_here g.S.Samples g.met.S.Samples.keeps_itself c.args.samples.now c.from_residual.result (search rules)
