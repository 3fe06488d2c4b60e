use Rattle.tile_flood.proofs.Prelude.{Waits, subst, sym}
use Rattle.tile_flood.proofs.flood.Flood.take_suspect.Goals as goal

pub returns-in_default-pop-clause-none : goal.returns-in_default-pop-clause-none
returns-in_default-pop-clause-none c nobody l e w = c.in_default-pop.ensures.taken l e (subst (λ q. Waits q l e) (sym c.in_ok-suspect.ensures.same) w)
