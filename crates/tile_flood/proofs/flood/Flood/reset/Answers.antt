use Rattle.tile_flood.proofs.Prelude.{IsIn, IsTrue, ℕ, is_beside, is_marked, refl, subst, sym, ◌*◌, ◌<◌, ◌⊎◌}
use Rattle.tile_flood.proofs.flood.Flood.reset.Goals as goal

pub returns-clause-others : goal.returns-clause-others
returns-clause-others c =
    let n = c.args.n in
    let q = c.suspect_beside.new.self.queue in
    let s = c.suspect_beside.new.self.suspects in
    subst (λ ls. (y : ℕ) → y < n * n → IsTrue (is_beside n c.args.e y) → IsTrue (is_marked ls y) → IsIn q ls y ⊎ IsIn s ls y) (sym c.in_ok-suspect_beside.ensures.levels) (c.in_ok-suspect_beside.ensures.others refl)
