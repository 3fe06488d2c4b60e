use Rattle.std.proofs.Common.{inl, inr, refl, ◌∙◌, ap, List, ◌∷◌, is_ok}
use Rattle.disk.specs.FileCalls.{Answered, written}
use Rattle.disk.proofs.sector_file.write_again.Goals as goal

pub returns-in-Ok : goal.returns-in-Ok
returns-in-Ok c =
    (c.read_sector.new.into, inr (c.write_sector.ensures ∙ ap (λ (calls : List Answered). written c.args.s (is_ok c.write_sector.result) c.read_sector.new.into ∷ calls) (c.in-Ok.ensures {u = tt})))

pub returns-in-Err : goal.returns-in-Err
returns-in-Err c = (c.read_sector.new.into, inl (refl, c.in-Err.ensures {u = tt}))
