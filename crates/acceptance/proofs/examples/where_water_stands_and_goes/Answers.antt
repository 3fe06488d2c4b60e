use Rattle.acceptance.proofs.examples.where_water_stands_and_goes.Goals as goal

pub fill-requires : goal.fill-requires
fill-requires g c = record { held = λ _. c.new-held.ensures c.add.new.self }
