use Rattle.stored_mosaic.proofs.Prelude.{RimVoids, map}
use Rattle.stored_mosaic.proofs.Edits.Patched.{fills_leave}
use Rattle.stored_mosaic.proofs.voids.VoidFillsPageEdit.next_page.Goals as goal

pub returns-in_err-rim_of-clause-leaves : goal.returns-in_err-rim_of-clause-leaves
returns-in_err-rim_of-clause-leaves c m valid side fits t there same i out =
    fills_leave c.args.side m c.args.self.now.patch (map (λ (r : RimVoids). r.corner) c.args.self.now.rims.now) valid side fits.1 t there c.args.corner same i out

pub returns-then-has_rows-clause-leaves : goal.returns-then-has_rows-clause-leaves
returns-then-has_rows-clause-leaves c m valid side fits t there same i out =
    fills_leave c.args.side m c.args.self.now.patch (map (λ (r : RimVoids). r.corner) c.args.self.now.rims.now) valid side fits.1 t there c.args.corner same i out

pub returns-clause-leaves : goal.returns-clause-leaves
returns-clause-leaves c m valid side fits t there same i out =
    fills_leave c.args.side m c.args.self.now.patch (map (λ (r : RimVoids). r.corner) c.args.self.now.rims.now) valid side fits.1 t there c.args.corner same i out
