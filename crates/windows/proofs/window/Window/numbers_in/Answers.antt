use Rattle.std.proofs.Common.{rules, SFits, w32, ◌≤◌, ◌<◌, ◌*◌, ◌-ℤ◌, ◌≡◌, pos, arith}
use Rattle.std.proofs.Math.Nat.{mul-le-mul_right}
use Rattle.windows.proofs.Numbers.{apart, columns_in, exact, row_within, sized}
use Rattle.windows.proofs.window.Window.numbers_in.Goals as goal
use Rattle.windows.proofs.window.Window.numbers_in.Goals.{then-row-self-via-then-row-self, then-row-self-via-else-row-self+then-first-after}

pub returns-then-row-self-clause-exact : goal.returns-then-row-self-clause-exact
returns-then-row-self-clause-exact c k inside =
    let w = c.args.self in
    let run = c.args.run in
    let row = c.in-Some.row in
    let fits_north : SFits w32 w.north = search rules in
    let fits_y : SFits w32 run.y = search rules in
    let fits_west : SFits w32 w.west = search rules in
    let fits_first : SFits w32 run.first = search rules in
    let fits_last : SFits w32 run.last = search rules in
    let row_is = apart w.north run.y row fits_north fits_y c.in-Some.ensures in
    let columns = columns_in w.west run.first run.last w.columns c.first_from-first.result c.first_after.result c.min-after.result fits_west fits_first fits_last (search rules) c.min-after.ensures c.first_from-first.ensures c.first_after.ensures in
    let both = exact w c.args.len c.requires k inside run row c.first_from-first.result c.min-after.result row_is (search rules) columns in
    let size = sized w c.args.len c.requires in (
      (λ none. absurd (omega (arith, none.1))),
      (λ lies. let between = both.1 lies in absurd (elim c.then-row-self.branch [
        | then-row-self-via-then-row-self v ↦
            let many : w.rows ≤ row = search rules in
            let more = mul-le-mul_right {m = w.rows} {n = row} w.columns many in
            omega (arith, more, between.0, inside, size)
        | then-row-self-via-else-row-self+then-first-after v ↦
            let crossed : c.min-after.result ≤ c.first_from-first.result = search rules in
            omega (arith, between.0, between.1, crossed)
      ])),
    )

pub returns-clause-within : goal.returns-clause-within
returns-clause-within c =
    let w = c.args.self in
    row_within w.rows w.columns c.args.len c.in-Some.row c.min-after.result (sized w c.args.len c.requires) (search rules) (search rules)

pub returns-clause-exact : goal.returns-clause-exact
returns-clause-exact c k inside =
    let w = c.args.self in
    let run = c.args.run in
    let row = c.in-Some.row in
    let fits_north : SFits w32 w.north = search rules in
    let fits_y : SFits w32 run.y = search rules in
    let fits_west : SFits w32 w.west = search rules in
    let fits_first : SFits w32 run.first = search rules in
    let fits_last : SFits w32 run.last = search rules in
    let row_is = apart w.north run.y row fits_north fits_y c.in-Some.ensures in
    let columns = columns_in w.west run.first run.last w.columns c.first_from-first.result c.first_after.result c.min-after.result fits_west fits_first fits_last (search rules) c.min-after.ensures c.first_from-first.ensures c.first_after.ensures in
    exact w c.args.len c.requires k inside run row c.first_from-first.result c.min-after.result row_is (search rules) columns
