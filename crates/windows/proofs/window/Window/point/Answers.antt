use Rattle.std.proofs.Common.{rules, SFits, w32, pos, ◌+ℤ◌, ◌-ℤ◌, ◌/◌, ◌%◌, FitsSigned, sym, subst}
use Rattle.std.proofs.lemmas.Int.{to_z-of_z}
use Rattle.windows.proofs.Numbers.{fits_high, fits_low, high, low, some}
use Rattle.windows.proofs.window.Window.point.Goals as goal

pub below-requires : goal.below-requires
below-requires c =
    let w = c.args.self in
    let fits : SFits w32 w.north = search rules in
    subst (λ n. FitsSigned w32 (n -ℤ pos (c.args.number / w.columns))) (sym (to_z-of_z w32 w.north fits))
    (fits_low w.north (c.args.number / w.columns) fits (low w c.args.len c.requires.askable c.args.number c.requires.inside))

pub nonzero_rem-number : goal.nonzero_rem-number
nonzero_rem-number c = some c.args.self c.args.len c.requires.askable c.args.number c.requires.inside

pub above-requires : goal.above-requires
above-requires c =
    let w = c.args.self in
    let fits : SFits w32 w.west = search rules in
    subst (λ n. FitsSigned w32 (n +ℤ pos (c.args.number % w.columns))) (sym (to_z-of_z w32 w.west fits))
    (fits_high w.west (c.args.number % w.columns) fits (high w c.args.len c.requires.askable c.args.number c.requires.inside))
