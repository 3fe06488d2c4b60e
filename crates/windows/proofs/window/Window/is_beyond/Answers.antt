use Rattle.std.proofs.Common.{◌≡◌, ◌-◌, pos, negsuc, ◌+ℤ◌, ◌-ℤ◌, int_lt, ◌||◌, false, sym, ap, ◌∙◌, arith}
use Rattle.std.proofs.lemmas.Int.{ints}
use Rattle.windows.proofs.window.Window.is_beyond.Goals as goal

pub returns : goal.returns
returns c =
    let w = c.args.self in
    let south : int_lt (w.north -ℤ pos (w.rows - 1)) (negsuc 2147483647) ≡ false = grind (arith, ints) in
    let east : int_lt (pos 2147483647) (w.west +ℤ pos (w.columns - 1)) ≡ false = grind (arith, ints) in
    sym (ap (λ b. b || int_lt (pos 2147483647) (w.west +ℤ pos (w.columns - 1))) south ∙ east)
