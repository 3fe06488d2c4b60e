use Rattle.std.proofs.Common.{◌≡◌, ◌+◌, ◌-◌, ◌*◌, ◌/◌, ◌%◌, ℕ, IsTrue, arith, subst, sym}
use Rattle.tile_flood.proofs.Prelude.{is_beside}
use Rattle.labelling.proofs.Squares.{cell_of}
use Rattle.tile_flood.proofs.Windows.{index_beside, is_inside}
use Rattle.tile_flood.proofs.restoring.window_start.Goals as goal

pub returns : goal.returns
returns c d nine =
    let n = c.args.n in
    let e = c.args.e in
    let i : ℕ = e / n in
    let j : ℕ = e % n in
    let z : ℕ = e - n - 1 + d / 3 * n + d % 3 in
    let is : e ≡ i * n + j = cell_of n e in
    let inside = is_inside n i j 1 d (omega arith) (omega arith) (omega arith) (omega arith) nine in
    let low = inside.low in
    let high = inside.beside in
    let at : z + n + 1 ≡ (i * n + j) + d / 3 * n + d % 3 = omega arith in
    (omega arith, subst (λ x. IsTrue (is_beside n x z)) (sym is) (index_beside n i j d z (omega arith) (omega arith) (omega arith) nine at))
