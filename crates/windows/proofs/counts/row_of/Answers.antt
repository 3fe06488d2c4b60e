use Rattle.std.proofs.Common.{rules, SFits, w32, ◌≡◌, ◌+◌, ◌*◌, ◌-◌, ◌≤ℤ◌, sym, ap, ◌∙◌, subst}
use Rattle.std.proofs.lemmas.Int.{to_z-of_z}
use Rattle.lattice.specs.Lattice.{point_of}
use Rattle.windows.proofs.UpstreamCounts.{in_row, is_row}
use Rattle.windows.proofs.counts.row_of.Goals as goal

pub returns-clause-each : goal.returns-clause-each
returns-clause-each c j p sample =
    let n = c.args.side in
    let first = c.point_at-first.result in
    let last = c.point_at-last.result in
    let start : first ≡ point_of n c.args.corner (c.args.row * n) = c.point_at-first.ensures.value ∙ ap (λ k. point_of n c.args.corner (c.args.row * k)) c.samples.ensures.value in
    let end : last ≡ point_of n c.args.corner (c.args.row * n + (n - 1)) = c.point_at-last.ensures.value ∙ ap (λ k. point_of n c.args.corner (c.args.row * k + c.edge.result)) c.samples.ensures.value ∙ ap (λ k. point_of n c.args.corner (c.args.row * n + k)) c.edge.ensures.value in
    let is = is_row c.args.side c.args.corner c.args.row j p first last c.samples.ensures.low start end sample in
    let fits_y : SFits w32 first.y = search rules in
    let fits_first : SFits w32 first.x = search rules in
    let fits_last : SFits w32 last.x = search rules in (
      is.0 ∙ sym (to_z-of_z w32 first.y fits_y),
      (subst (λ z. z ≤ℤ p.x) (sym (to_z-of_z w32 first.x fits_first)) is.1.0, subst (λ z. p.x ≤ℤ z) (sym (to_z-of_z w32 last.x fits_last)) is.1.1),
    )

pub returns-clause-only : goal.returns-clause-only
returns-clause-only c p inside =
    let n = c.args.side in
    let first = c.point_at-first.result in
    let last = c.point_at-last.result in
    let start : first ≡ point_of n c.args.corner (c.args.row * n) = c.point_at-first.ensures.value ∙ ap (λ k. point_of n c.args.corner (c.args.row * k)) c.samples.ensures.value in
    let end : last ≡ point_of n c.args.corner (c.args.row * n + (n - 1)) = c.point_at-last.ensures.value ∙ ap (λ k. point_of n c.args.corner (c.args.row * k + c.edge.result)) c.samples.ensures.value ∙ ap (λ k. point_of n c.args.corner (c.args.row * n + k)) c.edge.ensures.value in
    let fits_y : SFits w32 first.y = search rules in
    let fits_first : SFits w32 first.x = search rules in
    let fits_last : SFits w32 last.x = search rules in
    in_row c.args.side c.args.corner c.args.row p first last c.samples.ensures.low c.requires start end
    (inside.0 ∙ to_z-of_z w32 first.y fits_y)
    (subst (λ z. z ≤ℤ p.x) (to_z-of_z w32 first.x fits_first) inside.1.0)
    (subst (λ z. p.x ≤ℤ z) (to_z-of_z w32 last.x fits_last) inside.1.1)
