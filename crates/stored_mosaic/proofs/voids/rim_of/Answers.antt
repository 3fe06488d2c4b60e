use Rattle.stored_mosaic.proofs.Prelude.{Contains, Corner, List, RimVoids, [], ap, arith, is_listed, map, or_right, same_corner, same_from, same_says, subst, suc, sym, true, zero, ◌||◌, ◌∙◌, ◌∷◌, ◌≡◌}
use Rattle.stored_mosaic.proofs.voids.rim_of.Goals as goal

-- A rim in the list is that of a listed corner.
listed : (rims : List RimVoids) (rim : RimVoids) → Contains rims rim → is_listed rim.corner (map (λ r. r.corner) rims) ≡ true
listed [] rim (k, below, here) = absurd (omega (arith, below))
listed (x ∷ rest) rim (zero, below, here) = ap (λ b. b || is_listed rim.corner (map (λ r. r.corner) rest)) (same_from x.corner rim.corner (ap (λ (r : RimVoids). r.corner) here))
listed (x ∷ rest) rim (suc k, below, here) = or_right (same_corner x.corner rim.corner) (is_listed rim.corner (map (λ r. r.corner) rest)) (listed rest rim (k, omega (arith, below), here))

pub returns-then-eq-clause-some : goal.returns-then-eq-clause-some
returns-then-eq-clause-some c =
    let rim : RimVoids = c.rim-item.result in
    let there : Contains c.args.rims.now rim = (c.loop-rim.rim-index, c.loop-rim-test.true, sym c.rim-item.is) in
    let same : rim.corner ≡ c.args.corner = same_says rim.corner c.args.corner (sym c.eq.ensures ∙ c.if-eq.true) in
    (there, same, subst (λ (d : Corner). is_listed d (map (λ (r : RimVoids). r.corner) c.args.rims.now) ≡ true) same (listed c.args.rims.now rim there))
