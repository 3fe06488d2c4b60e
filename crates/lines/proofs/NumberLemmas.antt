-- Words parsed as numbers, one after another.
use Rattle.std.proofs.Common.{arith, ◌≡◌, ℕ, ◌<◌, ◌+◌, ◌*◌, List, [], ◌∷◌, ◌++◌, length, length-append, refl, ap, ◌∙◌, ℤ, pos, suc, get_or, take, append_assoc}
use Rattle.std.proofs.lemmas.List.{take_more}
use Rattle.lattice.specs.declared.point.Point.{Point}
use Rattle.lines.specs.Grammar.{IsInt, AreInts, coordinates}

pub length-AreInts : (ws : List (List ℕ)) (zs : List ℤ) → AreInts ws zs → length zs ≡ length ws
length-AreInts [] [] h = refl
length-AreInts [] (z ∷ zs) h = absurd h
length-AreInts (w ∷ ws) [] h = absurd h
length-AreInts (w ∷ ws) (z ∷ zs) h = let e = length-AreInts ws zs h.1 in ap (λ n. suc n) e

pub AreInts-push : (ws : List (List ℕ)) (w : List ℕ) (zs : List ℤ) (z : ℤ) → AreInts ws zs → IsInt w z → AreInts (ws ++ w ∷ []) (zs ++ z ∷ [])
AreInts-push [] w [] z h i = (i, tt)
AreInts-push [] w (y ∷ ys) z h i = absurd h
AreInts-push (v ∷ ws) w [] z h i = absurd h
AreInts-push (v ∷ ws) w (y ∷ ys) z h i = (h.0, AreInts-push ws w ys z h.1 i)

-- Each word of a list that parses as numbers is a number.
pub AreInts-at : (ws : List (List ℕ)) (w : List ℕ) (us : List (List ℕ)) (zs : List ℤ) → AreInts (ws ++ w ∷ us) zs → (z : ℤ) × IsInt w z
AreInts-at [] w us [] h = absurd h
AreInts-at [] w us (z ∷ zs) h = (z, h.0)
AreInts-at (v ∷ ws) w us [] h = absurd h
AreInts-at (v ∷ ws) w us (z ∷ zs) h = AreInts-at ws w us zs h.1

pub length-coordinates : (ps : List Point) → length (coordinates ps) ≡ 2 * length ps
length-coordinates [] = refl
length-coordinates (p ∷ ps) = let e = length-coordinates ps in omega (arith, e)

pub coordinates-push : (ps : List Point) (p : Point) → coordinates (ps ++ p ∷ []) ≡ coordinates ps ++ (p.y ∷ p.x ∷ [])
coordinates-push [] p = refl
coordinates-push (q ∷ ps) p = ap (λ l. q.y ∷ q.x ∷ l) (coordinates-push ps p)

-- There are more words than numbers so far.
pub too_many : (ws : List (List ℕ)) (w : List ℕ) (us : List (List ℕ)) (ys zs : List ℤ) → AreInts ws ys → AreInts (ws ++ w ∷ us) zs → length ys < length zs
too_many ws w us ys zs h i =
    omega (arith, length-AreInts ws ys h, length-AreInts (ws ++ w ∷ us) zs i, length-append ws (w ∷ us))

-- The numbers give one more point.
pub take_point : (ns : List ℤ) (i : ℕ) → 2 * i + 1 < length ns → take (2 * (i + 1)) ns ≡ take (2 * i) ns ++ (get_or ns (2 * i) (pos 0) ∷ get_or ns (2 * i + 1) (pos 0) ∷ [])
take_point ns i h =
    let two : 2 * (i + 1) ≡ 2 * i + 1 + 1 = omega arith in
    let before : 2 * i < length ns = omega arith in
    ap (λ n. take n ns) two ∙ take_more ns (2 * i + 1) (pos 0) h
    ∙ ap (λ l. l ++ get_or ns (2 * i + 1) (pos 0) ∷ []) (take_more ns (2 * i) (pos 0) before)
    ∙ append_assoc (take (2 * i) ns) (get_or ns (2 * i) (pos 0) ∷ []) (get_or ns (2 * i + 1) (pos 0) ∷ [])
