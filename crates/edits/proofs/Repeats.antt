-- Points that are named twice.
use Rattle.std.proofs.Common.{◌≡◌, ℕ, ◌+◌, ◌<◌, ◌||◌, List, length, get_or, take, drop, length-drop, ◌-◌, ap, arith}
use Rattle.edits.proofs.Prelude.{Point, at_drop_more, is_named, is_repeated, take_all}

turn : (ps : List Point) (i : ℕ) (d : Point) → i < length ps → is_repeated (drop i ps) ≡ is_named (drop (i + 1) ps) (get_or ps i d) || is_repeated (drop (i + 1) ps)
turn ps i d within = at_drop_more is_repeated ps i d within

-- the rest of a slice, from an index to the end
tail_is : (ps : List Point) (i : ℕ) (d : Point) → is_named (take (length ps - (i + 1)) (drop (i + 1) ps)) (get_or ps i d) ≡ is_named (drop (i + 1) ps) (get_or ps i d)
tail_is ps i d = ap (λ l. is_named l (get_or ps i d)) (take_all (length ps - (i + 1)) (drop (i + 1) ps) (omega (arith, length-drop (i + 1) ps)))
