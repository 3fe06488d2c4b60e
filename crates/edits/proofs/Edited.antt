-- Edits of a mosaic one after another.
use Rattle.edits.proofs.Prelude.{Bool, List, Mosaic, NewHeight, Point, Tile, ℕ, ℤ, [], ap, ap₂, changed_from, corners_of, edited, false, get_or, if◌then◌else◌, is_named, length, map, point_of, refl, same_point, same_point_says, sym, take, take_more, true, with_height, with_heights, ◌++◌, ◌+◌, ◌<◌, ◌||◌, ◌∙◌, ◌∷◌, ◌≡◌}
use Rattle.edits.proofs.EditedHeights.{edited_corners}

none_from : (e : ℕ) (l : List ℤ) → changed_from (λ e s. s) e l ≡ l
none_from e [] = refl
none_from e (s ∷ l) = ap (λ (r : List ℤ). s ∷ r) (none_from (e + 1) l)

twice_from : (f g : ℕ → ℤ → ℤ) (e : ℕ) (l : List ℤ) → changed_from g e (changed_from f e l) ≡ changed_from (λ e s. g e (f e s)) e l
twice_from f g e [] = refl
twice_from f g e (s ∷ l) = ap (λ (r : List ℤ). g e (f e s) ∷ r) (twice_from f g (e + 1) l)

-- An edit that changes nothing leaves the mosaic.
pub edited_none : (m : Mosaic) → edited (λ p s. s) m ≡ m
edited_none m = ap (λ (ts : List Tile). record m { tiles = ts }) (each m.tiles)
  where
    each : (ts : List Tile) → map (λ t. record { corner = t.corner; samples = changed_from (λ e s. s) 0 t.samples }) ts ≡ ts
    each [] = refl
    each (t ∷ ts) = ap₂ (λ (l : List ℤ) (rest : List Tile). record { corner = t.corner; samples = l } ∷ rest) (none_from 0 t.samples) (each ts)

pub edited_twice : (f g : Point → ℤ → ℤ) (m : Mosaic) → edited g (edited f m) ≡ edited (λ p s. g p (f p s)) m
edited_twice f g m = ap (λ (ts : List Tile). record m { tiles = ts }) (each m.tiles)
  where
    at : (Point → ℤ → ℤ) → Tile → Tile
    at h t = record { corner = t.corner; samples = changed_from (λ e s. h (point_of m.side t.corner e) s) 0 t.samples }

    each : (ts : List Tile) → map (at g) (map (at f) ts) ≡ map (at (λ p s. g p (f p s))) ts
    each [] = refl
    each (t ∷ ts) = ap₂ (λ (l : List ℤ) (rest : List Tile). record { corner = t.corner; samples = l } ∷ rest)
        (twice_from (λ e s. f (point_of m.side t.corner e) s) (λ e s. g (point_of m.side t.corner e) s) 0 t.samples) (each ts)

-- Edits with equal functions are equal.
pub edited_alike : (f g : Point → ℤ → ℤ) → ((p : Point) (s : ℤ) → f p s ≡ g p s) → (m : Mosaic) → edited f m ≡ edited g m
edited_alike f g same m = ap (λ (h : Point → ℤ → ℤ). edited h m) (λ i p s. same p s i)

abbrev pub height_by : (Point → ℤ) → (Point → ℤ) → Point → NewHeight
height_by w f p = record { point = p; was = w p; metres = f p }

-- the edit of these points with their new heights, one after another
pub named_heights : (w f : Point → ℤ) (points : List Point) (m : Mosaic) → with_heights (map (height_by w f) points) m ≡ edited (λ p s. if is_named points p then f p else s) m
named_heights w f [] m = sym (edited_none m)
named_heights w f (q ∷ rest) m =
    named_heights w f rest (with_height q (f q) m)
    ∙ edited_twice (λ p s. if same_point p q then f q else s) (λ p s. if is_named rest p then f p else s) m
    ∙ edited_alike (λ p s. if is_named rest p then f p else (if same_point p q then f q else s)) (λ p s. if is_named (q ∷ rest) p then f p else s) one m
  where
    by : (p : Point) (s : ℤ) (a b : Bool) → (a ≡ true → p ≡ q) → (if b then f p else (if a then f q else s)) ≡ (if a || b then f p else s)
    by p s true true is = refl
    by p s true false is = ap f (sym (is refl))
    by p s false b is = refl

    one : (p : Point) (s : ℤ) → (if is_named rest p then f p else (if same_point p q then f q else s)) ≡ (if is_named (q ∷ rest) p then f p else s)
    one p s = by p s (same_point p q) (is_named rest p) (same_point_says p q)

pub heights_side : (hs : List NewHeight) (m : Mosaic) → (with_heights hs m).side ≡ m.side
heights_side [] m = refl
heights_side (h ∷ hs) m = heights_side hs (with_height h.point h.metres m)

pub heights_corners : (hs : List NewHeight) (m : Mosaic) → corners_of (with_heights hs m) ≡ corners_of m
heights_corners [] m = refl
heights_corners (h ∷ hs) m = heights_corners hs (with_height h.point h.metres m) ∙ edited_corners (λ q s. if same_point q h.point then h.metres else s) m

one_after : (hs : List NewHeight) (h : NewHeight) (m : Mosaic) → with_heights (hs ++ h ∷ []) m ≡ with_height h.point h.metres (with_heights hs m)
one_after [] h m = refl
one_after (k ∷ hs) h m = one_after hs h (with_height k.point k.metres m)

-- one more point gets its height
pub heights_next : (hs : List NewHeight) (i : ℕ) (h : NewHeight) (m : Mosaic) → i < length hs → h ≡ get_or hs i h → with_heights (take (i + 1) hs) m ≡ with_height h.point h.metres (with_heights (take i hs) m)
heights_next hs i h m below is = ap (λ (l : List NewHeight). with_heights l m) (take_more hs i h below ∙ ap (λ (k : NewHeight). take i hs ++ k ∷ []) (sym is)) ∙ one_after (take i hs) h m

-- Points that get heights one after another are one edit.
pub heights_edit : (hs : List NewHeight) (m : Mosaic) → (f : Point → ℤ → ℤ) × (with_heights hs m ≡ edited f m)
heights_edit [] m = (λ p v. v, sym (edited_none m))
heights_edit (h ∷ hs) m =
    let rest = heights_edit hs (with_height h.point h.metres m) in
    (λ p v. rest.0 p (if same_point p h.point then h.metres else v), rest.1 ∙ edited_twice (λ p v. if same_point p h.point then h.metres else v) rest.0 m)
