-- Filling the void points of a box, part by part.
use Rattle.edits.proofs.Prelude.{Bool, IsMosaic, Mosaic, Point, ℤ, and-false, and-true, and_left, ap, ap₂, corners_are, false, false_from_ne_true, filled, if◌then◌else◌, is_void_at, is_void_height, or-false, refl, same_point, sym, true, with_height, ◌&&◌, ◌||◌, ◌∙◌, ◌≡◌}
use Rattle.edits.proofs.BoxVoids.BoxPlaces.{void_is}
use Rattle.edits.proofs.Edited.{edited_none, edited_twice, edited_alike}
use Rattle.edits.proofs.EditedHeights.{height_stays}

pub fill_alike : (one other : Point → Bool) (s : ℤ) → ((p : Point) → one p ≡ other p) → (m : Mosaic) → filled one s m ≡ filled other s m
fill_alike one other s same m = edited_alike (λ p v. if one p then s else v) (λ p v. if other p then s else v) (λ p v. ap (λ b. if b then s else v) (same p)) m

pub fill_none : (test : Point → Bool) (s : ℤ) → ((p : Point) → test p ≡ false) → (m : Mosaic) → m ≡ filled test s m
fill_none test s none m = sym (edited_none m) ∙ sym (fill_alike test (λ p. false) s none m)

-- the case of a single point
pub fill_void : (p : Point) (s : ℤ) (m : Mosaic) → is_void_at m p ≡ true → with_height p s m ≡ filled (λ q. same_point q p && is_void_at m q) s m
fill_void p s m is = fill_alike (λ q. same_point q p) (λ q. same_point q p && is_void_at m q) s (λ q. sym (void_is m p true is q ∙ and-true (same_point q p))) m

pub fill_ground : (p : Point) (s : ℤ) (m : Mosaic) → is_void_at m p ≡ false → m ≡ filled (λ q. same_point q p && is_void_at m q) s m
fill_ground p s m is = fill_none (λ q. same_point q p && is_void_at m q) s (λ q. void_is m p false is q ∙ and-false (same_point q p)) m

-- Points that were filled aren't read again: the void points of a later part are the same as before.
module _ (m : Mosaic) (valid : IsMosaic m) (s : ℤ) (box more both : Point → Bool) (joined : (p : Point) → both p ≡ (box p || more p)) (apart : (p : Point) → box p ≡ true → more p ≡ true → ⊥) where
  abbrev mid : Mosaic
  mid = filled (λ p. box p && is_void_at m p) s m

  stays : (p : Point) → box p ≡ false → is_void_at mid p ≡ is_void_at m p
  stays p out = ap is_void_height (height_stays (λ q v. if box q && is_void_at m q then s else v) m p valid.side_low (corners_are m valid) (λ v. ap (λ b. if b then s else v) (and_left (box p) (is_void_at m p) out)))

  abbrev twice : Bool → Bool → Bool → Bool → ℤ → ℤ
  twice now void_now before void_before v = if now && void_now then s else (if before && void_before then s else v)

  abbrev once : Bool → Bool → ℤ → ℤ
  once some void v = if some && void then s else v

  one : (p : Point) (v : ℤ) → twice (more p) (is_void_at mid p) (box p) (is_void_at m p) v ≡ once (both p) (is_void_at m p) v
  one p v = by (more p) refl
    where
      by : (b : Bool) → more p ≡ b → twice (more p) (is_void_at mid p) (box p) (is_void_at m p) v ≡ once (both p) (is_void_at m p) v
      by true now =
          let out : box p ≡ false = false_from_ne_true (box p) (λ before. apart p before now) in
          ap (λ b. twice b (is_void_at mid p) (box p) (is_void_at m p) v) now
          ∙ ap (λ b. twice true b (box p) (is_void_at m p) v) (stays p out)
          ∙ ap (λ b. twice true (is_void_at m p) b (is_void_at m p) v) out
          ∙ sym (ap (λ b. once b (is_void_at m p) v) (joined p ∙ ap₂ (λ a b. a || b) out now))
      by false later =
          ap (λ b. twice b (is_void_at mid p) (box p) (is_void_at m p) v) later
          ∙ sym (ap (λ b. once b (is_void_at m p) v) (joined p ∙ ap (λ b. box p || b) later ∙ or-false (box p)))

  pub fill_more : filled (λ p. more p && is_void_at mid p) s mid ≡ filled (λ p. both p && is_void_at m p) s m
  fill_more =
      edited_twice (λ p v. if box p && is_void_at m p then s else v) (λ p v. if more p && is_void_at mid p then s else v) m
      ∙ edited_alike (λ p v. if more p && is_void_at mid p then s else (if box p && is_void_at m p then s else v)) (λ p v. if both p && is_void_at m p then s else v) one m
