-- Lists of sinks with one added or removed, and mosaics with these sinks.
use Rattle.std.proofs.Common.{◌≡◌, ℕ, ℤ, ◌+◌, ◌<◌, ◌≤◌, Bool, true, false, cond, not, IsTrue, List, [], ◌∷◌, ◌++◌, length, map, drop, get_or, add-one, append_assoc, refl, sym, ap, ◌∙◌, subst, arith}
use Rattle.edits.proofs.Prelude.{All, AreSinks, Corner, Err, Height, IsHeld, IsMosaic, IsTile, Mosaic, Ok, Point, Refusal, Result, Tile, by_seam_rule, filter, height_of, holds, is_before, is_point_before, is_sink, list_any, most_sinks, nat_lt, same_point, sample_at, with_sinks}
use Rattle.std.proofs.Math.Seq.{drop-cons}
use Rattle.std.proofs.lemmas.Bool.{cond-true, cond-false, or_parts, lt-ltb, ltb-true, le-ltb}
use Rattle.std.proofs.lemmas.List.Elements.{All-cons, All-nil, All-head, All-tail, All-filter}
use Rattle.lattice.specs.declared.height.Height.TheVariants as height
use Rattle.lattice.specs.declared.refusal.Refusal.TheVariants.{Outside, SinkThere, SinksFull, NoSink}
use Rattle.lattice.proofs.CornerOrder.{after_from, same_comm}
use Rattle.lattice.proofs.Rising.{AllAfter, Rising, after_later, rising_from, adjacent_from, rising-filter}
use Rattle.edits.specs.Sinks.{with_point, without_point, sunk, sunk_at, unsunk, SinksMakeMosaics, SinksLeaveMosaics}

-- Points are ordered as corners are.
abbrev key : Point → Corner
key p = record { lat = p.y; lon = p.x }

after_with : (c : Corner) (p : Point) (points : List Point) → IsTrue (is_before c (key p)) → AllAfter key c points → AllAfter key c (with_point p points)
after_with c p [] before after = (before, tt)
after_with c p (q ∷ rest) before after = elim (is_point_before p q) as (λ b. AllAfter key c (cond b (p ∷ (q ∷ rest)) (q ∷ with_point p rest))) [
  | true ↦ (before, after)
  | false ↦ (after.0, after_with c p rest before after.1)
]

rising_with : (p : Point) (points : List Point) → list_any (λ s. same_point s p) points ≡ false → Rising key points → Rising key (with_point p points)
rising_with p [] absent rising = (tt, tt)
rising_with p (q ∷ rest) absent rising =
    let apart = or_parts (same_point q p) (list_any (λ s. same_point s p) rest) absent in
    by (is_point_before p q) refl apart.0 (rising_with p rest apart.1 rising.1)
  where
    by : (b : Bool) → is_point_before p q ≡ b → same_point q p ≡ false → Rising key (with_point p rest) → Rising key (cond b (p ∷ (q ∷ rest)) (q ∷ with_point p rest))
    by true before apart later = ((before, after_later key (key p) (key q) rest before rising.0), rising)
    by false not_before apart later =
        let after : is_before (key q) (key p) ≡ true = after_from (key p) (key q) not_before (same_comm (key q) (key p) apart) in
        (after_with (key q) p rest after rising.0, later)

pub length_with : (p : Point) (points : List Point) → length (with_point p points) ≡ length points + 1
length_with p [] = refl
length_with p (q ∷ rest) = elim (is_point_before p q) as (λ b. length (cond b (p ∷ (q ∷ rest)) (q ∷ with_point p rest)) ≡ length (q ∷ rest) + 1) [
  | true ↦ omega arith
  | false ↦ (let more = length_with p rest in omega (arith, more))
]

all_with : (P : Point → Type 0) (p : Point) (points : List Point) → P p → All P points → All P (with_point p points)
all_with P p [] here each = All-cons P p [] here (All-nil P)
all_with P p (q ∷ rest) here each = elim (is_point_before p q) as (λ b. All P (cond b (p ∷ (q ∷ rest)) (q ∷ with_point p rest))) [
  | true ↦ All-cons P p (q ∷ rest) here each
  | false ↦ All-cons P q (with_point p rest) (All-head P q rest each) (all_with P p rest here (All-tail P q rest each))
]

pub sinks_with : (n : ℕ) (p : Point) (sinks : List Point) → list_any (λ s. same_point s p) sinks ≡ false → length sinks < most_sinks → IsHeld n p → AreSinks n sinks → AreSinks n (with_point p sinks)
sinks_with n p sinks absent room here are =
    let one_more = length_with p sinks in
    record {
      few = omega (arith, one_more, room);
      in_order = adjacent_from key (with_point p sinks) (rising_with p sinks absent (rising_from key sinks are.in_order));
      held = all_with (IsHeld n) p sinks here are.held;
    }

shorter : (f : Point → Bool) (points : List Point) → length (filter f points) ≤ length points
shorter f [] = omega arith
shorter f (q ∷ rest) = elim (f q) as (λ b. length (cond b (q ∷ filter f rest) (filter f rest)) ≤ length (q ∷ rest)) [
  | true ↦ (let less = shorter f rest in omega (arith, less))
  | false ↦ (let less = shorter f rest in omega (arith, less))
]

pub sinks_without : (n : ℕ) (p : Point) (sinks : List Point) → AreSinks n sinks → AreSinks n (without_point p sinks)
sinks_without n p sinks are =
    let fewer = shorter (λ s. not (same_point s p)) sinks in
    let few = are.few in
    record {
      few = omega (arith, fewer, few);
      in_order = adjacent_from key (without_point p sinks) (rising-filter key (λ s. not (same_point s p)) sinks (rising_from key sinks are.in_order));
      held = All-filter (λ s. not (same_point s p)) (IsHeld n) sinks are.held;
    }

-- A point that isn't outside is in a present tile.
held_at : (n : ℕ) (p : Point) (tiles : List Tile) → All (IsTile n) tiles
    → (by_seam_rule (map (λ t. sample_at n t p) (filter (λ t. holds n t.corner p) tiles)) ≡ height.Outside → ⊥) → IsHeld n p
held_at n p [] tiles inside = absurd (inside refl)
held_at n p (t ∷ rest) tiles inside = by (holds n t.corner p) refl inside (held_at n p rest (All-tail (IsTile n) t rest tiles))
  where
    by : (b : Bool) → holds n t.corner p ≡ b
        → (by_seam_rule (map (λ t. sample_at n t p) (cond b (t ∷ filter (λ t. holds n t.corner p) rest) (filter (λ t. holds n t.corner p) rest))) ≡ height.Outside → ⊥)
        → ((by_seam_rule (map (λ t. sample_at n t p) (filter (λ t. holds n t.corner p) rest)) ≡ height.Outside → ⊥) → IsHeld n p) → IsHeld n p
    by true has inside later = (t.corner, ((All-head (IsTile n) t rest tiles).corner, has))
    by false not_held inside later = later inside

with_these : (m : Mosaic) (sinks : List Point) → IsMosaic m → AreSinks m.side sinks → IsMosaic (with_sinks sinks m)
with_these m sinks is are = record { side_low = is.side_low; side_high = is.side_high; tiles = is.tiles; in_order = is.in_order; sinks = are }

abbrev Outcome : Type 0
Outcome = Result Mosaic Refusal

pub sunk_makes : SinksMakeMosaics
sunk_makes m p new is makes = at (height_of m p) refl makes
  where
    Made : Mosaic → Type 0
    Made made = IsMosaic made × (made ≡ with_sinks made.sinks m)

    made_is : (made : Mosaic) → Made made → ◌≡◌ {A = Outcome} (Ok made) (Ok new) → Made new
    made_is made has e = let same : made ≡ new = cc in subst Made same has

    free : (h : ℤ) → height_of m p ≡ height.At h → is_sink m p ≡ false → (b : Bool) → nat_lt (length m.sinks) most_sinks ≡ b
        → ◌≡◌ {A = Outcome} (cond (not b) (Err SinksFull) (Ok (with_sinks (with_point p m.sinks) m))) (Ok new) → Made new
    free h ground absent true room e =
        made_is (with_sinks (with_point p m.sinks) m)
        (with_these m (with_point p m.sinks) is (sinks_with m.side p m.sinks absent (ltb-true (length m.sinks) most_sinks room) (held_at m.side p m.tiles is.tiles (λ outside. let no : height.At h ≡ height.Outside = sym ground ∙ outside in cc)) is.sinks), refl) e
    free h ground absent false room e = absurd (cc)

    there : (h : ℤ) → height_of m p ≡ height.At h → (b : Bool) → is_sink m p ≡ b
        → ◌≡◌ {A = Outcome} (cond b (Err SinkThere) (cond (not (nat_lt (length m.sinks) most_sinks)) (Err SinksFull) (Ok (with_sinks (with_point p m.sinks) m)))) (Ok new) → Made new
    there h ground true is_there e = absurd (cc)
    there h ground false absent e = free h ground absent (nat_lt (length m.sinks) most_sinks) refl e

    at : (h : Height) → height_of m p ≡ h → sunk_at h p m ≡ Ok new → Made new
    at height.Outside ground e = absurd (cc)
    at height.Void ground e = absurd (cc)
    at (height.At h) ground e = there h ground (is_sink m p) refl e

pub unsunk_leaves : SinksLeaveMosaics
unsunk_leaves m p new is makes = by (is_sink m p) refl makes
  where
    by : (b : Bool) → is_sink m p ≡ b → ◌≡◌ {A = Outcome} (cond b (Ok (with_sinks (without_point p m.sinks) m)) (Err NoSink)) (Ok new) → IsMosaic new × (new ≡ with_sinks new.sinks m)
    by true is_there e =
        let same : with_sinks (without_point p m.sinks) m ≡ new = cc in
        subst (λ (made : Mosaic). IsMosaic made × (made ≡ with_sinks made.sinks m)) same (with_these m (without_point p m.sinks) is (sinks_without m.side p m.sinks is.sinks), refl)
    by false absent e = absurd (cc)

-- ---- the tests of a sink

-- If no corner's tile has the point, the sink is refused.
pub outside_refused : (m : Mosaic) (p : Point) → IsMosaic m → (IsHeld m.side p → ⊥) → sunk m p ≡ Err Outside
outside_refused m p is none = by (height_of m p) refl
  where
    by : (h : Height) → height_of m p ≡ h → sunk_at h p m ≡ Err Outside
    by height.Outside ground = refl
    by height.Void ground = absurd (none (held_at m.side p m.tiles is.tiles (λ outside. let no : height.Void ≡ height.Outside = sym ground ∙ outside in cc)))
    by (height.At h) ground = absurd (none (held_at m.side p m.tiles is.tiles (λ outside. let no : height.At h ≡ height.Outside = sym ground ∙ outside in cc)))

module _ (m : Mosaic) (p : Point) (sinks : List Point) (are : m.sinks ≡ sinks) where
  module _ (h : ℤ) (ground : height_of m p ≡ height.At h) where
    pub sink_there : list_any (λ s. same_point s p) sinks ≡ true → sunk m p ≡ Err SinkThere
    sink_there is = rw (ground, are, is) refl

    pub sinks_full : list_any (λ s. same_point s p) sinks ≡ false → most_sinks ≤ length sinks → sunk m p ≡ Err SinksFull
    sinks_full absent full = rw (ground, are, absent, le-ltb (length sinks) most_sinks full) refl

    pub sink_made : list_any (λ s. same_point s p) sinks ≡ false → length sinks < most_sinks → (made : List Point) → made ≡ with_point p sinks → sunk m p ≡ Ok (with_sinks made m)
    sink_made absent room made is = rw (ground, are, absent, lt-ltb (length sinks) most_sinks room, is) refl

  pub no_sink : list_any (λ s. same_point s p) sinks ≡ false → unsunk m p ≡ Err NoSink
  no_sink absent = rw (are, absent) refl

  pub sink_left : list_any (λ s. same_point s p) sinks ≡ true → (made : List Point) → made ≡ without_point p sinks → unsunk m p ≡ Ok (with_sinks made m)
  sink_left is made same = rw (are, is, same) refl

-- ---- a list with one point added or removed, as a loop makes it

-- the rest of the list, after the first points
abbrev pub rest_of : Bool → Point → List Point → List Point
rest_of true p points = points
rest_of false p points = with_point p points

abbrev pub in_count : Bool → ℕ
in_count true = 1
in_count false = 0

module _ (p q : Point) (points with : List Point) (i : ℕ) (d : Point) (within : i < length points) (is : q ≡ get_or points i d) where
  here : drop i points ≡ q ∷ drop (i + 1) points
  here = rw (is, add-one) (drop-cons points i d within)

  pub put_before : is_point_before p q ≡ true → with_point p points ≡ with ++ rest_of false p (drop i points) → with_point p points ≡ ((with ++ p ∷ []) ++ q ∷ []) ++ rest_of true p (drop (i + 1) points)
  put_before before made =
      made ∙ ap (λ (l : List Point). with ++ with_point p l) here ∙ ap (λ (l : List Point). with ++ l) (cond-true (is_point_before p q) (p ∷ (q ∷ drop (i + 1) points)) (q ∷ with_point p (drop (i + 1) points)) before)
      ∙ sym (append_assoc with (p ∷ []) (q ∷ drop (i + 1) points)) ∙ sym (append_assoc (with ++ p ∷ []) (q ∷ []) (drop (i + 1) points))

  pub put_later : is_point_before p q ≡ false → with_point p points ≡ with ++ rest_of false p (drop i points) → with_point p points ≡ (with ++ q ∷ []) ++ rest_of false p (drop (i + 1) points)
  put_later not_before made =
      made ∙ ap (λ (l : List Point). with ++ with_point p l) here ∙ ap (λ (l : List Point). with ++ l) (cond-false (is_point_before p q) (p ∷ (q ∷ drop (i + 1) points)) (q ∷ with_point p (drop (i + 1) points)) not_before)
      ∙ sym (append_assoc with (q ∷ []) (with_point p (drop (i + 1) points)))

  pub put_behind : with_point p points ≡ with ++ rest_of true p (drop i points) → with_point p points ≡ (with ++ q ∷ []) ++ rest_of true p (drop (i + 1) points)
  put_behind made = made ∙ ap (λ (l : List Point). with ++ l) here ∙ sym (append_assoc with (q ∷ []) (drop (i + 1) points))
