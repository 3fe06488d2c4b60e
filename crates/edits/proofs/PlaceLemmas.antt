-- The places of a point's samples, tile by tile.
use Rattle.edits.proofs.Prelude.{All, All-push, All-weaker, AllPairs, ArePlaces, Contains, Contains-append_left, Contains-push, Contains-push_cases, Corner, IsFalse, IsPlace, IsTrue, List, Place, Point, ℕ, [], all_pairs_push, ap, ap₂, arith, false, false_from_ne_true, get_or, inl, inr, is_corner, length, length-append, same_corner, subst, suc, sym, take, zero, ◌*◌, ◌++◌, ◌<◌, ◌↔◌, ◌∙◌, ◌∷◌, ◌≡◌, ◌≤◌, ◌⊎◌}
use Rattle.lattice.proofs.CornerOrder.{before_apart, same_says}
use Rattle.lattice.proofs.Rising.{Rising, after_at}
use Rattle.lattice.specs.Lattice.{Holds, IsIndexOf, point_of, index_of}
use Rattle.lattice.proofs.Samples.{index_is, index_below, index_of_point_is, point_of_held, point_at_index}
use Rattle.lattice.proofs.Multiples.{some_side}

-- the places in the tiles of these corners
pub record PlacesAmong (n : ℕ) (cs among : List Corner) (p : Point) (places : List Place) : Type 0 where
  pub each : All (IsPlace n cs p) places
  pub complete : (c : Corner) (e : ℕ) → IsTrue (is_corner c) → Contains cs c → Contains among c → e < n * n → point_of n c e ≡ p → Contains places (record { corner = c; index = e })
  pub once : AllPairs (λ x y. IsFalse (same_corner x.corner y.corner)) places
  pub among_them : All (λ x. Contains among x.corner) places
  pub few : length places ≤ length among

-- A corner of a rising list isn't among those before it.
pub not_earlier : (hs : List Corner) (i : ℕ) (d : Corner) → Rising (λ p. p) hs → i < length hs → Contains (take i hs) (get_or hs i d) → ⊥
not_earlier [] i d rising below there = omega arith
not_earlier (h ∷ hs) zero d rising below (k, small, here) = omega arith
not_earlier (h ∷ hs) (suc i) d rising below (zero, small, here) = before_apart h (get_or hs i d) (after_at (λ p. p) h hs i d rising.0 (omega arith)) here
not_earlier (h ∷ hs) (suc i) d rising below (suc k, small, here) = not_earlier hs i d rising.1 (omega arith) (k, omega arith, here)

module _ (n : ℕ) (cs : List Corner) (p : Point) where
  -- the case of a tile that isn't present or doesn't have the point
  pub places_skip : (hs : List Corner) (c : Corner) (places : List Place) → (Contains cs c → Holds n c p → ⊥) → PlacesAmong n cs hs p places → PlacesAmong n cs (hs ++ c ∷ []) p places
  places_skip hs c places none so = record {
    each = so.each;
    complete = λ d e corner present listed within at. by d e corner present within at (Contains-push_cases hs c d listed);
    once = so.once;
    among_them = All-weaker (λ (x : Place). Contains hs x.corner) (λ (x : Place). Contains (hs ++ c ∷ []) x.corner) (λ x there. Contains-append_left hs (c ∷ []) x.corner there) places so.among_them;
    few = let more = length-append hs (c ∷ []) in omega (arith, so.few, more);
  }
    where
      by : (d : Corner) (e : ℕ) → IsTrue (is_corner d) → Contains cs d → e < n * n → point_of n d e ≡ p → Contains hs d ⊎ (c ≡ d) → Contains places (record { corner = d; index = e })
      by d e corner present within at (inl before) = so.complete d e corner present before within at
      by d e corner present within at (inr same) =
          let held : Holds n d p = subst (λ (q : Point). Holds n d q) at (point_of_held n d e (some_side n e within) corner within) in
          absurd (none (subst (λ (q : Corner). Contains cs q) (sym same) present) (subst (λ (q : Corner). Holds n q p) (sym same) held))

  -- the case of a present tile with the point
  pub places_push : (hs : List Corner) (c : Corner) (i : ℕ) (places : List Place) → (Contains hs c → ⊥) → Contains cs c → IsIndexOf n c p i → PlacesAmong n cs hs p places → PlacesAmong n cs (hs ++ c ∷ []) p (places ++ record { corner = c; index = i } ∷ [])
  places_push hs c i places fresh there index so = record {
    each = All-push (IsPlace n cs p) places x so.each (record { present = there; within = index_below n c p i index; here = point_at_index n c p i index });
    complete = λ d e corner present listed within at. by d e corner present within at (Contains-push_cases hs c d listed);
    once = all_pairs_push (λ (y z : Place). same_corner y.corner z.corner ≡ false) places x so.once
        (λ k d below. let y = get_or places k d in false_from_ne_true (same_corner y.corner c) (λ same. fresh (subst (Contains hs) (same_says y.corner c same) (so.among_them k d below))));
    among_them = All-push (λ (y : Place). Contains (hs ++ c ∷ []) y.corner) places x
        (All-weaker (λ (y : Place). Contains hs y.corner) (λ (y : Place). Contains (hs ++ c ∷ []) y.corner) (λ y there. Contains-append_left hs (c ∷ []) y.corner there) places so.among_them) (Contains-push hs c);
    few = let more = length-append hs (c ∷ []) in let pushed = length-append places (x ∷ []) in omega (arith, so.few, more, pushed);
  }
    where
      x : Place
      x = record { corner = c; index = i }

      by : (d : Corner) (e : ℕ) → IsTrue (is_corner d) → Contains cs d → e < n * n → point_of n d e ≡ p → Contains hs d ⊎ (c ≡ d) → Contains (places ++ x ∷ []) (record { corner = d; index = e })
      by d e corner present within at (inl before) = Contains-append_left places (x ∷ []) (record { corner = d; index = e }) (so.complete d e corner present before within at)
      by d e corner present within at (inr same) =
          let index_e : index_of n d p ≡ e = ap (index_of n d) (sym at) ∙ index_of_point_is n d e (some_side n e within) corner within in
          let index_i : index_of n c p ≡ i = index_is n c p i index in
          let equal : i ≡ e = sym index_i ∙ ap (λ (q : Corner). index_of n q p) same ∙ index_e in
          subst (λ (y : Place). Contains (places ++ x ∷ []) y) (ap₂ (λ (q : Corner) (k : ℕ). record { corner = q; index = k }) same equal) (Contains-push places x)

  pub places_all : (hs : List Corner) (places : List Place) → ((c : Corner) → Contains hs c ↔ Holds n c p) → length hs ≤ 4 → PlacesAmong n cs hs p places → ArePlaces n cs p places
  places_all hs places exactly four so = record {
    each = so.each;
    complete = λ c e corner present within at.
        so.complete c e corner present ((exactly c).1 (subst (λ (q : Point). Holds n c q) at (point_of_held n c e (some_side n e within) corner within))) within at;
    once = so.once;
    few = omega (arith, so.few, four);
  }
