-- Changes that set each sample once.
use Rattle.edits.proofs.Prelude.{All, All-push, All-weaker, AllPairs, ArePlaces, Bool, Change, Contains, Contains-get_or, Contains-push_cases, Corner, IsPlace, List, Place, Point, ℕ, ℤ, [], all_pairs_push, and_parts, ap, ap₂, arith, both_ways, eqb-true, false, false_from_ne_true, false≢true, get_or, inl, inr, is_named, is_repeated, length, map, nat_eq, or_left, or_parts, or_right, point_of, refl, same_corner, same_point, same_point_from, same_point_says, same_says, subst, suc, sym, take, true, zero, ◌&&◌, ◌++◌, ◌<◌, ◌||◌, ◌∙◌, ◌∷◌, ◌≡◌, ◌⊎◌}
use Rattle.std.specs.Prelude.{IsTrue, IsFalse}
use Rattle.std.proofs.lemmas.List.{append-nil, append_assoc}
use Rattle.edits.specs.declared.change.Change.TheVariants.{Add, Drop, Set, Sink, Unsink}
use Rattle.edits.specs.Changes.{IsSetAt, SetOnce, set_same}

abbrev pub set_to : ℤ → Place → Change
set_to s x = Set x.corner x.index s

-- ---- points without repetition

named_is : (ps : List Point) (p : Point) (i : ℕ) → i < length ps → is_named ps (get_or ps i p) ≡ true
named_is [] p i below = absurd (omega arith)
named_is (q ∷ ps) p zero below = or_left (same_point q q) (is_named ps q) (same_point_from q q refl)
named_is (q ∷ ps) p (suc i) below = or_right (same_point (get_or ps i p) q) (is_named ps (get_or ps i p)) (named_is ps p i (omega arith))

pub not_named : (ps : List Point) (i : ℕ) (p : Point) → is_repeated ps ≡ false → i < length ps → is_named (take i ps) (get_or ps i p) ≡ false
not_named [] i p single below = absurd (omega arith)
not_named (q ∷ ps) zero p single below = refl
not_named (q ∷ ps) (suc i) p single below =
    let parts = or_parts (is_named ps q) (is_repeated ps) single in
    let r = get_or ps i p in
    let apart : same_point r q ≡ false = false_from_ne_true (same_point r q) (λ same.
    both_ways (is_named ps q) parts.0 (subst (λ (v : Point). is_named ps v ≡ true) (same_point_says r q same) (named_is ps p i (omega arith)))) in
    ap₂ (λ a b. a || b) apart (not_named ps i p parts.1 (omega arith))

-- ---- changes

pub once_none : (n : ℕ) (test : Point → Bool) → SetOnce n test []
once_none n test = record { each = λ k d below. absurd (omega arith); once = λ i j d less below. absurd (omega arith) }

set_within : (n : ℕ) (one other : Point → Bool) → ((p : Point) → one p ≡ true → other p ≡ true) → (x : Change) → IsSetAt n one x → IsSetAt n other x
set_within n one other within (Set c i s) at = within (point_of n c i) at
set_within n one other within (Add c t) at = absurd at
set_within n one other within (Drop c) at = absurd at
set_within n one other within (Sink p) at = absurd at
set_within n one other within (Unsink p) at = absurd at

pub once_within : (n : ℕ) (one other : Point → Bool) → ((p : Point) → one p ≡ true → other p ≡ true) → (changes : List Change) → SetOnce n one changes → SetOnce n other changes
once_within n one other within changes single = record {
  each = All-weaker (IsSetAt n one) (IsSetAt n other) (set_within n one other within) changes single.each;
  once = single.once;
}

-- one more sample, which no change sets yet
once_push : (n : ℕ) (test : Point → Bool) (x : Change) (changes : List Change) → IsSetAt n test x → ((y : Change) → Contains changes y → set_same y x ≡ false) → SetOnce n test changes → SetOnce n test (changes ++ x ∷ [])
once_push n test x changes at apart single = record {
  each = All-push (IsSetAt n test) changes x single.each at;
  once = all_pairs_push (λ y z. set_same y z ≡ false) changes x single.once (λ k d below. apart (get_or changes k d) (Contains-get_or changes k d below));
}

-- the places of a point one after another
once_places : (n : ℕ) (test : Point → Bool) (s : ℤ) (places : List Place) (changes : List Change) → All (λ (x : Place). IsTrue (test (point_of n x.corner x.index))) places
    → AllPairs (λ (x y : Place). IsFalse (same_corner x.corner y.corner)) places → ((y : Change) (x : Place) → Contains changes y → Contains places x → set_same y (set_to s x) ≡ false) → SetOnce n test changes
    → SetOnce n test (changes ++ map (set_to s) places)
once_places n test s [] changes at once apart single = subst (SetOnce n test) (sym (append-nil changes)) single
once_places n test s (x ∷ rest) changes at once apart single =
    subst (SetOnce n test) (append_assoc changes (set_to s x ∷ []) (map (set_to s) rest))
    (once_places n test s rest (changes ++ set_to s x ∷ []) (λ k d below. at (suc k) d (omega arith)) (λ i j d less below. once (suc i) (suc j) d (omega arith) (omega arith))
    (λ y z there later. by y z later (Contains-push_cases changes (set_to s x) y there))
    (once_push n test (set_to s x) changes (at 0 x (omega arith)) (λ y there. apart y x there (0, omega arith, refl)) single))
  where
    by : (y : Change) (z : Place) → Contains rest z → Contains changes y ⊎ (set_to s x ≡ y) → set_same y (set_to s z) ≡ false
    by y z (k, below, here) (inl was) = apart y z was (suc k, omega arith, here)
    by y z (k, below, here) (inr is) =
        let other : same_corner x.corner z.corner ≡ false = subst (λ (w : Place). same_corner x.corner w.corner ≡ false) here (once 0 (suc k) z (omega arith) (omega arith)) in
        subst (λ (v : Change). set_same v (set_to s z) ≡ false) is (ap (λ b. b && nat_eq x.index z.index) other)

same_set_says : (y : Change) (c : Corner) (i : ℕ) (s : ℤ) → set_same y (Set c i s) ≡ true → (t : ℤ) × (y ≡ Set c i t)
same_set_says (Set d j t) c i s e =
    let both = and_parts (same_corner d c) (nat_eq j i) e in
    (t, ap₂ (λ (p : Corner) (k : ℕ). Set p k t) (same_says d c both.0) (eqb-true j i both.1))
same_set_says (Add d t) c i s e = absurd (false≢true e)
same_set_says (Drop d) c i s e = absurd (false≢true e)
same_set_says (Sink p) c i s e = absurd (false≢true e)
same_set_says (Unsink p) c i s e = absurd (false≢true e)

-- the places of a point where no change sets a sample yet
pub once_at : (n : ℕ) (cs : List Corner) (p : Point) (s : ℤ) (places : List Place) → ArePlaces n cs p places → (before : Point → Bool) → ((q : Point) → before q ≡ true → same_point q p ≡ true → ⊥) → (changes : List Change) → SetOnce n before changes
    → SetOnce n (λ q. before q || same_point q p) (changes ++ map (set_to s) places)
once_at n cs p s places are before apart changes single =
    once_places n (λ q. before q || same_point q p) s places changes
    (All-weaker (IsPlace n cs p) (λ (x : Place). IsTrue (before (point_of n x.corner x.index) || same_point (point_of n x.corner x.index) p))
    (λ x at. or_right (before (point_of n x.corner x.index)) (same_point (point_of n x.corner x.index) p) (here x at)) places are.each)
    are.once
    (λ y x there (k, below, is). false_from_ne_true (set_same y (set_to s x)) (λ same.
    elsewhere y x (subst (IsPlace n cs p) is (are.each k x below)) (same_set_says y x.corner x.index s same) there))
    (once_within n before (λ q. before q || same_point q p) (λ q was. or_left (before q) (same_point q p) was) changes single)
  where
    here : (x : Place) → IsPlace n cs p x → same_point (point_of n x.corner x.index) p ≡ true
    here x at = ap (λ (q : Point). same_point q p) at.here ∙ same_point_from p p refl

    elsewhere : (y : Change) (x : Place) → IsPlace n cs p x → (t : ℤ) × (y ≡ Set x.corner x.index t) → Contains changes y → ⊥
    elsewhere y x at (t, is) (k, below, there) =
        let set : IsSetAt n before y = subst (IsSetAt n before) there (single.each k y below) in
        let was : before (point_of n x.corner x.index) ≡ true = subst (IsSetAt n before) is set in
        apart (point_of n x.corner x.index) was (here x at)
