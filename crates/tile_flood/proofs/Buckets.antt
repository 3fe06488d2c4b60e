-- The waiting points when one bucket of the queue changes.
use Rattle.std.proofs.Common.{rules}
use Rattle.std.proofs.Common.{◌≡◌, ◌≢◌, ℕ, zero, suc, ◌+◌, ◌<◌, ◌≤◌, ℤ, pos, ◌+ℤ◌, ◌-ℤ◌, ◌≤ℤ◌, ◌<ℤ◌, nat_abs, sum_by, List, [], ◌∷◌, ◌++◌, length, map, get_or, set, ◌⊎◌, inl, inr, Contains, refl, sym, ap, ap₂, ◌∙◌, ◌-◌, subst, arith, length-set, get_or-set_same, get_or-set_other, length-append}
use Rattle.tile_flood.proofs.Prelude.{cases_eq, cases_lt, ints}
use Rattle.std.proofs.lemmas.List.{get_or_default, get_or_past, get_or_append_left, get_or-append-add, get_or-append_right, map-append}
use Rattle.std.proofs.lemmas.List.Sums.{sum_by-set, sum_by-cons, sum_by-append}
use Rattle.std.proofs.lemmas.List.Elements.{Contains-append_cases, Contains-append_left, Contains-append_right}
use Rattle.tile_flood.specs.Waiting.{Queue, bucket, Waits, HasBucket, waiting, AreEmpty, AreEmptyBelow, IsExtended, IsJoined, IsTaken}

-- the queue of these buckets, the first for the level `least`
abbrev pub from_level : ℤ → List (List ℕ) → Queue
from_level least buckets = record { least = least; buckets = buckets }

only_one : (e f : ℕ) → Contains (e ∷ []) f → f ≡ e
only_one e f (zero, below, is) = sym is
only_one e f (suc k, below, is) = absurd (omega arith)

pub none_in : (f : ℕ) (xs : List ℕ) → xs ≡ [] → Contains xs f → ⊥
none_in f xs empty (k, below, is) = let none : length xs ≡ 0 = ap length empty in absurd (omega arith)

-- a list of buckets after one is replaced
module _ (least : ℤ) (bs : List (List ℕ)) (k : ℕ) (v : List ℕ) (inside : k < length bs) where
  there : bucket (set bs k v) k ≡ v
  there = get_or-set_same bs k v [] inside

  elsewhere : (b : ℕ) → b ≢ k → bucket (set bs k v) b ≡ bucket bs b
  elsewhere b other = get_or-set_other bs k b v [] other

  into : (l : ℤ) (f : ℕ) → Waits (from_level least bs) l f → (Contains (bucket bs k) f → Contains v f) → Waits (from_level least (set bs k v)) l f
  into l f (b, (is, has)) grows = elim (cases_eq b k) [
    | inl same ↦ (k, (is ∙ ap (λ x. least +ℤ pos x) same, subst (λ xs. Contains xs f) (sym there) (grows (subst (λ x. Contains (bucket bs x) f) same has))))
    | inr other ↦ (b, (is, subst (λ xs. Contains xs f) (sym (elsewhere b other)) has))
  ]

  back : (l : ℤ) (f : ℕ) → Waits (from_level least (set bs k v)) l f → ((l ≡ least +ℤ pos k) × Contains v f) ⊎ Waits (from_level least bs) l f
  back l f (b, (is, has)) = elim (cases_eq b k) [
    | inl same ↦ inl (is ∙ ap (λ x. least +ℤ pos x) same, subst (λ xs. Contains xs f) there (subst (λ x. Contains (bucket (set bs k v) x) f) same has))
    | inr other ↦ inr (b, (is, subst (λ xs. Contains xs f) (elsewhere b other) has))
  ]

-- k is a bucket if the level's bucket has this number
pub number_inside : (queue : Queue) (level : ℤ) (k : ℕ) → HasBucket queue level → level ≡ queue.least +ℤ pos k → k < length queue.buckets
number_inside queue level k has is = let inside = has.inside in let at = has.at in omega (arith, ints)

-- a point is added to bucket k
module _ (least : ℤ) (bs : List (List ℕ)) (k e : ℕ) (inside : k < length bs) where
  pub joins : IsJoined (from_level least bs) (from_level least (set bs k (bucket bs k ++ e ∷ []))) (least +ℤ pos k) e
  joins = record {
    waits = (k, (refl, subst (λ xs. Contains xs e) (sym (there least bs k (bucket bs k ++ e ∷ []) inside)) (Contains-append_right (bucket bs k) (e ∷ []) e (0, omega arith, refl))));
    others = λ l f w. into least bs k (bucket bs k ++ e ∷ []) inside l f w (λ has. Contains-append_left (bucket bs k) (e ∷ []) f has);
    only = λ l f w. elim (back least bs k (bucket bs k ++ e ∷ []) inside l f w) [
      | inl new ↦ elim (Contains-append_cases (bucket bs k) (e ∷ []) f new.1) [
        | inl old ↦ inr (k, (new.0, old))
        | inr last ↦ inl (new.0, only_one e f last)
      ]
      | inr old ↦ inr old
    ];
  }

  pub joins_count : waiting (from_level least (set bs k (bucket bs k ++ e ∷ []))) ≡ waiting (from_level least bs) + 1
  joins_count =
      let total : waiting (from_level least (set bs k (bucket bs k ++ e ∷ []))) + length (bucket bs k) ≡ waiting (from_level least bs) + length (bucket bs k ++ e ∷ []) = sum_by-set length bs k (bucket bs k ++ e ∷ []) [] inside in
      let long : length (bucket bs k ++ e ∷ []) ≡ length (bucket bs k) + 1 = length-append (bucket bs k) (e ∷ []) in
      omega arith

-- the last point of bucket k, the lowest that isn't empty, is removed
module _ (least : ℤ) (bs : List (List ℕ)) (k e : ℕ) (rest : List ℕ) (inside : k < length bs) (is : bucket bs k ≡ rest ++ e ∷ []) (low : AreEmptyBelow bs k) where
  pub takes : IsTaken (from_level least bs) (from_level least (set bs k rest)) (least +ℤ pos k) e
  takes = record {
    waited = (k, (refl, subst (λ xs. Contains xs e) (sym is) (Contains-append_right rest (e ∷ []) e (0, omega arith, refl))));
    lowest = λ l f w. elim (cases_lt w.0 k) [
      | inl below ↦ absurd (none_in f (bucket bs w.0) (low w.0 below) w.1.1)
      | inr above ↦ let at = w.1.0 in omega (arith, ints)
    ];
    others = λ l f w. elim (cases_eq w.0 k) [
      | inl same ↦ elim (Contains-append_cases rest (e ∷ []) f (subst (λ xs. Contains xs f) is (subst (λ x. Contains (bucket bs x) f) same w.1.1))) [
        | inl left ↦ inr (k, (w.1.0 ∙ ap (λ x. least +ℤ pos x) same, subst (λ xs. Contains xs f) (sym (there least bs k rest inside)) left))
        | inr last ↦ inl (w.1.0 ∙ ap (λ x. least +ℤ pos x) same, only_one e f last)
      ]
      | inr other ↦ inr (w.0, (w.1.0, subst (λ xs. Contains xs f) (sym (elsewhere least bs k rest inside w.0 other)) w.1.1))
    ];
    only = λ l f w. elim (back least bs k rest inside l f w) [
      | inl new ↦ (k, (new.0, subst (λ xs. Contains xs f) (sym is) (Contains-append_left rest (e ∷ []) f new.1)))
      | inr old ↦ old
    ];
  }

  pub takes_count : waiting (from_level least bs) ≡ waiting (from_level least (set bs k rest)) + 1
  takes_count =
      let total : waiting (from_level least (set bs k rest)) + length (bucket bs k) ≡ waiting (from_level least bs) + length rest = sum_by-set length bs k rest [] inside in
      let long : length (bucket bs k) ≡ length rest + 1 = ap length is ∙ length-append rest (e ∷ []) in
      omega arith

-- a point is added to an extended queue
pub joined_extended : (old between new : Queue) (level : ℤ) (e : ℕ) → IsExtended old between → IsJoined between new level e → IsJoined old new level e
joined_extended old between new level e extended joined = record {
  waits = joined.waits;
  others = λ l f w. joined.others l f (extended.still l f w);
  only = λ l f w. elim (joined.only l f w) [ inl is ↦ inl is | inr waited ↦ inr (extended.only l f waited) ];
}

pub nobody : (least : ℤ) (bs : List (List ℕ)) (k : ℕ) → AreEmptyBelow bs k → ((b : ℕ) → k ≤ b → bucket bs b ≡ []) → (l : ℤ) (f : ℕ) → Waits (from_level least bs) l f → ⊥
nobody least bs k low high l f w = search rules

pub none_left : {X : Type 0} (xs : List X) → length xs ≡ 0 → xs ≡ []
none_left [] none = refl
none_left (x ∷ xs) none = absurd (omega arith)

-- the number of levels from `least` to this level
number_from : (least level : ℤ) → least ≤ℤ level → (k : ℕ) × (level ≡ least +ℤ pos k)
number_from least level low = (nat_abs (level -ℤ least), omega (arith, ints))

no_count : (bs : List (List ℕ)) → AreEmpty bs → sum_by length bs ≡ 0
no_count [] none = refl
no_count (x ∷ bs) none =
    let here : length x ≡ 0 = ap length (none 0) in
    let later = no_count bs (λ b. none (suc b)) in
    let both : length x + sum_by length bs ≡ 0 = omega arith in
    sum_by-cons length x bs ∙ both

-- empty buckets are added before and after the others
module _ (least : ℤ) (pre bs post : List (List ℕ)) (none_before : AreEmpty pre) (none_after : AreEmpty post) where
  abbrev all : List (List ℕ)
  all = (pre ++ bs) ++ post

  abbrev extended : Queue
  extended = from_level (least -ℤ pos (length pre)) all

  before : (b : ℕ) → b < length pre → bucket all b ≡ []
  before b below =
      let long = length-append pre bs in
      get_or_append_left (pre ++ bs) post [] b (omega arith) ∙ (get_or_append_left pre bs [] b below ∙ none_before b)

  among : (b : ℕ) → bucket all (length pre + b) ≡ bucket bs b
  among b =
      let long = length-append pre bs in
      elim (cases_lt b (length bs)) [
        | inl inside ↦ get_or_append_left (pre ++ bs) post [] (length pre + b) (omega arith) ∙ get_or-append-add pre bs b []
        | inr past ↦ get_or-append_right (pre ++ bs) post (length (pre ++ bs)) (length pre + b) [] refl (omega arith)
            ∙ (none_after (length pre + b - length (pre ++ bs)) ∙ sym (get_or_past bs b [] past))
      ]

  pub extends : IsExtended (from_level least bs) extended
  extends = record {
    still = λ l e w. let at = w.1.0 in (length pre + w.0, (omega (arith, ints), subst (λ xs. Contains xs e) (sym (among w.0)) w.1.1));
    only = λ l e w. elim (cases_lt w.0 (length pre)) [
      | inl below ↦ absurd (none_in e (bucket all w.0) (before w.0 below) w.1.1)
      | inr above ↦
          let b : ℕ = w.0 - length pre in
          let same : w.0 ≡ length pre + b = omega arith in
          (b, (omega (arith, ints), subst (λ xs. Contains xs e) (ap (bucket all) same ∙ among b) w.1.1))
    ];
    count = sum_by-append length (pre ++ bs) post ∙ (ap₂ (λ x y. x + y) (sum_by-append length pre bs ∙ ap (λ x. x + waiting (from_level least bs)) (no_count pre none_before)) (no_count post none_after) ∙ omega arith);
  }

  pub has_bucket : (level : ℤ) → (least -ℤ pos (length pre)) ≤ℤ level → (least ≤ℤ level → level <ℤ ((least +ℤ pos (length bs)) +ℤ pos (length post))) → HasBucket extended level
  has_bucket level low high =
      let inner = length-append pre bs in
      let long = length-append (pre ++ bs) post in
      let number = number_from (least -ℤ pos (length pre)) level low in
      let k = number.0 in
      let at = number.1 in
      record {
        number = k;
        inside = elim (cases_lt k (length pre)) [
          | inl below ↦ omega arith
          | inr above ↦ let reached = high (omega (arith, ints)) in omega (arith, ints)
        ];
        at = at;
      }

-- buckets that are vectors, and the lists of their points
module _ {V : Type 0} (items : V → List ℕ) where
  pub bucket_of : (xs : List V) (k : ℕ) (d : V) → k < length xs → bucket (map items xs) k ≡ items (get_or xs k d)
  bucket_of [] k d low = absurd (omega arith)
  bucket_of (x ∷ xs) zero d low = refl
  bucket_of (x ∷ xs) (suc k) d low = bucket_of xs k d (omega arith)

  pub map_set : (xs : List V) (k : ℕ) (v : V) → map items (set xs k v) ≡ set (map items xs) k (items v)
  map_set [] k v = refl
  map_set (x ∷ xs) zero v = refl
  map_set (x ∷ xs) (suc k) v = ap (λ ys. items x ∷ ys) (map_set xs k v)

  pub map_length : (xs : List V) → length (map items xs) ≡ length xs
  map_length [] = refl
  map_length (x ∷ xs) = ap suc (map_length xs)

  -- after a change in bucket k the buckets below are still empty, and the count of buckets stays
  pub still_sound : (least : ℤ) (xs : List V) (k low now : ℕ) (v : V) → (least +ℤ pos (length xs)) ≤ℤ pos 32768 → AreEmptyBelow (map items xs) low → now ≤ low → now ≤ k →
      ((least +ℤ pos (length (set xs k v))) ≤ℤ pos 32768) × AreEmptyBelow (map items (set xs k v)) now
  still_sound least xs k low now v few empty le at = (
    subst (λ n. (least +ℤ pos n) ≤ℤ pos 32768) (sym (length-set xs k v)) few,
    λ b below. subst (λ bs. bucket bs b ≡ []) (sym (map_set xs k v)) (get_or-set_other (map items xs) k b (items v) [] (λ same. absurd (omega arith)) ∙ empty b (omega arith)),
  )

  pub empty_between : (xs ys : List V) (low k : ℕ) → xs ≡ ys → ((b : ℕ) → low ≤ b → b < k → bucket (map items xs) b ≡ []) →
      (b : ℕ) → low ≤ b → b < k → bucket (map items ys) b ≡ []
  empty_between xs ys low k same h = subst (λ zs. (b : ℕ) → low ≤ b → b < k → bucket (map items zs) b ≡ []) same h

  pub empty_below : (xs : List V) (low k : ℕ) → AreEmptyBelow (map items xs) low → ((b : ℕ) → low ≤ b → b < k → bucket (map items xs) b ≡ []) → AreEmptyBelow (map items xs) k
  empty_below xs low k empty next b lt = elim (cases_lt b low) [ inl l ↦ empty b l | inr g ↦ next b g lt ]

  -- the buckets up to k are empty if the buckets before k and bucket k are
  pub next_empty : (xs : List V) (low k : ℕ) (v : V) → k < length xs → v ≡ get_or xs k v → items v ≡ [] → ((b : ℕ) → low ≤ b → b < k → bucket (map items xs) b ≡ []) →
      (b : ℕ) → low ≤ b → b < k + 1 → bucket (map items xs) b ≡ []
  next_empty xs low k v inside is none before b from below = elim (cases_lt b k) [
    | inl lt ↦ before b from lt
    | inr ge ↦ let same : b ≡ k = omega arith in
        subst (λ x. bucket (map items xs) x ≡ []) (sym same) (bucket_of xs k v inside ∙ (ap items (sym is) ∙ none))
  ]

  -- a list of empty buckets, with one more empty bucket, has only empty buckets
  pub empty_more : (xs : List V) (v : V) → items v ≡ [] → AreEmpty (map items xs) → AreEmpty (map items (xs ++ v ∷ []))
  empty_more [] v is none zero = is
  empty_more [] v is none (suc b) = refl
  empty_more (x ∷ xs) v is none zero = none 0
  empty_more (x ∷ xs) v is none (suc b) = empty_more xs v is (λ k. none (suc k)) b

  -- the level's bucket is in the list
  pub inside_of : (least : ℤ) (xs : List V) (queue : Queue) (level : ℤ) (k : ℕ) → from_level least (map items xs) ≡ queue → HasBucket queue level → level ≡ least +ℤ pos k → k < length xs
  inside_of least xs queue level k same has at =
      let inside = number_inside (from_level least (map items xs)) level k (subst (λ q. HasBucket q level) (sym same) has) at in
      let as_many = map_length xs in
      omega arith

  pub has_bucket_at : (least level : ℤ) (xs : List V) (queue : Queue) → from_level least (map items xs) ≡ queue → least ≤ℤ level → level <ℤ (least +ℤ pos (length xs)) → HasBucket queue level
  has_bucket_at least level xs queue same low high =
      let number = number_from least level low in
      let as_many = map_length xs in
      subst (λ q. HasBucket q level) same (record { number = number.0; inside = omega (arith, ints); at = number.1 })

  -- adding empty buckets changes no waiting point
  pub extended_as : (least least' : ℤ) (pre xs post now : List V) (queue : Queue) (level : ℤ) → from_level least (map items xs) ≡ queue → AreEmpty (map items pre) → AreEmpty (map items post) → least' ≡ least -ℤ pos (length pre) → now ≡ (pre ++ xs) ++ post →
      (least -ℤ pos (length pre)) ≤ℤ level → (least ≤ℤ level → level <ℤ ((least +ℤ pos (length xs)) +ℤ pos (length post))) → IsExtended queue (from_level least' (map items now)) × HasBucket (from_level least' (map items now)) level
  extended_as least least' pre xs post now queue level same none_before none_after at is low high =
      let parts : map items now ≡ (map items pre ++ map items xs) ++ map items post = ap (map items) is ∙ (map-append items (pre ++ xs) post ∙ ap (λ bs. bs ++ map items post) (map-append items pre xs)) in
      let from : least' ≡ least -ℤ pos (length (map items pre)) = at ∙ ap (λ k. least -ℤ pos k) (sym (map_length pre)) in
      let low : (least -ℤ pos (length (map items pre))) ≤ℤ level = subst (λ k. (least -ℤ pos k) ≤ℤ level) (sym (map_length pre)) low in
      let high : least ≤ℤ level → level <ℤ ((least +ℤ pos (length (map items xs))) +ℤ pos (length (map items post))) =
      subst (λ k. least ≤ℤ level → level <ℤ ((least +ℤ pos k) +ℤ pos (length (map items post)))) (sym (map_length xs)) (subst (λ k. least ≤ℤ level → level <ℤ ((least +ℤ pos (length xs)) +ℤ pos k)) (sym (map_length post)) high) in
      subst (λ q. IsExtended q (from_level least' (map items now)) × HasBucket (from_level least' (map items now)) level) same
      (subst (λ bs. IsExtended (from_level least (map items xs)) (from_level least' bs) × HasBucket (from_level least' bs) level) (sym parts)
      (subst (λ l. IsExtended (from_level least (map items xs)) (from_level l ((map items pre ++ map items xs) ++ map items post)) × HasBucket (from_level l ((map items pre ++ map items xs) ++ map items post)) level) (sym from)
      (extends least (map items pre) (map items xs) (map items post) none_before none_after, has_bucket least (map items pre) (map items xs) (map items post) none_before none_after level low high)))

  -- all waiting points are above each level that is below the first bucket in use
  pub above_level : (least : ℤ) (xs ys : List V) (start k : ℕ) (queue : Queue) (level : ℤ) → from_level least (map items ys) ≡ queue → xs ≡ ys → AreEmptyBelow (map items ys) start →
      ((b : ℕ) → start ≤ b → b < k → bucket (map items xs) b ≡ []) → level <ℤ (least +ℤ pos k) → (l : ℤ) (f : ℕ) → Waits queue l f → level <ℤ l
  above_level least xs ys start k queue level same alike empty next under = search rules

  -- some point waits at the level of a bucket in use
  pub somebody : (least : ℤ) (xs ys : List V) (k : ℕ) (queue : Queue) (level : ℤ) → from_level least (map items ys) ≡ queue → xs ≡ ys → level ≡ least +ℤ pos k → 0 < length (bucket (map items xs) k) → (e : ℕ) × Waits queue level e
  somebody least xs ys k queue level same alike at some =
      let e = get_or (bucket (map items xs) k) 0 0 in
      subst (λ q. (e : ℕ) × Waits q level e) same
      (subst (λ zs. (e : ℕ) × Waits (from_level least (map items zs)) level e) alike (e, (k, (at, (0, some, get_or_default (bucket (map items xs) k) 0 e 0 some)))))

  -- the effect of a push into bucket k and of a pop from it
  module _ (least : ℤ) (xs : List V) (k e : ℕ) (old v : V) (queue : Queue) (level : ℤ) (inside : k < length xs)
      (same : from_level least (map items xs) ≡ queue) (was : old ≡ get_or xs k old) (at : level ≡ least +ℤ pos k) where
    abbrev changed : Queue
    changed = from_level least (map items (set xs k v))

    k_inside : k < length (map items xs)
    k_inside = let a = map_length xs in omega arith

    old_bucket : items old ≡ bucket (map items xs) k
    old_bucket = ap items was ∙ sym (bucket_of xs k old inside)

    pub pushed : items v ≡ items old ++ e ∷ [] → IsJoined queue changed level e × (waiting changed ≡ waiting queue + 1)
    pushed grew =
        let is : map items (set xs k v) ≡ set (map items xs) k (bucket (map items xs) k ++ e ∷ []) = map_set xs k v ∙ ap (λ w. set (map items xs) k w) (grew ∙ ap (λ w. w ++ e ∷ []) old_bucket) in
        subst (λ q. IsJoined q changed level e × (waiting changed ≡ waiting q + 1)) same
        (subst (λ l. IsJoined (from_level least (map items xs)) changed l e × (waiting changed ≡ waiting (from_level least (map items xs)) + 1)) (sym at)
        (subst (λ bs. IsJoined (from_level least (map items xs)) (from_level least bs) (least +ℤ pos k) e × (waiting (from_level least bs) ≡ waiting (from_level least (map items xs)) + 1)) (sym is)
        (joins least (map items xs) k e k_inside, joins_count least (map items xs) k e k_inside)))

    pub popped : (low : ℕ) → AreEmptyBelow (map items xs) low → ((b : ℕ) → low ≤ b → b < k → bucket (map items xs) b ≡ []) → items old ≡ items v ++ e ∷ [] →
        IsTaken queue changed level e × (waiting queue ≡ waiting changed + 1)
    popped low empty next shrank =
        let below : AreEmptyBelow (map items xs) k = λ b lt. elim (cases_lt b low) [ inl l ↦ empty b l | inr g ↦ next b g lt ] in
        let is : map items (set xs k v) ≡ set (map items xs) k (items v) = map_set xs k v in
        let ends : bucket (map items xs) k ≡ items v ++ e ∷ [] = sym old_bucket ∙ shrank in
        subst (λ q. IsTaken q changed level e × (waiting q ≡ waiting changed + 1)) same
        (subst (λ l. IsTaken (from_level least (map items xs)) changed l e × (waiting (from_level least (map items xs)) ≡ waiting changed + 1)) (sym at)
        (subst (λ bs. IsTaken (from_level least (map items xs)) (from_level least bs) (least +ℤ pos k) e × (waiting (from_level least (map items xs)) ≡ waiting (from_level least bs) + 1)) (sym is)
        (takes least (map items xs) k e (items v) k_inside ends below, takes_count least (map items xs) k e (items v) k_inside ends below)))
