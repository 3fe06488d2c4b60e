-- The marked points, by rank, as segments are added and bits are set.
use Rattle.std.proofs.Common.{rules}
use Rattle.std.proofs.Common.{◌≡◌, ◌≢◌, ℕ, zero, suc, ◌+◌, ◌*◌, ◌^◌, ◌/◌, ◌%◌, ◌<◌, ◌≤◌, ◌⊎◌, ◌↔◌, inl, inr, ⊎_elim, Option, Some, None, List, [], ◌∷◌, ◌++◌, length, get_or, replicate, refl, sym, ap, ◌∙◌, subst, arith, true, true≢false, length-append}
use Rattle.watershed.proofs.Prelude.{AreRuns, Cover, IsBefore, IsInSegment, IsInWord, IsIndexed, IsMarked, IsRank, Marks, Point, Run, bit_at, cases_Bool, cases_eq, cond-false, get_or-append_seam, ints, is_at, none-some, place_of, same_place, word_in, word_of}
use Rattle.std.specs.Map.{lookup, keys_of}
use Rattle.std.specs.List.Sorted.{IsStrictlySortedBy}
use Rattle.std.specs.Ordering.{nat_cmp, is_eq}
use Rattle.std.specs.declared.cmp.Ordering.{Ordering}
use Rattle.std.specs.declared.cmp.Ordering.TheVariants.{Less, Equal, Greater}
use Rattle.std.proofs.lemmas.Cmp.{ranked}
use Rattle.std.proofs.lemmas.List.{get_or_append_left, get_or-replicate, length-replicate}
use Rattle.std.proofs.lemmas.Nat.Bits.{bit_at-zero}
use Rattle.watershed.proofs.Found.{runs_alike}

pub one_point : (p q : Point) (n : ℕ) → IsRank p n → IsRank q n → p ≡ q
one_point p q n first then = same_place p q (let a = first.row in let b = then.row in omega (arith, ints)) (let a = first.column in let b = then.column in omega (arith, ints))

pub rank_before : (q p : Point) (n m : ℕ) → IsRank q n → IsRank p m → n < m → IsBefore q p
rank_before q p n m first then less = search rules

pub no_bit : (bits i : ℕ) → bits ≡ 0 → bit_at bits i ≡ 1 → ⊥
no_bit bits i none on = let zero_bit : bit_at bits i ≡ 0 = ap (λ n. bit_at n i) none ∙ bit_at-zero i in absurd (omega arith)

-- setting the bit of a rank in its word
module _ (old new : Marks) (point : Point) (r : ℕ) (is : IsRank point r) (indexed : IsIndexed old) (place : ℕ) (there : place_of old (r / 4096) ≡ Some place)
    (places : (number : ℕ) → place_of new number ≡ place_of old number)
    (set : bit_at (get_or new.words.items (place * 64 + r / 64 % 64) 0) (r % 64) ≡ 1)
    (others : (i : ℕ) → i ≢ r % 64 → bit_at (get_or new.words.items (place * 64 + r / 64 % 64) 0) i ≡ bit_at (get_or old.words.items (place * 64 + r / 64 % 64) 0) i)
    (apart : (j : ℕ) → j ≢ place * 64 + r / 64 % 64 → get_or new.words.items j 0 ≡ get_or old.words.items j 0) where
  new_word : (n : ℕ) (o : Option ℕ) → place_of old (n / 4096) ≡ o → word_of new n ≡ word_in new.words.items o (n / 64 % 64)
  new_word n o at = ap (λ p. word_in new.words.items p (n / 64 % 64)) (places (n / 4096) ∙ at)

  old_word : (n : ℕ) (o : Option ℕ) → place_of old (n / 4096) ≡ o → word_of old n ≡ word_in old.words.items o (n / 64 % 64)
  old_word n o at = ap (λ p. word_in old.words.items p (n / 64 % 64)) at

  here : bit_at (word_of new r) (r % 64) ≡ 1
  here = ap (λ n. bit_at n (r % 64)) (new_word r (Some place) there) ∙ set

  -- bits of other ranks don't change
  other_at : (n : ℕ) → n ≢ r → (o : Option ℕ) → place_of old (n / 4096) ≡ o → bit_at (word_in new.words.items o (n / 64 % 64)) (n % 64) ≡ bit_at (word_in old.words.items o (n / 64 % 64)) (n % 64)
  other_at n other None at = refl
  other_at n other (Some q) at = elim (cases_eq (q * 64 + n / 64 % 64) (place * 64 + r / 64 % 64)) [
    | inl this ↦
        let same : q ≡ place = omega arith in
        let number : n / 4096 ≡ r / 4096 = sym (indexed.listed (n / 4096) q at).1 ∙ ap (λ k. get_or old.numbers.items k 0) same ∙ (indexed.listed (r / 4096) place there).1 in
        let bit : n % 64 ≢ r % 64 = λ e. other (omega arith) in
        ap (λ k. bit_at (get_or new.words.items k 0) (n % 64)) this ∙ others (n % 64) bit ∙ ap (λ k. bit_at (get_or old.words.items k 0) (n % 64)) (sym this)
    | inr far ↦ ap (λ w. bit_at w (n % 64)) (apart (q * 64 + n / 64 % 64) far)
  ]

  stays : (n : ℕ) → n ≢ r → bit_at (word_of new n) (n % 64) ≡ bit_at (word_of old n) (n % 64)
  stays n other = search (rules, place_of, bit_at, new_word, other_at, old_word)

  pub marked_more : (p : Point) → IsMarked new p ↔ (IsMarked old p ⊎ (p ≡ point))
  marked_more p = (
    (λ marked. elim (cases_eq marked.rank r) [
      | inl this ↦ inr (one_point p point r (subst (IsRank p) this marked.is) is)
      | inr other ↦ inl (record { rank = marked.rank; is = marked.is; set = sym (stays marked.rank other) ∙ marked.set })
    ]),
    (λ found. ⊎_elim
        (λ marked. elim (cases_eq marked.rank r) [
          | inl this ↦ record { rank = r; is = subst (IsRank p) this marked.is; set = here }
          | inr other ↦ record { rank = marked.rank; is = marked.is; set = stays marked.rank other ∙ marked.set }
        ])
        (λ same. record { rank = r; is = subst (λ (q : Point). IsRank q r) (sym same) is; set = here })
        found),
  )

-- two sets of marks with the same words mark the same points
pub marked_alike : (a b : Marks) → ((n : ℕ) → word_of a n ≡ word_of b n) → (p : Point) → IsMarked a p → IsMarked b p
marked_alike a b same p marked = record { rank = marked.rank; is = marked.is; set = ap (λ w. bit_at w (marked.rank % 64)) (sym (same marked.rank)) ∙ marked.set }

-- a segment without marks is added
module _ (old new : Marks) (number : ℕ) (indexed : IsIndexed old) (absent : place_of old number ≡ None) (low : number < 2 ^ 52)
    (words : new.words.items ≡ old.words.items ++ replicate 64 0) (numbers : new.numbers.items ≡ old.numbers.items ++ number ∷ [])
    (there : place_of new number ≡ Some (length old.numbers.items)) (kept : (q : ℕ) → q ≢ number → place_of new q ≡ place_of old q) where
  count : ℕ
  count = length old.numbers.items

  empty : List ℕ
  empty = replicate 64 0

  past_words : (xs : List ℕ) (k : ℕ) → length xs ≤ k → k < length xs + 64 → get_or (xs ++ empty) k 0 ≡ 0
  unfolding empty
  past_words [] k far near = get_or-replicate 64 k 0 0 near
  past_words (x ∷ xs) zero far near = absurd (omega arith)
  past_words (x ∷ xs) (suc k) far near = past_words xs k (omega arith) (omega arith)

  before_words : (o : Option ℕ) (k : ℕ) → k < 64 → ((q : ℕ) → o ≡ Some q → q < count) → word_in (old.words.items ++ empty) o k ≡ word_in old.words.items o k
  unfolding count
  before_words None k small low = refl
  before_words (Some q) k small low = let below = low q refl in get_or_append_left old.words.items empty 0 (q * 64 + k) (omega (arith, indexed.whole))

  pub words_stay : (n : ℕ) → word_of new n ≡ word_of old n
  unfolding count empty
  words_stay n = elim (cases_eq (n / 4096) number) [
    | inl this ↦
        ap (λ o. word_in new.words.items o (n / 64 % 64)) (ap (place_of new) this ∙ there)
        ∙ ap (λ l. get_or l (count * 64 + n / 64 % 64) 0) words
        ∙ past_words old.words.items (count * 64 + n / 64 % 64) (omega (arith, indexed.whole)) (omega (arith, indexed.whole))
        ∙ sym (ap (λ o. word_in old.words.items o (n / 64 % 64)) (ap (place_of old) this ∙ absent))
    | inr other ↦
        ap (λ o. word_in new.words.items o (n / 64 % 64)) (kept (n / 4096) other)
        ∙ ap (λ l. word_in l (place_of old (n / 4096)) (n / 64 % 64)) words
        ∙ before_words (place_of old (n / 4096)) (n / 64 % 64) (omega arith) (λ q at. (indexed.listed (n / 4096) q at).0)
  ]

  number_before : (k : ℕ) → k < count → get_or new.numbers.items k 0 ≡ get_or old.numbers.items k 0
  unfolding count
  number_before k below = ap (λ l. get_or l k 0) numbers ∙ get_or_append_left old.numbers.items (number ∷ []) 0 k below

  number_here : get_or new.numbers.items count 0 ≡ number
  unfolding count
  number_here = ap (λ l. get_or l (length old.numbers.items) 0) numbers ∙ get_or-append_seam old.numbers.items number [] 0

  longer : length new.numbers.items ≡ count + 1
  unfolding count
  longer = ap length numbers ∙ length-append old.numbers.items (number ∷ [])

  pub indexed_more : IsIndexed new
  unfolding count empty
  indexed_more = record {
    whole = whole_more (length new.words.items) (length old.words.items) count (length new.numbers.items) (ap length words ∙ length-append old.words.items empty ∙ ap (λ k. length old.words.items + k) (length-replicate {A = ℕ} 64 0)) longer indexed.whole;
    small = λ k below. elim (cases_eq k count) [
      | inl last ↦ subst (λ n. n < 2 ^ 52) (sym (ap (λ j. get_or new.numbers.items j 0) last ∙ number_here)) low
      | inr other ↦ let more = longer in let within : k < count = omega arith in subst (λ n. n < 2 ^ 52) (sym (number_before k within)) (indexed.small k within)
    ];
    listed = λ n q at. elim (cases_eq n number) [
      | inl this ↦
          let last : q ≡ count = some_same q count (sym at ∙ ap (place_of new) this ∙ there) in
          ((let more = longer in omega arith), ap (λ j. get_or new.numbers.items j 0) last ∙ number_here ∙ sym this)
      | inr other ↦
          let before = indexed.listed n q (sym (kept n other) ∙ at) in
          let below : q < count = before.0 in
          ((let more = longer in omega arith), number_before q below ∙ before.1)
    ];
    each = λ k below. elim (cases_eq k count) [
      | inl last ↦ ap (place_of new) (ap (λ j. get_or new.numbers.items j 0) last ∙ number_here) ∙ there ∙ ap Some (sym last)
      | inr other ↦
          let more = longer in
          let within : k < count = omega arith in
          let before = indexed.each k within in
          ap (place_of new) (number_before k within) ∙ kept (get_or old.numbers.items k 0) (λ same. none-some k (sym absent ∙ ap (place_of old) (sym same) ∙ before)) ∙ before
    ];
  }
    where
      whole_more : (a b n k : ℕ) → a ≡ b + 64 → k ≡ n + 1 → b ≡ n * 64 → a ≡ k * 64
      whole_more a b n k more longer whole = omega arith

      some_same : (a b : ℕ) → Some a ≡ Some b → a ≡ b
      some_same a b e = cc

-- runs of a set are the runs of the points that they cover
pub own_runs : (inside : Point → Type 0) (runs : List Run) → AreRuns inside runs → AreRuns (Cover runs) runs
own_runs inside runs are = record { covers = λ q. ((λ has. has), (λ has. has)); full = are.full; in_order = are.in_order }

-- the first words of a segment, and one more
module _ (words : List ℕ) (number place i : ℕ) (small : i < 64) where
  pub segment_before : (q : Point) → IsInSegment words number place (i * 64) q → (n : ℕ) × (IsRank q n × (n < number * 4096 + i * 64))
  segment_before q has = (has.rank, (has.is, (let same = has.segment in let low = has.low in omega arith)))

  pub segment_more : (q : Point) → IsInSegment words number place ((i + 1) * 64) q ↔ (IsInSegment words number place (i * 64) q ⊎ IsInWord (get_or words (place * 64 + i) 0) (number * 4096 + i * 64) 64 q)
  segment_more q = (
    (λ has. elim (cases_eq (has.rank / 64 % 64) i) [
      | inl this ↦ inr (record {
        bit = has.rank % 64;
        is = subst (IsRank q) (let same = has.segment in omega arith) has.is;
        low = omega arith;
        set = ap (λ k. bit_at (get_or words (place * 64 + k) 0) (has.rank % 64)) (sym this) ∙ has.set;
      })
      | inr other ↦ inl (record { rank = has.rank; is = has.is; segment = has.segment; low = (let low = has.low in omega arith); set = has.set })
    ]),
    (λ has. ⊎_elim
        (λ before. record { rank = before.rank; is = before.is; segment = before.segment; low = (let low = before.low in omega arith); set = before.set })
        (λ new. let low = new.low in let rank = number * 4096 + i * 64 + new.bit in let bit : rank % 64 ≡ new.bit = omega arith in let word : rank / 64 % 64 ≡ i = omega arith in record {
          rank = rank;
          is = new.is;
          segment = omega arith;
          low = omega arith;
          set = ap (λ k. bit_at (get_or words (place * 64 + k) 0) (rank % 64)) word ∙ ap (bit_at (get_or words (place * 64 + i) 0)) bit ∙ new.set;
        })
        has),
  )

-- the first bits of a word, and one more
module _ (bits first i : ℕ) where
  pub word_before : (q : Point) → IsInWord bits first i q → (n : ℕ) × (IsRank q n × (n < first + i))
  word_before q has = (first + has.bit, (has.is, (let low = has.low in omega arith)))

  pub word_more : (q : Point) → IsInWord bits first (i + 1) q ↔ (IsInWord bits first i q ⊎ ((bit_at bits i ≡ 1) × IsRank q (first + i)))
  word_more q = (
    (λ has. elim (cases_eq has.bit i) [
      | inl this ↦ inr (subst (λ k. bit_at bits k ≡ 1) this has.set, subst (λ k. IsRank q (first + k)) this has.is)
      | inr other ↦ inl (record { bit = has.bit; is = has.is; low = (let low = has.low in omega arith); set = has.set })
    ]),
    (λ has. ⊎_elim
        (λ before. record { bit = before.bit; is = before.is; low = (let low = before.low in omega arith); set = before.set })
        (λ new. record { bit = i; is = new.1; low = omega arith; set = new.0 })
        has),
  )

-- the marked points of the segments before this rank
pub record IsMarkedBelow (marks : Marks) (bound : ℕ) (p : Point) : Type 0 where
  pub rank : ℕ
  pub is : IsRank p rank
  pub set : bit_at (word_of marks rank) (rank % 64) ≡ 1
  pub below : rank / 4096 < bound

-- the numbers in the list ascend, from `bound` on
abbrev pub AreAhead : ℕ → List (ℕ × ℕ) → Type 0
AreAhead bound [] = Unit {0}
AreAhead bound (e ∷ es) = (bound ≤ e.0) × AreAhead (e.0 + 1) es

-- the runs are those of the segments before the bound, and the remaining entries are the other segments
pub record AreDrawn (marks : Marks) (runs : List Run) (es : List (ℕ × ℕ)) : Type 0 where
  pub bound : ℕ
  pub drawn : AreRuns (IsMarkedBelow marks bound) runs
  pub ahead : AreAhead bound es
  pub rest : (number place : ℕ) → place_of marks number ≡ Some place → (number < bound) ⊎ (lookup (is_at (nat_cmp number)) es ≡ Some place)

less : (a b : ℕ) → nat_cmp a b ≡ Less → a < b
less a b is = ranked a b Less (sym is)

at_same : (a b : ℕ) (o : Ordering) → o ≡ nat_cmp a b → is_eq o ≡ true → a ≡ b
at_same a b Equal is on = ranked a b Equal is
at_same a b Less is on = absurd (true≢false (sym on))
at_same a b Greater is on = absurd (true≢false (sym on))

pub found_at : (a b : ℕ) → is_at (nat_cmp a) b ≡ true → a ≡ b
found_at a b on = at_same a b (nat_cmp a b) refl on

abbrev FirstFrom : ℕ → List (ℕ × ℕ) → Type 0
FirstFrom bound [] = Unit {0}
FirstFrom bound (e ∷ es) = bound ≤ e.0

all_ahead : (bound : ℕ) (es : List (ℕ × ℕ)) → IsStrictlySortedBy nat_cmp (keys_of es) → FirstFrom bound es → AreAhead bound es
unfolding IsStrictlySortedBy
all_ahead bound [] sorted first = tt
all_ahead bound (e ∷ []) sorted first = (first, tt)
all_ahead bound (e ∷ f ∷ es) sorted first = (first, all_ahead (e.0 + 1) (f ∷ es) sorted.1 (let next = less e.0 f.0 sorted.0.0 in omega arith))

first_from : (es : List (ℕ × ℕ)) → FirstFrom 0 es
first_from [] = tt
first_from (e ∷ es) = omega arith

-- no entry of the remaining list has a number below the bound
listed_ahead : (bound n place : ℕ) (es : List (ℕ × ℕ)) → AreAhead bound es → lookup (is_at (nat_cmp n)) es ≡ Some place → bound ≤ n
listed_ahead bound n place [] ahead at = absurd (none-some place at)
listed_ahead bound n place (e ∷ es) ahead at = elim (cases_Bool (is_at (nat_cmp n) e.0)) [
  | inl this ↦ let same = found_at n e.0 this in let low = ahead.0 in omega arith
  | inr other ↦
      let on = listed_ahead (e.0 + 1) n place es ahead.1 (sym (cond-false (is_at (nat_cmp n) e.0) (Some e.1) (lookup (is_at (nat_cmp n)) es) other) ∙ at) in
      let low = ahead.0 in
      omega arith
]

word_place : (words : List ℕ) (o : Option ℕ) (k bit : ℕ) → bit_at (word_in words o k) bit ≡ 1 → (place : ℕ) × (o ≡ Some place)
word_place words None k bit on = absurd (no_bit 0 bit refl on)
word_place words (Some place) k bit on = (place, refl)

module _ (marks : Marks) where
  pub none_drawn : (runs : List Run) (es : List (ℕ × ℕ)) → runs ≡ [] → es ≡ marks.places.entries → IsStrictlySortedBy nat_cmp (keys_of marks.places.entries) → AreDrawn marks runs es
  none_drawn runs es none all sorted = record {
    bound = 0;
    drawn = subst (AreRuns (IsMarkedBelow marks 0)) (sym none) (record {
      covers = λ p. ((λ any. absurd (omega (arith, any.2))), (λ within. let below = within.below in absurd (omega arith)));
      full = λ k d lt. absurd (omega arith);
      in_order = λ k d lt. absurd (omega arith);
    });
    ahead = subst (AreAhead 0) (sym all) (all_ahead 0 marks.places.entries sorted (first_from marks.places.entries));
    rest = λ number place at. inr (ap (lookup (is_at (nat_cmp number))) all ∙ at);
  }

  pub all_drawn : (runs : List Run) (es : List (ℕ × ℕ)) → es ≡ [] → AreDrawn marks runs es → AreRuns (IsMarked marks) runs
  all_drawn runs es none drawn = runs_alike (IsMarkedBelow marks drawn.bound) (IsMarked marks) runs (λ p. (
    (λ within. record { rank = within.rank; is = within.is; set = within.set }),
    (λ marked.
        let at = word_place marks.words.items (place_of marks (marked.rank / 4096)) (marked.rank / 64 % 64) (marked.rank % 64) marked.set in
        record { rank = marked.rank; is = marked.is; set = marked.set; below = ⊎_elim (λ low. low) (λ left. absurd (nothing (marked.rank / 4096) at.0 es none left)) (drawn.rest (marked.rank / 4096) at.0 at.1) }),
  )) drawn.drawn
    where
      nothing : (n place : ℕ) (left : List (ℕ × ℕ)) → left ≡ [] → lookup (is_at (nat_cmp n)) left ≡ Some place → ⊥
      nothing n place [] e at = none-some place at
      nothing n place (x ∷ left) e at = absurd (omega (arith, ap length e))

  -- the runs after one more segment
  module _ (runs runs' : List Run) (number place : ℕ) (es : List (ℕ × ℕ)) (there : place_of marks number ≡ Some place) (so_far : AreDrawn marks runs ((number, place) ∷ es)) where
    pub past : (q : Point) → Cover runs q → (n : ℕ) × (IsRank q n × (n < number * 4096))
    past q has =
        let within = (so_far.drawn.covers q).0 has in
        (within.rank, (within.is, (let below = within.below in let low = so_far.ahead.0 in omega arith)))

    pub drawn_more : AreRuns (λ q. Cover runs q ⊎ IsInSegment marks.words.items number place 4096 q) runs' → AreDrawn marks runs' es
    drawn_more are = record {
      bound = number + 1;
      drawn = runs_alike (λ q. Cover runs q ⊎ IsInSegment marks.words.items number place 4096 q) (IsMarkedBelow marks (number + 1)) runs' (λ q. (
        (λ has. ⊎_elim
            (λ before. let within = (so_far.drawn.covers q).0 before in record { rank = within.rank; is = within.is; set = within.set; below = (let below = within.below in let low = so_far.ahead.0 in omega arith) })
            (λ new. record {
              rank = new.rank;
              is = new.is;
              set = ap (λ o. bit_at (word_in marks.words.items o (new.rank / 64 % 64)) (new.rank % 64)) (ap (place_of marks) new.segment ∙ there) ∙ new.set;
              below = (let same = new.segment in omega arith);
            })
            has),
        (λ within. elim (cases_eq (within.rank / 4096) number) [
          | inl this ↦ inr (record {
            rank = within.rank;
            is = within.is;
            segment = this;
            low = omega arith;
            set = ap (λ o. bit_at (word_in marks.words.items o (within.rank / 64 % 64)) (within.rank % 64)) (sym (ap (place_of marks) this ∙ there)) ∙ within.set;
          })
          | inr other ↦
              let at = word_place marks.words.items (place_of marks (within.rank / 4096)) (within.rank / 64 % 64) (within.rank % 64) within.set in
              let below = within.below in
              inl ((so_far.drawn.covers q).1 (record {
                rank = within.rank;
                is = within.is;
                set = within.set;
                below = ⊎_elim
                    (λ low. low)
                    (λ left. let far = listed_ahead number (within.rank / 4096) at.0 ((number, place) ∷ es) (omega arith, so_far.ahead.1) left in absurd (omega arith))
                    (so_far.rest (within.rank / 4096) at.0 at.1);
              }))
        ]),
      )) are;
      ahead = so_far.ahead.1;
      rest = λ n p at. ⊎_elim
          (λ low. inl (let first = so_far.ahead.0 in omega arith))
          (λ left. elim (cases_Bool (is_at (nat_cmp n) number)) [
            | inl this ↦ inl (let same = found_at n number this in omega arith)
            | inr other ↦ inr (sym (cond-false (is_at (nat_cmp n) number) (Some place) (lookup (is_at (nat_cmp n)) es) other) ∙ left)
          ])
          (so_far.rest n p at);
    }
