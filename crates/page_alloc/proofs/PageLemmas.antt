-- The set of pages whose bits are set: its members, its size, and how a change of one bit changes it.
use Rattle.std.proofs.Common.{◌≡◌, ℕ, zero, suc, ◌+◌, ◌-◌, ◌/◌, ◌^◌, max, ◌<◌, ◌≤◌, List, length, Bool, true, false, cond, eqb, inl, inr, refl, sym, ap, subst, ◌∙◌, arith}
use Rattle.std.proofs.Math.Dec.{ltb}
use Rattle.std.specs.Prelude.{◌↔◌, not, ◌&&◌, ◌||◌}
use Rattle.std.specs.Ordering.{nat_cmp}
use Rattle.std.specs.Cmp.{nat_cmp_total, unsigned_tied}
use Rattle.std.specs.FinSet.{FinSet, empty, contains, insert, remove, len, same_set, nat_cmp-IsAntisymmetric, empty_of_len, contains-empty, contains-insert, contains-remove, len-empty, len-insert, len-remove}
use Rattle.std.proofs.lemmas.Bool.{false≢true, false_from_ne_true, cases_eq, cases_lt, cases_order, cases_Bool, cond_both, eq-eqb, ne_eqb, eqb-true, lt-ltb, le-ltb, and_right, and_parts, or_cases, or_left, or_right}
use Rattle.page_alloc.specs.Bits.{has_bit}
use Rattle.page_alloc.specs.Pages.{PageSet, IsPage, IsFree, with_page}
use Rattle.page_alloc.specs.Layout.{pages_below, IsSound}

-- ---- sets of numbers
pub contains-with : (s : FinSet nat_cmp) (k q : ℕ) → contains (insert s k) q ≡ (eqb q k || contains s q)
contains-with s k q = contains-insert nat_cmp_total s k q ∙ ap (λ b. b || contains s q) (unsigned_tied q k)

pub contains-without : (s : FinSet nat_cmp) (k q : ℕ) → contains (remove s k) q ≡ (not (eqb q k) && contains s q)
contains-without s k q = contains-remove nat_cmp_total s k q ∙ ap (λ b. not b && contains s q) (unsigned_tied q k)

pub len-with : (s : FinSet nat_cmp) (k : ℕ) → contains s k ≡ false → len (insert s k) ≡ len s + 1
len-with s k new = len-insert nat_cmp_total s k ∙ ap (λ b. cond b (len s) (len s + 1)) new

pub len-without : (s : FinSet nat_cmp) (k : ℕ) → contains s k ≡ true → len (remove s k) ≡ len s - 1
len-without s k old = len-remove nat_cmp_total s k ∙ ap (λ b. cond b (len s - 1) (len s)) old

len-with_le : (s : FinSet nat_cmp) (k : ℕ) → len (insert s k) ≤ len s + 1
len-with_le s k =
    rw (len-insert nat_cmp_total s k) (cond_both (contains s k) (len s) (len s + 1) (λ n. n ≤ len s + 1) (λ _. omega arith) (λ _. omega arith))

-- a set that has a member is not empty
pub some_member : (s : FinSet nat_cmp) (q : ℕ) → contains s q ≡ true → 0 < len s
some_member s q member =
    elim (cases_lt 0 (len s)) [
      | inl some ↦ some
      | inr none ↦
          let is_empty : s ≡ empty = empty_of_len s (omega arith) in
          absurd (false≢true (sym (ap (λ t. contains t q) is_empty ∙ contains-empty nat_cmp q) ∙ member))
    ]

-- ---- the numbers whose bits are set
step_with : (q n : ℕ) (bit : Bool) → (q ≡ n → bit ≡ true) → (eqb q n || (ltb q n && bit)) ≡ (ltb q (suc n) && bit)
step_with q n bit here =
    elim (cases_order q n) [
      | inl same ↦ rw (eq-eqb q n same, lt-ltb q (suc n) (omega arith), here same)
      | inr (inl below) ↦ rw (ne_eqb q n (λ e. omega arith), lt-ltb q n below, lt-ltb q (suc n) (omega arith))
      | inr (inr above) ↦ rw (ne_eqb q n (λ e. omega arith), le-ltb q n (omega arith), le-ltb q (suc n) (omega arith))
    ]

step_without : (q n : ℕ) (bit : Bool) → (q ≡ n → bit ≡ false) → (ltb q n && bit) ≡ (ltb q (suc n) && bit)
step_without q n bit here =
    elim (cases_order q n) [
      | inl same ↦ rw (le-ltb q n (omega arith), lt-ltb q (suc n) (omega arith), here same)
      | inr (inl below) ↦ rw (lt-ltb q n below, lt-ltb q (suc n) (omega arith))
      | inr (inr above) ↦ rw (le-ltb q n (omega arith), le-ltb q (suc n) (omega arith))
    ]

contains-pages_below : (limit : ℕ) (words : List ℕ) (q : ℕ) → contains (pages_below limit words) q ≡ (ltb q limit && has_bit words q)
unfolding pages_below
contains-pages_below zero words q = contains-empty nat_cmp q ∙ sym (ap (λ b. b && has_bit words q) (le-ltb q 0 (omega arith)))
contains-pages_below (suc n) words q =
    let below : FinSet nat_cmp = pages_below n words in
    cond_both (has_bit words n) (insert below n) below (λ s. contains s q ≡ (ltb q (suc n) && has_bit words q))
    (λ set. contains-with below n q ∙ ap (λ b. eqb q n || b) (contains-pages_below n words q) ∙ step_with q n (has_bit words q) (λ e. ap (has_bit words) e ∙ set))
    (λ clear. contains-pages_below n words q ∙ step_without q n (has_bit words q) (λ e. ap (has_bit words) e ∙ clear))

-- If only numbers below the limit have their bits set, those numbers are the members.
pub contains-bits : (limit : ℕ) (words : List ℕ) → ((q : ℕ) → has_bit words q ≡ true → q < limit) → (q : ℕ) → contains (pages_below limit words) q ≡ has_bit words q
contains-bits limit words within q =
    contains-pages_below limit words q
    ∙ elim (cases_Bool (has_bit words q)) [
      | inl set ↦ rw (lt-ltb q limit (within q set))
      | inr clear ↦ and_right (ltb q limit) (has_bit words q) clear ∙ sym clear
    ]

pub len-pages_below_le : (limit : ℕ) (words : List ℕ) → len (pages_below limit words) ≤ limit
unfolding pages_below
len-pages_below_le zero words = rw (len-empty nat_cmp) (omega arith)
len-pages_below_le (suc n) words =
    let below : FinSet nat_cmp = pages_below n words in
    let rest : len below ≤ n = len-pages_below_le n words in
    cond_both (has_bit words n) (insert below n) below (λ s. len s ≤ suc n) (λ _. omega (arith, len-with_le below n)) (λ _. omega arith)

-- If the set lacks a number below a limit, it has fewer members than the limit.
pub len-pages_below_lt : (limit : ℕ) (words : List ℕ) (q : ℕ) → q < limit → has_bit words q ≡ false → len (pages_below limit words) < limit
unfolding pages_below
len-pages_below_lt zero words q within clear = absurd (omega arith)
len-pages_below_lt (suc n) words q within clear =
    let below : FinSet nat_cmp = pages_below n words in
    elim (cases_eq q n) [
      | inl same ↦
          let left_out : has_bit words n ≡ false = ap (has_bit words) (sym same) ∙ clear in
          let rest : len below ≤ n = len-pages_below_le n words in
          rw left_out (omega arith)
      | inr other ↦
          let rest : len below < n = len-pages_below_lt n words q (omega arith) clear in
          cond_both (has_bit words n) (insert below n) below (λ s. len s < suc n) (λ _. omega (arith, len-with_le below n)) (λ _. omega arith)
    ]

-- If no bit is set, the set is empty.
pub len-pages_below_none : (limit : ℕ) (words : List ℕ) → ((q : ℕ) → has_bit words q ≡ false) → len (pages_below limit words) ≡ 0
unfolding pages_below
len-pages_below_none zero words none = len-empty nat_cmp
len-pages_below_none (suc n) words none = rw (none n) (len-pages_below_none n words none)

-- ---- a change of one bit
module _ (limit : ℕ) (old new : List ℕ) (within : (q : ℕ) → has_bit old q ≡ true → q < limit) (bit : ℕ) where
  pub pages_below-set : bit < limit → ((q : ℕ) → has_bit new q ≡ (eqb q bit || has_bit old q)) → pages_below limit new ≡ insert (pages_below limit old) bit
  pages_below-set inside each =
      let still : (q : ℕ) → has_bit new q ≡ true → q < limit =
      λ q set. elim (or_cases (eqb q bit) (has_bit old q) (sym (each q) ∙ set)) [ inl same ↦ rw (eqb-true q bit same) inside | inr had ↦ within q had ] in
      same_set nat_cmp_total nat_cmp-IsAntisymmetric _ _ (λ q.
      contains-bits limit new still q ∙ each q
      ∙ sym (contains-with (pages_below limit old) bit q ∙ ap (λ b. eqb q bit || b) (contains-bits limit old within q)))

  pub pages_below-clear : ((q : ℕ) → has_bit new q ≡ (not (eqb q bit) && has_bit old q)) → pages_below limit new ≡ remove (pages_below limit old) bit
  pages_below-clear each =
      let still : (q : ℕ) → has_bit new q ≡ true → q < limit =
      λ q set. within q (and_parts (not (eqb q bit)) (has_bit old q) (sym (each q) ∙ set)).1 in
      same_set nat_cmp_total nat_cmp-IsAntisymmetric _ _ (λ q.
      contains-bits limit new still q ∙ each q
      ∙ sym (contains-without (pages_below limit old) bit q ∙ ap (λ b. not (eqb q bit) && b) (contains-bits limit old within q)))

-- ---- the fields of a `Pages`
module _ {total : ℕ} {words : List ℕ} {count : ℕ} (sound : IsSound total words count) where
  within : (q : ℕ) → has_bit words q ≡ true → q < total
  within q set = (sound.only_pages q set).1

  -- the page set with these fields
  module _ (pages : PageSet) (view : ◌≡◌ {A = PageSet} (record { total = total; free = pages_below total words }) pages) where
    pub free_is_bit : (page : ℕ) → contains pages.free page ≡ has_bit words page
    free_is_bit page = ap (λ s. contains s.free page) (sym view) ∙ contains-bits total words within page

    pub free_is_page : (page : ℕ) → IsFree pages page → IsPage pages.total page
    free_is_page page is_free =
        let is_page : IsPage total page = sound.only_pages page (sym (free_is_bit page) ∙ is_free) in
        subst (λ n. IsPage n page) (ap (λ s. s.total) view) is_page

    pub len-free : len pages.free ≡ count
    len-free = ap (λ s. len s.free) (sym view) ∙ sym sound.counted

    pub none_free : ((q : ℕ) → has_bit words q ≡ false) → len pages.free ≡ 0
    none_free none = ap (λ s. len s.free) (sym view) ∙ len-pages_below_none total words none

    pub some_free : (page : ℕ) → has_bit words page ≡ true → 0 < len pages.free
    some_free page set = some_member pages.free page (free_is_bit page ∙ set)

  pub room_for_bit : (page : ℕ) → page < total → has_bit words page ≡ false → count < total
  room_for_bit page inside clear = rw sound.counted (len-pages_below_lt total words page inside clear)

  -- The code changes `shown`, a slice of all the words, into `new`.
  module _ (shown new : List ℕ) (is : shown ≡ words) (same : length new ≡ length shown) (page : ℕ) where
    pub without_bit : has_bit words page ≡ true
        → ((q : ℕ) → has_bit new q ≡ (not (eqb q page) && has_bit shown q))
        → (pages_below total new ≡ remove (pages_below total words) page) × IsSound total new (count - 1)
    without_bit set written =
        let each : (q : ℕ) → has_bit new q ≡ (not (eqb q page) && has_bit words q) =
        λ q. written q ∙ ap (λ ws. not (eqb q page) && has_bit ws q) is in
        let free = pages_below-clear total words new within page each in (
          free,
          record {
            fits = sound.fits;
            covers = same ∙ ap length is ∙ sound.covers;
            only_pages = λ q still. sound.only_pages q (and_parts (not (eqb q page)) (has_bit words q) (sym (each q) ∙ still)).1;
            counted = ap (λ n. n - 1) sound.counted ∙ sym (ap len free ∙ len-without (pages_below total words) page (contains-bits total words within page ∙ set));
          },
        )

    pub with_bit : IsPage total page → has_bit words page ≡ false
        → ((q : ℕ) → has_bit new q ≡ (eqb q page || has_bit shown q))
        → (pages_below total new ≡ insert (pages_below total words) page) × IsSound total new (count + 1)
    with_bit is_page clear written =
        let each : (q : ℕ) → has_bit new q ≡ (eqb q page || has_bit words q) =
        λ q. written q ∙ ap (λ ws. eqb q page || has_bit ws q) is in
        let free = pages_below-set total words new within page is_page.1 each in (
          free,
          record {
            fits = sound.fits;
            covers = same ∙ ap length is ∙ sound.covers;
            only_pages = λ q now. elim (or_cases (eqb q page) (has_bit words q) (sym (each q) ∙ now)) [
              | inl this ↦ rw (eqb-true q page this) is_page
              | inr had ↦ sound.only_pages q had
            ];
            counted = ap (λ n. n + 1) sound.counted ∙ sym (ap len free ∙ len-with (pages_below total words) page (contains-bits total words within page ∙ clear));
          },
        )

-- ---- a new `Pages`: just the pages have their bits set
module _ (total : ℕ) (words : List ℕ) (pages : (q : ℕ) → IsPage total q → has_bit words q ≡ true) (others : (q : ℕ) → ¬ IsPage total q → has_bit words q ≡ false) where
  all_counted : (limit : ℕ) → limit ≤ total → len (pages_below limit words) ≡ limit - 4
  unfolding pages_below
  all_counted zero low = len-empty nat_cmp
  all_counted (suc n) low =
      let below : FinSet nat_cmp = pages_below n words in
      let rest : len below ≡ n - 4 = all_counted n (omega (arith, low)) in
      elim (cases_lt n 4) [
        | inl early ↦ rw (others n (λ is_page. omega (arith, is_page.0, early))) (omega (arith, rest, early))
        | inr later ↦
            let new : contains below n ≡ false = contains-pages_below n words n ∙ ap (λ b. b && has_bit words n) (le-ltb n n (omega arith)) in
            rw (pages n (later, omega (arith, low))) (len-with below n new ∙ omega (arith, rest, later))
      ]

  pub all_sound : total < 2 ^ 32 → length words ≡ (total + 63) / 64 → IsSound total words (total - 4)
  all_sound fits covers =
      record {
        fits = fits;
        covers = covers;
        only_pages = λ q set. elim (cases_lt q 4) [
          | inl early ↦ absurd (false≢true (sym (others q (λ is_page. omega (arith, is_page.0, early))) ∙ set))
          | inr later ↦ elim (cases_lt q total) [
            | inl inside ↦ (later, inside)
            | inr past ↦ absurd (false≢true (sym (others q (λ is_page. omega (arith, is_page.1, past))) ∙ set))
          ]
        ];
        counted = sym (all_counted total (omega arith));
      }
