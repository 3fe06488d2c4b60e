-- The pages of a plane as its index pages list them, one after another.
use Rattle.cow_tree.proofs.Prelude.{All, All-append, All-drop, All-tail, All-take, Err, Format, HasRecord, IfOk, Image, IsIndexed, IsRecord, IsWholePlane, List, NoneIndexed, NoneListed, NonePlane, Ok, PlaneLocation, Refusal, Result, Two, ℕ, ap, arith, cases_lt, drop, get_or, inl, inr, length, listed_by, min, pages_behind, part_of, record_bytes, same_records, subst, sym, take, ⊎_elim, ◌*◌, ◌++◌, ◌+◌, ◌-◌, ◌/◌, ◌<◌, ◌^◌, ◌∙◌, ◌≡◌, ◌≤◌, ◌⊎◌}
use Rattle.std.proofs.Math.Seq.{drop-append_seam}
use Rattle.std.proofs.Math.Nat.{min-le_left, min-le_right, min-eq_left, min-eq_right, min_comm}
use Rattle.std.proofs.lemmas.List.{length-append, length-take, length-drop, take-append-le, drop-append-le, take_all, get_or_append_left, append_assoc}
use Rattle.page_codec.specs.Sizes.{pages_of, index_pages_by, index_pages_of, listed_in, listed_by as count_listed}
use Rattle.cow_tree.proofs.Standing.{All-front, All-back}
use Rattle.cow_tree.proofs.Reasons.{is_listed}

-- The state after t index pages were read: this many pages of the plane were listed, and this many are left.
pub record AreReadTo (index : List ℕ) (count t left : ℕ) (behind : List ℕ) : Type 0 where
  pub is : behind ≡ index ++ drop (length index) behind
  pub each : All (λ p. p < 2 ^ 32) (drop (length index) behind)
  pub sum : length (drop (length index) behind) + left ≡ count
  pub few : length (drop (length index) behind) ≤ 1024 * t
  pub full : (length (drop (length index) behind) ≡ 1024 * t) ⊎ (left ≡ 0)

module _ (index : List ℕ) (count t left : ℕ) (behind : List ℕ) (so_far : AreReadTo index count t left behind) where
  abbrev pages : List ℕ
  pages = drop (length index) behind

  pub within : length index ≤ length behind
  within = omega (arith, ap length so_far.is, length-append index pages)

  -- Each index page before the last is full.
  pub all_so_far : t < (count + 1023) / 1024 → length pages ≡ 1024 * t
  all_so_far lt = ⊎_elim (λ full. full) (λ none. absurd (omega (arith, so_far.sum, none, so_far.few, lt))) so_far.full

  pub all_read : (count + 1023) / 1024 ≤ t → length pages ≡ count
  all_read le = ⊎_elim (λ full. omega (arith, full, le, so_far.sum)) (λ none. omega (arith, none, so_far.sum)) so_far.full

  module _ (lt : t < (count + 1023) / 1024) (listed : List ℕ) (spelt : IsRecord (min left 1024) listed) where
    behind_more : drop (length index) (behind ++ listed) ≡ pages ++ listed
    behind_more = drop-append-le (length index) behind listed within

    pub read_more : AreReadTo index count (t + 1) (left - min left 1024) (behind ++ listed)
    read_more =
        let long = ap length behind_more ∙ length-append pages listed in
        record {
          is = ap (λ l. l ++ listed) so_far.is ∙ (append_assoc index pages listed ∙ ap (λ l. index ++ l) (sym behind_more));
          each = subst (All (λ p. p < 2 ^ 32)) (sym behind_more) (All-append (λ p. p < 2 ^ 32) pages listed so_far.each spelt.each);
          sum = omega (arith, long, spelt.len, so_far.sum, min-le_left left 1024);
          few = omega (arith, long, spelt.len, so_far.few, min-le_right left 1024);
          full = elim (cases_lt left 1024) [
            | inl less ↦ inr (omega (arith, min-eq_left (below left less)))
            | inr more ↦ inl (omega (arith, long, spelt.len, all_so_far lt, min-eq_right more))
          ];
        }
      where
        below : (n : ℕ) → n < 1024 → n ≤ 1024
        below n less = omega (arith, less)

    -- The index pages before this one still list the same pages.
    pub part_same : (k : ℕ) → k < t → part_of k (drop (length index) (behind ++ listed)) ≡ part_of k pages
    part_same k less =
        let there : 1024 * k + 1024 ≤ length pages = omega (arith, less, all_so_far lt) in
        let long = length-drop (1024 * k) pages in
        ap (part_of k) behind_more
        ∙ (ap (take 1024) (drop-append-le (1024 * k) pages listed (omega (arith, there)))
        ∙ take-append-le 1024 (drop (1024 * k) pages) listed (omega (arith, there, long)))

    pub part_read : part_of t (drop (length index) (behind ++ listed)) ≡ listed
    part_read =
        ap (part_of t) behind_more
        ∙ (ap (λ n. take 1024 (drop n (pages ++ listed))) (sym (all_so_far lt))
        ∙ (ap (take 1024) (drop-append_seam pages listed)
        ∙ take_all 1024 listed (omega (arith, spelt.len, min-le_right left 1024))))

  -- If one index page lists nothing valid, no plane has these index pages.
  pub none_indexed : (format : Format) (sectors : ℕ) (image : Image) → format.version ≡ Two → pages_of format.side ≡ count → length index ≡ index_pages_of format → t < length index
      → NoneListed sectors image (get_or behind t 0) (min left 1024) → NoneIndexed format sectors image index
  none_indexed format sectors image two count_is index_is lt none plane same low high has =
      let index_count : length index ≡ (count + 1023) / 1024 = index_is ∙ (ap (λ v. index_pages_by v (pages_of format.side)) two ∙ ap (λ n. (n + 1023) / 1024) count_is) in
      let here : get_or behind t 0 ≡ get_or index t 0 = ap (λ l. get_or l t 0) so_far.is ∙ get_or_append_left index pages 0 t lt in
      let far = all_so_far (omega (arith, lt, index_count)) in
      let whole : length plane.pages ≡ count = has.whole.pages ∙ count_is in
      let left_is : length plane.pages - 1024 * t ≡ left = omega (arith, whole, so_far.sum, far) in
      none (part_of t plane.pages)
      (record {
        len = length-take 1024 (drop (1024 * t) plane.pages) ∙ (ap (min 1024) (length-drop (1024 * t) plane.pages ∙ left_is) ∙ min_comm 1024 left);
        each = All-take (λ p. p < 2 ^ 32) 1024 (drop (1024 * t) plane.pages) (All-drop (λ p. p < 2 ^ 32) (1024 * t) plane.pages (All-back (λ p. p < 2 ^ 32) plane.index_pages plane.pages has.each));
      })
      (subst (λ p. 4 ≤ p) (sym here) (low t 0 lt)) (subst (λ p. p < sectors) (sym here) (high t 0 lt))
      (ap image (here ∙ sym (ap (λ l. get_or l t 0) same)) ∙ has.indexed t (omega (arith, lt, ap length same)))

-- ---- the plane of a record
module _ (format : Format) (image : Image) (page : ℕ) (listed : List ℕ) (spelt : IsRecord (listed_in format) listed) where
  module _ (two : format.version ≡ Two) (plane : PlaneLocation) (index : plane.index_pages ≡ listed) where
    pub second_whole : length plane.pages ≡ pages_of format.side → IsWholePlane format plane
    second_whole long = record {
      index_pages = ap length index ∙ (spelt.len ∙ (ap (λ v. count_listed v (pages_of format.side)) two ∙ sym (ap (λ v. index_pages_by v (pages_of format.side)) two)));
      pages = long;
    }

    pub second_plane : plane.record_page ≡ page → length plane.pages ≡ pages_of format.side → All (λ p. p < 2 ^ 32) plane.pages → image page ≡ record_bytes listed
        → ((t : ℕ) → t < length plane.index_pages → IsIndexed image plane t) → HasRecord format image plane
    second_plane at long each wrote indexed = record {
      whole = second_whole long;
      each = All-append (λ p. p < 2 ^ 32) plane.index_pages plane.pages (subst (All (λ p. p < 2 ^ 32)) (sym index) spelt.each) each;
      listed = ap image at ∙ (wrote ∙ (ap record_bytes (sym index) ∙ sym (ap (λ v. record_bytes (listed_by v plane)) two)));
      indexed = indexed;
    }

  -- If no plane has these index pages, no plane has the record.
  pub none_behind : (sectors : ℕ) → format.version ≡ Two → image page ≡ record_bytes listed → NoneIndexed format sectors image listed → NonePlane format sectors image page
  none_behind sectors two wrote none plane at low high has =
      let same : listed_by format.version plane ≡ listed =
      same_records (listed_in format) (listed_by format.version plane) listed (is_listed format image plane has) spelt (sym has.listed ∙ (ap image at ∙ wrote)) in
      let index : plane.index_pages ≡ listed = sym (ap (λ v. listed_by v plane) two) ∙ same in
      let low_index : All (λ p. 4 ≤ p) plane.index_pages = All-front (λ p. 4 ≤ p) plane.index_pages plane.pages (All-tail (λ p. 4 ≤ p) plane.record_page (pages_behind plane) low) in
      let high_index : All (λ p. p < sectors) plane.index_pages = All-front (λ p. p < sectors) plane.index_pages plane.pages (All-tail (λ p. p < sectors) plane.record_page (pages_behind plane) high) in
      none plane index (subst (All (λ p. 4 ≤ p)) index low_index) (subst (All (λ p. p < sectors)) index high_index) has

-- properties of a plane that was read from its index pages
pub second_read : (format : Format) (image : Image) (page : ℕ) (listed : List ℕ) → IsRecord (listed_in format) listed → format.version ≡ Two → image page ≡ record_bytes listed → (r : Result PlaneLocation Refusal)
    → IfOk r (λ plane. plane.record_page ≡ page) → IfOk r (λ plane. plane.index_pages ≡ listed) → IfOk r (λ plane. length plane.pages ≡ pages_of format.side) → IfOk r (λ plane. All (λ p. p < 2 ^ 32) plane.pages)
    → IfOk r (λ plane. (t : ℕ) → t < length plane.index_pages → IsIndexed image plane t) → IfOk r (HasRecord format image)
second_read format image page listed spelt two wrote (Ok plane) at index long each indexed = second_plane format image page listed spelt two plane index at long each wrote indexed
second_read format image page listed spelt two wrote (Err why) at index long each indexed = tt
