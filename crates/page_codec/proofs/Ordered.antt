-- Items of one length in an order, spelled one after another and padded with zeros.
use Rattle.std.proofs.Common.{◌≡◌, ℕ, ◌+◌, ◌-◌, ◌<◌, true, List, [], ◌∷◌, ◌++◌, length, get_or, refl, sym, ap, subst, ◌∙◌, arith, append_assoc, inl, inr}
use Rattle.page_codec.proofs.Prelude.{All, AllAdjacentBelow, AllByRecursion, Follows, flat_map, length-append}
use Rattle.std.proofs.lemmas.Bool.{cases_lt}
use Rattle.std.proofs.Math.ListN.{get_or-append}
use Rattle.std.proofs.Math.Seq.{get_or-append_seam}
use Rattle.page_codec.specs.Numbers.{zeros, padded, is_all_zero}
use Rattle.page_codec.proofs.Fields.{same_fronts, zeros_from_all, all_from_zeros}
use Rattle.page_codec.proofs.Items.{SpellsOne, continues_all, same_items}

module _ {X : Type 0} (IsBefore : X → X → Type 0) where
  abbrev pub InOrder : List X → Type 0
  InOrder xs = AllAdjacentBelow IsBefore xs (length xs)

  -- A list with an item that may come next is in order.
  pub order_push : (xs : List X) (e : X) → InOrder xs → Follows IsBefore xs e → InOrder (xs ++ e ∷ [])
  order_push xs e order follows k d lt =
      let len = length-append xs (e ∷ []) in
      elim (cases_lt (k + 1) (length xs)) [
        | inl within ↦
            let first = get_or-append xs (e ∷ []) d k (omega arith) in
            let second = get_or-append xs (e ∷ []) d (k + 1) within in
            rw (first, second) (order k d within)
        | inr past ↦
            let at : k + 1 ≡ length xs = omega arith in
            let below : k ≡ length xs - 1 = omega arith in
            let first = get_or-append xs (e ∷ []) d k (omega arith) in
            let second : get_or (xs ++ e ∷ []) (k + 1) d ≡ e = ap (λ (n : ℕ). get_or (xs ++ e ∷ []) n d) at ∙ get_or-append_seam xs e [] d in
            rw (first, second, below) (follows (omega arith) d)
      ]

  -- The item after the first ones follows them in order.
  follows_first : (xs : List X) (m : X) (more : List X) → InOrder (xs ++ m ∷ more) → Follows IsBefore xs m
  follows_first xs m more order some d =
      let len = length-append xs (m ∷ more) in
      let last : length xs - 1 < length xs = omega arith in
      let at : length xs - 1 + 1 ≡ length xs = omega arith in
      let ordered = order (length xs - 1) d (omega arith) in
      let first : get_or (xs ++ m ∷ more) (length xs - 1) d ≡ get_or xs (length xs - 1) d = get_or-append xs (m ∷ more) d (length xs - 1) last in
      let second : get_or (xs ++ m ∷ more) (length xs - 1 + 1) d ≡ m = ap (λ (n : ℕ). get_or (xs ++ m ∷ more) n d) at ∙ get_or-append_seam xs m more d in
      subst (λ (e : X). IsBefore (get_or xs (length xs - 1) d) e) second (subst (λ (e : X). IsBefore e (get_or (xs ++ m ∷ more) (length xs - 1 + 1) d)) first ordered)

  module _ (spelling : X → List ℕ) (P : X → Type 0) (one : SpellsOne spelling P) (size : ℕ) (sized : (a : X) → length (spelling a) ≡ size) where
    none_behind : (front behind y : List ℕ) (xs ys more : List X) → length xs < length ys → length front ≡ size
        → ((e : X) → P e → Follows IsBefore xs e → front ≡ spelling e → ⊥)
        → InOrder ys → ys ≡ xs ++ more → AllByRecursion P more → front ++ behind ≡ flat_map spelling more ++ y → ⊥
    none_behind front behind y xs ys [] lt len none order items each rest = omega (arith, ap length items, length-append xs [])
    none_behind front behind y xs ys (m ∷ more) lt len none order items each rest =
        let parts : front ++ behind ≡ spelling m ++ (flat_map spelling more ++ y) = rest ∙ append_assoc (spelling m) (flat_map spelling more) y in
        let s = same_fronts front (spelling m) behind (flat_map spelling more ++ y) (len ∙ sym (sized m)) parts in
        none m each.0 (follows_first xs m more (subst InOrder items order)) s.0

    -- If no item may come next, no items have these bytes.
    pub no_items : (n : ℕ) (bytes front behind : List ℕ) (xs : List X) (count : ℕ) → bytes ≡ flat_map spelling xs ++ (front ++ behind) → All P xs → length xs < count → length front ≡ size
        → ((e : X) → P e → Follows IsBefore xs e → front ≡ spelling e → ⊥)
        → (ys : List X) → length ys ≡ count → All P ys → InOrder ys → bytes ≡ padded n (flat_map spelling ys) → ⊥
    no_items n bytes front behind xs count parts each lt len none ys count_ys each_y order spelled =
        let y = zeros (n - length (flat_map spelling ys)) in
        let r = continues_all spelling P one xs ys (front ++ behind) y each each_y (omega arith) (sym parts ∙ spelled) in
        none_behind front behind y xs ys r.more (omega arith) len none order r.items r.each r.rest

module _ {X : Type 0} (spelling : X → List ℕ) (P : X → Type 0) (one : SpellsOne spelling P) where
  -- Two lists of as many items with these bytes are equal, and zeros follow.
  pub padded_are : (n : ℕ) (bytes rest : List ℕ) (xs ys : List X) → bytes ≡ flat_map spelling xs ++ rest → All P xs → All P ys → length xs ≡ length ys
      → bytes ≡ padded n (flat_map spelling ys) → (xs ≡ ys) × (is_all_zero rest ≡ true)
  padded_are n bytes rest xs ys parts p q len spelled =
      let y = zeros (n - length (flat_map spelling ys)) in
      let s = same_items spelling P one xs ys rest y p q len (sym parts ∙ spelled) in
      (s.0, ap is_all_zero s.1 ∙ all_from_zeros (n - length (flat_map spelling ys)))

  pub same_padded : (n : ℕ) (xs ys : List X) → All P xs → All P ys → length xs ≡ length ys → padded n (flat_map spelling xs) ≡ padded n (flat_map spelling ys) → xs ≡ ys
  same_padded n xs ys p q len same = (padded_are n (padded n (flat_map spelling xs)) (zeros (n - length (flat_map spelling xs))) xs ys refl p q len same).0

-- Bytes that are a front and then zeros are the front, padded with zeros to their length.
pub padded_from_parts : (n : ℕ) (bytes front rest : List ℕ) → bytes ≡ front ++ rest → is_all_zero rest ≡ true → length bytes ≡ n → bytes ≡ padded n front
padded_from_parts n bytes front rest parts zero len =
    let behind : length rest ≡ n - length front = omega (arith, ap length parts, length-append front rest) in
    parts ∙ ap (λ (l : List ℕ). front ++ l) (zeros_from_all rest zero ∙ ap zeros behind)
