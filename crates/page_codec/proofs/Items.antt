-- Items spelled one after another.
use Rattle.page_codec.proofs.Prelude.{All, AllByRecursion, List, ℕ, [], ap, append-nil, append_assoc, arith, flat_map, length, length-append, refl, sym, ◌*◌, ◌++◌, ◌∙◌, ◌∷◌, ◌≡◌, ◌≤◌}
use Rattle.std.proofs.lemmas.List.Concat.{flat_map-append, flat_map-cons}
use Rattle.std.proofs.lemmas.List.Elements.{recursion_from_All}

-- Bytes begin with the spelling of at most one item.
pub record SpellsOne {X : Type 0} (spelling : X → List ℕ) (P : X → Type 0) : Type 0 where
  pub same : (a b : X) (x y : List ℕ) → P a → P b → spelling a ++ x ≡ spelling b ++ y → (a ≡ b) × (x ≡ y)

module _ {X : Type 0} (spelling : X → List ℕ) (P : X → Type 0) (one : SpellsOne spelling P) where
  -- The items at the front are the first of all items that the bytes spell.
  pub record Continues (xs bs : List X) (x y : List ℕ) : Type 0 where
    pub more : List X
    pub items : bs ≡ xs ++ more
    pub each : AllByRecursion P more
    pub rest : x ≡ flat_map spelling more ++ y

  continues : (xs bs : List X) (x y : List ℕ) → AllByRecursion P xs → AllByRecursion P bs → length xs ≤ length bs → flat_map spelling xs ++ x ≡ flat_map spelling bs ++ y → Continues xs bs x y
  continues [] bs x y p q fits e = record { more = bs; items = refl; each = q; rest = e }
  continues (a ∷ xs) [] x y p q fits e = absurd (omega arith)
  continues (a ∷ xs) (b ∷ bs) x y p q fits e =
      let front = ap (λ (l : List ℕ). l ++ x) (sym (flat_map-cons spelling a xs)) in
      let parts : spelling a ++ (flat_map spelling xs ++ x) ≡ spelling b ++ (flat_map spelling bs ++ y) =
      sym (append_assoc (spelling a) (flat_map spelling xs) x) ∙ e ∙ append_assoc (spelling b) (flat_map spelling bs) y in
      let s = one.same a b (flat_map spelling xs ++ x) (flat_map spelling bs ++ y) p.0 q.0 parts in
      let r = continues xs bs x y p.1 q.1 (omega arith) s.1 in
      record { more = r.more; items = ap (λ (l : List X). b ∷ l) r.items ∙ ap (λ (h : X). h ∷ (xs ++ r.more)) (sym s.0); each = r.each; rest = r.rest }

  pub continues_all : (xs bs : List X) (x y : List ℕ) → All P xs → All P bs → length xs ≤ length bs → flat_map spelling xs ++ x ≡ flat_map spelling bs ++ y → Continues xs bs x y
  continues_all xs bs x y p q fits e = continues xs bs x y (recursion_from_All P xs p) (recursion_from_All P bs q) fits e

  nothing_more : (xs bs : List X) (x y : List ℕ) (more : List X) → length xs ≡ length bs → bs ≡ xs ++ more → x ≡ flat_map spelling more ++ y → (xs ≡ bs) × (x ≡ y)
  nothing_more xs bs x y [] len items rest = (sym (items ∙ append-nil xs), rest)
  nothing_more xs bs x y (m ∷ more) len items rest = absurd (omega (arith, ap length items, length-append xs (m ∷ more)))

  -- Two lists of as many items with the same bytes are equal.
  pub same_items : (xs bs : List X) (x y : List ℕ) → All P xs → All P bs → length xs ≡ length bs → flat_map spelling xs ++ x ≡ flat_map spelling bs ++ y → (xs ≡ bs) × (x ≡ y)
  same_items xs bs x y p q len e =
      let r = continues_all xs bs x y p q (omega arith) e in
      nothing_more xs bs x y r.more len r.items r.rest

-- the length of the bytes of items that have one length each
pub length_items : {X : Type 0} (spelling : X → List ℕ) (n : ℕ) → ((a : X) → length (spelling a) ≡ n) → (xs : List X) → length (flat_map spelling xs) ≡ n * length xs
length_items spelling n len [] = omega arith
length_items spelling n len (a ∷ xs) = omega (arith, length-append (spelling a) (flat_map spelling xs), len a, length_items spelling n len xs)

-- one more item
pub items_push : {X : Type 0} (spelling : X → List ℕ) (xs : List X) (a : X) (bytes rest behind : List ℕ) → bytes ≡ flat_map spelling xs ++ rest → rest ≡ spelling a ++ behind → bytes ≡ flat_map spelling (xs ++ a ∷ []) ++ behind
items_push spelling xs a bytes rest behind p q =
    p ∙ ap (λ (l : List ℕ). flat_map spelling xs ++ l) q ∙ sym (append_assoc (flat_map spelling xs) (spelling a) behind)
    ∙ ap (λ (l : List ℕ). (flat_map spelling xs ++ l) ++ behind) (sym (append-nil (spelling a)))
    ∙ ap (λ (l : List ℕ). l ++ behind) (sym (flat_map-append spelling xs (a ∷ [])))
