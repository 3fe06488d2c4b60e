-- A text cut at its spaces, and words joined by single spaces.
use Rattle.std.proofs.Common.{arith, ◌≡◌, ◌≢◌, ℕ, ◌<◌, ◌+◌, get_or, List, [], ◌∷◌, ◌++◌, take, drop, length, refl, sym, ap, add-one, ◌∙◌, ◌==◌, Bool, true, false, if◌then◌else◌, length-append}
use Rattle.std.proofs.lemmas.Bool.{ne_eqb, eqb-true}
use Rattle.std.proofs.lemmas.List.{take-append-drop}
use Rattle.std.proofs.lemmas.List.Elements.{All-head, All-tail}
use Rattle.std.proofs.Math.Seq.{drop-cons}
use Rattle.lines.specs.Grammar.{spaced}
use Rattle.lines.specs.Words.{cut, onto_first, HasNoSpace}

-- Cutting a word, a space and further bytes gives the word and the words of the further bytes.
pub cut-append : (w bs : List ℕ) → HasNoSpace w → cut (w ++ 32 ∷ bs) ≡ w ∷ cut bs
cut-append [] bs h = refl
cut-append (b ∷ w) bs h =
    rw (ne_eqb b 32 (All-head (λ b. b ≢ 32) b w h), cut-append w bs (All-tail (λ b. b ≢ 32) b w h)) refl

pub cut-one : (w : List ℕ) → HasNoSpace w → cut w ≡ w ∷ []
cut-one [] h = refl
cut-one (b ∷ w) h =
    rw (ne_eqb b 32 (All-head (λ b. b ≢ 32) b w h), cut-one w (All-tail (λ b. b ≢ 32) b w h)) refl

drop_at : (text : List ℕ) (i : ℕ) → i < length text → drop i text ≡ get_or text i 0 ∷ drop (i + 1) text
drop_at text i h = rw add-one (drop-cons text i 0 h)

-- the text cut at its first space
pub cut-at : (text : List ℕ) (i : ℕ) → i < length text → get_or text i 0 ≡ 32 → HasNoSpace (take i text) → cut text ≡ take i text ∷ cut (drop (i + 1) text)
cut-at text i h e no_space =
    let whole : text ≡ take i text ++ 32 ∷ drop (i + 1) text =
    sym (take-append-drop i text) ∙ ap (λ r. take i text ++ r) (drop_at text i h ∙ ap (λ b. b ∷ drop (i + 1) text) e) in
    ap cut whole ∙ cut-append (take i text) (drop (i + 1) text) no_space

-- No word has a space.
abbrev pub HaveNoSpace : List (List ℕ) → Type 0
HaveNoSpace [] = Unit {0}
HaveNoSpace (w ∷ ws) = HasNoSpace w × HaveNoSpace ws

-- Words joined by single spaces are cut into these words.
pub cut-spaced : (word : List ℕ) (ws : List (List ℕ)) → HasNoSpace word → HaveNoSpace ws → cut (spaced word ws) ≡ word ∷ ws
cut-spaced word [] h no_space = cut-one word h
cut-spaced word (w ∷ ws) h no_space = cut-append word (spaced w ws) h ∙ ap (λ l. word ∷ l) (cut-spaced w ws no_space.0 no_space.1)

-- Joining the words of a text gives the text.
abbrev joined : List (List ℕ) → List ℕ
joined [] = []
joined (w ∷ ws) = spaced w ws

joined-space : (ws : List (List ℕ)) → (ws ≡ [] → ⊥) → joined ([] ∷ ws) ≡ 32 ∷ joined ws
joined-space [] h = absurd (h refl)
joined-space (w ∷ ws) h = refl

joined-onto : (b : ℕ) (ws : List (List ℕ)) → joined (onto_first b ws) ≡ b ∷ joined ws
joined-onto b [] = refl
joined-onto b (w ∷ []) = refl
joined-onto b (w ∷ v ∷ ws) = refl

onto_first_some : (b : ℕ) (ws : List (List ℕ)) → onto_first b ws ≡ [] → ⊥
onto_first_some b [] e = cc
onto_first_some b (w ∷ ws) e = cc

-- a property of an `if`, from both branches
by_test : {A : Type 0} (P : A → Type 0) (t : Bool) (x y : A) → (t ≡ true → P x) → (t ≡ false → P y) → P (if t then x else y)
by_test P true x y p q = p refl
by_test P false x y p q = q refl

-- Each text has at least one word, which may be empty.
pub some_word : (text : List ℕ) → cut text ≡ [] → ⊥
some_word [] e = cc
some_word (b ∷ bs) e = by_test (λ ws. ws ≡ [] → ⊥) (b == 32) ([] ∷ cut bs) (onto_first b (cut bs)) (λ _ none. cc) (λ _ none. onto_first_some b (cut bs) none) e

joined-cut : (text : List ℕ) → joined (cut text) ≡ text
joined-cut [] = refl
joined-cut (b ∷ bs) = by_test (λ ws. joined ws ≡ b ∷ bs) (b == 32) ([] ∷ cut bs) (onto_first b (cut bs))
    (λ t. joined-space (cut bs) (some_word bs) ∙ ap (λ l. 32 ∷ l) (joined-cut bs) ∙ ap (λ n. n ∷ bs) (sym (eqb-true b 32 t)))
    (λ _. joined-onto b (cut bs) ∙ ap (λ l. b ∷ l) (joined-cut bs))

pub spaced-cut : (text word : List ℕ) (ws : List (List ℕ)) → cut text ≡ word ∷ ws → text ≡ spaced word ws
spaced-cut text word ws e = sym (joined-cut text) ∙ ap joined e

-- Two texts that are equal with one more byte are equal.
pub same_front : (t u : List ℕ) (b : ℕ) → t ++ b ∷ [] ≡ u ++ b ∷ [] → t ≡ u
same_front [] [] b e = refl
same_front [] (y ∷ ys) b e = absurd (omega (arith, length-append ys (b ∷ []), ap length e))
same_front (x ∷ xs) [] b e = absurd (omega (arith, length-append xs (b ∷ []), ap length e))
same_front (x ∷ xs) (y ∷ ys) b e = let tails : xs ++ b ∷ [] ≡ ys ++ b ∷ [] = cc in let rest = same_front xs ys b tails in cc
