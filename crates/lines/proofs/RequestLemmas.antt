-- The words of a command, and that they ask for nothing else.
use Rattle.std.proofs.Common.{arith, ◌≡◌, ◌≢◌, ◌≤◌, ℕ, ℤ, List, [], ◌∷◌, sym, ap, ◌∙◌, subst, inl, inr, Option, Some, None, length}
use Rattle.std.proofs.lemmas.List.Elements.{All-nil, All-cons}
use Rattle.std.proofs.lemmas.Str.Parse.{digit_from_value}
use Rattle.std.specs.Str.Parse.{AllDigits}
use Rattle.lattice.specs.declared.point.Point.{Point}
use Rattle.lines.specs.declared.keyword.Keyword.{Keyword}
use Rattle.lines.specs.declared.keyword.Keyword.TheVariants.{Import, Remove, Patch, Burn, Wall, Sink, Unsink, Elev, Fill, Dir, Trace, Watershed, Export, Levels, Directions, Upstream, Tiles, Sinks, Step, Count, Info, Quit}
use Rattle.lines.specs.declared.language.Language.{Language}
use Rattle.lines.specs.declared.request.Request.{Request}
use Rattle.lattice.specs.Corners.{Corner}
use Rattle.engine.specs.declared.event.Event.{Event}
use Rattle.lines.specs.Grammar.{Asked, AsksImport, AsksOf, AsksBox, AsksAlong, AsksAt, AsksAlone, Takes, IsIn, AreInts, IsNat, IsInt, IsWord, spelling, IsTextOf, LineAsks, coordinates, spaced}
use Rattle.lines.specs.Requests.{IsRequest, IsRequestOf}
use Rattle.lines.specs.Words.{cut, HasNoSpace}
use Rattle.lines.proofs.KeywordLemmas.{spelling_has_no_space, same_keyword}
use Rattle.lines.proofs.WordLemmas.{HaveNoSpace, cut-spaced, spaced-cut, same_front}

-- ---- no argument has a space

word_has_no_space : (w : List ℕ) → IsWord w → HasNoSpace w
word_has_no_space w (some, bytes) = λ k d within space. let byte = bytes k d within in omega (arith, byte, space)

digits_have_no_space : (ds : List ℕ) → AllDigits 10 ds → HasNoSpace ds
digits_have_no_space [] h = All-nil (λ b. b ≢ 32)
digits_have_no_space (d ∷ ds) h =
    All-cons (λ b. b ≢ 32) d ds (λ space. let digit = digit_from_value d h.0 in omega (arith, digit, space)) (digits_have_no_space ds h.1)

nat_has_no_space : (w : List ℕ) (n : ℕ) → IsNat w n → HasNoSpace w
nat_has_no_space w n nat = digits_have_no_space w nat.0.1

int_has_no_space : (w : List ℕ) (z : ℤ) → IsInt w z → HasNoSpace w
int_has_no_space w z (inl (n, nat, e)) = nat_has_no_space w n nat
int_has_no_space w z (inr (digits, n, e, nat, f)) =
    subst HasNoSpace (sym e) (All-cons (λ b. b ≢ 32) 45 digits (λ space. omega arith) (nat_has_no_space digits n nat))

ints_have_no_space : (ws : List (List ℕ)) (zs : List ℤ) → AreInts ws zs → HaveNoSpace ws
ints_have_no_space [] [] h = tt
ints_have_no_space [] (z ∷ zs) h = absurd h
ints_have_no_space (w ∷ ws) [] h = absurd h
ints_have_no_space (w ∷ ws) (z ∷ zs) h = (int_has_no_space w z h.0, ints_have_no_space ws zs h.1)

import_has_no_space : (args : List (List ℕ)) (a : Asked) → AsksImport args a → HaveNoSpace args
import_has_no_space args a (name, digits, len, e, word, nat, is) = subst HaveNoSpace (sym e) (word_has_no_space name word, (nat_has_no_space digits len nat, tt))

of_has_no_space : (event : Corner → Event) (args : List (List ℕ)) (a : Asked) → AsksOf event args a → HaveNoSpace args
of_has_no_space event args a (name, e, word, is) = subst HaveNoSpace (sym e) (word_has_no_space name word, tt)

box_has_no_space : (event : Point → Point → ℤ → Event) (args : List (List ℕ)) (a : Asked) → AsksBox event args a → HaveNoSpace args
box_has_no_space event args a (from, to, height, ints, is) = ints_have_no_space args _ ints

along_has_no_space : (event : ℤ → List Point → Event) (args : List (List ℕ)) (a : Asked) → AsksAlong event args a → HaveNoSpace args
along_has_no_space event args a (number, points, ints, few, is) = ints_have_no_space args (number ∷ coordinates points) ints

at_has_no_space : (event : Point → Event) (args : List (List ℕ)) (a : Asked) → AsksAt event args a → HaveNoSpace args
at_has_no_space event args a (p, ints, is) = ints_have_no_space args _ ints

alone_has_no_space : (what : Asked) (args : List (List ℕ)) (a : Asked) → AsksAlone what args a → HaveNoSpace args
alone_has_no_space what args a (e, is) = subst HaveNoSpace (sym e) tt

-- What is true of each form of arguments is true of each command's arguments.
module _ (P : (List (List ℕ) → Asked → Type 0) → Type 0) (import_ : P AsksImport) (of : (event : Corner → Event) → P (AsksOf event)) (box : (event : Point → Point → ℤ → Event) → P (AsksBox event))
    (along : (event : ℤ → List Point → Event) → P (AsksAlong event)) (at : (event : Point → Event) → P (AsksAt event)) (alone : (what : Asked) → P (AsksAlone what)) where
  pub each_takes : (keyword : Keyword) → P (Takes keyword)
  each_takes Import = import_
  each_takes Remove = of _
  each_takes Patch = box _
  each_takes Burn = along _
  each_takes Wall = along _
  each_takes Sink = at _
  each_takes Unsink = at _
  each_takes Elev = at _
  each_takes Fill = at _
  each_takes Dir = at _
  each_takes Trace = at _
  each_takes Watershed = at _
  each_takes Export = of _
  each_takes Levels = of _
  each_takes Directions = of _
  each_takes Upstream = of _
  each_takes Tiles = alone _
  each_takes Sinks = alone _
  each_takes Step = alone _
  each_takes Count = alone _
  each_takes Info = alone _
  each_takes Quit = alone _

pub arguments_have_no_space : (keyword : Keyword) (args : List (List ℕ)) (a : Asked) → Takes keyword args a → HaveNoSpace args
arguments_have_no_space = each_takes (λ Asks. (args : List (List ℕ)) (a : Asked) → Asks args a → HaveNoSpace args) import_has_no_space of_has_no_space box_has_no_space along_has_no_space at_has_no_space alone_has_no_space

-- ---- the text of a line and its words

same_text : (line t u : List ℕ) → IsTextOf line t → IsTextOf line u → t ≡ u
same_text line t u (inl e) (inl f) = same_front t u 13 (sym e ∙ f)
same_text line t u (inl e) (inr f) = absurd (f.1 t e)
same_text line t u (inr e) (inl f) = absurd (e.1 u f)
same_text line t u (inr e) (inr f) = sym e.0 ∙ f.0

module _ (language : Language) where
  -- A line asks for what the words of its text ask for.
  pub asks_words : (line text word : List ℕ) (rest : List (List ℕ)) (a : Asked) → IsTextOf line text → cut text ≡ word ∷ rest → LineAsks language line a
      → (keyword : Keyword) × ((spelling keyword ≡ word) × (Takes keyword rest a × IsIn language keyword))
  asks_words line text word rest a is_text words (short, t, is_t, (keyword, args, e, takes, is_in)) =
      let same : spelling keyword ∷ args ≡ word ∷ rest =
      sym (cut-spaced (spelling keyword) args (spelling_has_no_space keyword) (arguments_have_no_space keyword args a takes))
      ∙ ap cut (sym e ∙ same_text line t text is_t is_text) ∙ words in
      let first : spelling keyword ≡ word = cc in
      let others : args ≡ rest = cc in
      (keyword, (first, (subst (λ l. Takes keyword l a) others takes, is_in)))

  -- No command has this word.
  pub no_command : (line text word : List ℕ) (rest : List (List ℕ)) → IsTextOf line text → cut text ≡ word ∷ rest → ((k : Keyword) → spelling k ≡ word → IsIn language k → ⊥)
      → (a : Asked) → LineAsks language line a → ⊥
  no_command line text word rest is_text words none a h = let parts = asks_words line text word rest a is_text words h in none parts.0 parts.1.0 parts.1.1.1

  -- The language lacks the command with this word.
  pub no_such : (line text word : List ℕ) (rest : List (List ℕ)) (k : Keyword) → IsTextOf line text → cut text ≡ word ∷ rest → spelling k ≡ word → (IsIn language k → ⊥) → (a : Asked) → LineAsks language line a → ⊥
  no_such line text word rest k is_text words is not =
      no_command line text word rest is_text words (λ other spelt has. not (subst (IsIn language) (same_keyword other k (spelt ∙ sym is)) has))

  -- The request of a line is what its command makes of the arguments.
  pub parsed : (line text word : List ℕ) (rest : List (List ℕ)) (k : Keyword) (o : Option Request) → length line ≤ 2048 → IsTextOf line text → cut text ≡ word ∷ rest
      → spelling k ≡ word → IsIn language k → IsRequest k rest o → IsRequestOf language line o
  parsed line text word rest k None short is_text words is is_in h = λ a asks.
      let parts = asks_words line text word rest a is_text words asks in
      h a (subst (λ (j : Keyword). Takes j rest a) (same_keyword parts.0 k (parts.1.0 ∙ sym is)) parts.1.1.0)
  parsed line text word rest k (Some r) short is_text words is is_in takes =
      (short, text, is_text, (k, rest, subst (λ w. text ≡ spaced w rest) (sym is) (spaced-cut text word rest words), takes, is_in))
