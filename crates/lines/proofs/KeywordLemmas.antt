-- The command words.
use Rattle.std.proofs.Common.{◌≡◌, ℕ, ◌<◌, refl, sym, ap, ◌∙◌, get_or, lit<, List, [], ◌∷◌, Bool, true, false, not, ◌==◌}
use Rattle.std.specs.Prelude.{find, unwrap_or}
use Rattle.std.specs.List.{list_all}
use Rattle.std.specs.Str.{bytes_eq}
use Rattle.std.proofs.lemmas.List.Sums.{AllPass-from_list_all}
use Rattle.lines.specs.Grammar.{spelling}
use Rattle.lines.specs.Words.{HasNoSpace}
use Rattle.lines.specs.declared.keyword.Keyword.{Keyword}
use Rattle.lines.specs.declared.keyword.Keyword.TheVariants.{Import, Remove, Patch, Burn, Wall, Sink, Unsink, Elev, Fill, Dir, Trace, Watershed, Export, Levels, Directions, Upstream, Tiles, Sinks, Step, Count, Info, Quit}

abbrev keywords : List Keyword
keywords = Import ∷ Remove ∷ Patch ∷ Burn ∷ Wall ∷ Sink ∷ Unsink ∷ Elev ∷ Fill ∷ Dir ∷ Trace ∷ Watershed ∷ Export ∷ Levels ∷ Directions ∷ Upstream ∷ Tiles ∷ Sinks ∷ Step ∷ Count ∷ Info ∷ Quit ∷ []

-- If each keyword of the list passes a test, every keyword does.
module _ (test : Keyword → Bool) (all : list_all test keywords ≡ true) where
  at : (j : ℕ) → j < 22 → test (get_or keywords j Quit) ≡ true
  at j below = AllPass-from_list_all test keywords all j Quit below

  each_passes : (k : Keyword) → test k ≡ true
  each_passes Import = at 0 (lit< tt)
  each_passes Remove = at 1 (lit< tt)
  each_passes Patch = at 2 (lit< tt)
  each_passes Burn = at 3 (lit< tt)
  each_passes Wall = at 4 (lit< tt)
  each_passes Sink = at 5 (lit< tt)
  each_passes Unsink = at 6 (lit< tt)
  each_passes Elev = at 7 (lit< tt)
  each_passes Fill = at 8 (lit< tt)
  each_passes Dir = at 9 (lit< tt)
  each_passes Trace = at 10 (lit< tt)
  each_passes Watershed = at 11 (lit< tt)
  each_passes Export = at 12 (lit< tt)
  each_passes Levels = at 13 (lit< tt)
  each_passes Directions = at 14 (lit< tt)
  each_passes Upstream = at 15 (lit< tt)
  each_passes Tiles = at 16 (lit< tt)
  each_passes Sinks = at 17 (lit< tt)
  each_passes Step = at 18 (lit< tt)
  each_passes Count = at 19 (lit< tt)
  each_passes Info = at 20 (lit< tt)
  each_passes Quit = at 21 (lit< tt)

-- the keyword that a word spells
abbrev keyword_at : List ℕ → Keyword
keyword_at word = unwrap_or (find (λ k. bytes_eq word (spelling k)) keywords) Quit

keyword_at-spelling : (k : Keyword) → keyword_at (spelling k) ≡ k
keyword_at-spelling Import = refl
keyword_at-spelling Remove = refl
keyword_at-spelling Patch = refl
keyword_at-spelling Burn = refl
keyword_at-spelling Wall = refl
keyword_at-spelling Sink = refl
keyword_at-spelling Unsink = refl
keyword_at-spelling Elev = refl
keyword_at-spelling Fill = refl
keyword_at-spelling Dir = refl
keyword_at-spelling Trace = refl
keyword_at-spelling Watershed = refl
keyword_at-spelling Export = refl
keyword_at-spelling Levels = refl
keyword_at-spelling Directions = refl
keyword_at-spelling Upstream = refl
keyword_at-spelling Tiles = refl
keyword_at-spelling Sinks = refl
keyword_at-spelling Step = refl
keyword_at-spelling Count = refl
keyword_at-spelling Info = refl
keyword_at-spelling Quit = refl

pub same_keyword : (j k : Keyword) → spelling j ≡ spelling k → j ≡ k
same_keyword j k e = sym (keyword_at-spelling j) ∙ ap keyword_at e ∙ keyword_at-spelling k

abbrev has_no_space : List ℕ → Bool
has_no_space word = list_all (λ b. not (b == 32)) word

no_space : (word : List ℕ) → has_no_space word ≡ true → HasNoSpace word
no_space word h = λ k d within is_space.
    let passes : not (get_or word k d == 32) ≡ true = AllPass-from_list_all (λ b. not (b == 32)) word h k d within in
    let fails : not (get_or word k d == 32) ≡ false = ap (λ b. not (b == 32)) is_space in
    cc

-- The spelling of a command word has no space.
pub spelling_has_no_space : (k : Keyword) → HasNoSpace (spelling k)
spelling_has_no_space k = no_space (spelling k) (each_passes (λ j. has_no_space (spelling j)) refl k)
