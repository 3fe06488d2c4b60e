-- The stale tiles of a mosaic in memory: the tiles that aren't fresh.
use Rattle.std.proofs.Common.{◌≡◌, ℕ, ◌+◌, ◌<◌, length, take, Bool, true, false, cond, not, ◌&&◌, ◌||◌, List, [], ◌∷◌, ◌++◌, filter, get_or, refl, sym, ap, ap₂, ◌∙◌}
use Rattle.std.specs.Prelude.{Ok}
use Rattle.std.specs.List.{All, list_any}
use Rattle.std.proofs.lemmas.List.{take_more}
use Rattle.std.proofs.lemmas.List.Filters.{length-filter_more}
use Rattle.std.proofs.lemmas.List.Elements.{All-head, All-tail, filter_agree, filter-append}
use Rattle.std.proofs.lemmas.List.Folds.{list_any-append}
use Rattle.std.proofs.lemmas.Map.Views.{any-filter_same}
use Rattle.std.proofs.Math.Bool.{or-false}
use Rattle.lattice.specs.Corners.{Corner, same_corner}
use Rattle.lattice.specs.Mosaic.{Mosaic}
use Rattle.lattice.proofs.CornerOrder.{same_says, same_from}
use Rattle.lattice.proofs.BoolTests.{same_tests}
use Rattle.catalogue.specs.Tiles.{corners_of, is_listed}
use Rattle.edits.specs.declared.command.Command.{Command}
use Rattle.edits.specs.declared.edit.Edit.{Edit}
use Rattle.edits.specs.Edits.{goes_stale_by}
use Rattle.edits.specs.Effect.{effect}
use Rattle.edits.specs.Touched.{goes_stale, stale_after}
use Rattle.edits.proofs.AllStale.{new_stale}
use Rattle.table_engine.specs.TableState.{stale_among}

-- ---- tests of a list

filter_within : {X : Type 0} (f g : X → Bool) (xs : List X) → All (λ x. f x ≡ g x) xs → filter f xs ≡ filter g xs
filter_within f g [] each = refl
filter_within {X} f g (x ∷ xs) each =
    ap₂ (λ (b : Bool) (rest : List X). cond b (x ∷ rest) rest) (All-head (λ y. f y ≡ g y) x xs each) (filter_within f g xs (All-tail (λ y. f y ≡ g y) x xs each))

filter_twice : {X : Type 0} (f g : X → Bool) (xs : List X) → filter (λ x. g x && f x) xs ≡ filter f (filter g xs)
filter_twice f g [] = refl
filter_twice {X} f g (x ∷ xs) = by (g x) (filter_twice f g xs)
  where
    by : (b : Bool) → filter (λ y. g y && f y) xs ≡ filter f (filter g xs)
        → cond (b && f x) (x ∷ filter (λ y. g y && f y) xs) (filter (λ y. g y && f y) xs) ≡ filter f (cond b (x ∷ filter g xs) (filter g xs))
    by true rest = ap (λ (l : List X). cond (f x) (x ∷ l) l) rest
    by false rest = rest

same_turned : (a b : Corner) → same_corner a b ≡ same_corner b a
same_turned a b = same_tests (same_corner a b) (same_corner b a) (λ e. same_from b a (sym (same_says a b e))) (λ e. same_from a b (sym (same_says b a e)))

-- a filtered list with one more element
pub filtered_more : {X : Type 0} (test : X → Bool) (xs : List X) (i : ℕ) (x : X) (b : Bool) → i < length xs → x ≡ get_or xs i x → test x ≡ b
    → filter test (take (i + 1) xs) ≡ filter test (take i xs) ++ cond b (x ∷ []) []
filtered_more {X} test xs i x b below is here =
    ap (filter test) (take_more xs i x below ∙ ap (λ (y : X). take i xs ++ y ∷ []) (sym is))
    ∙ filter-append test (take i xs) (x ∷ [])
    ∙ ap (λ (c : Bool). filter test (take i xs) ++ cond c (x ∷ []) []) here

-- One more corner is counted.
pub one_counted : (corners fresh : List Corner) (i : ℕ) (c : Corner) (b : Bool) → i < length corners → c ≡ get_or corners i c → not (is_listed c fresh) ≡ b
    → length (stale_among (take (i + 1) corners) fresh) ≡ length (stale_among (take i corners) fresh) + cond b 1 0
one_counted corners fresh i c b below is here =
    length-filter_more (λ p. not (is_listed p fresh)) corners i c below
    ∙ ap (λ (t : Bool). length (stale_among (take i corners) fresh) + cond t 1 0) (ap (λ (p : Corner). not (is_listed p fresh)) (sym is) ∙ here)

-- ---- one more fresh tile

not_or : (a b : Bool) → not (a || b) ≡ (not a && not b)
not_or true b = refl
not_or false b = refl

pub one_less : (corners fresh : List Corner) (c : Corner) → stale_among corners (fresh ++ c ∷ []) ≡ filter (λ d. not (same_corner d c)) (stale_among corners fresh)
one_less corners fresh c =
    filter_agree (λ p. not (is_listed p (fresh ++ c ∷ []))) (λ p. not (is_listed p fresh) && not (same_corner p c)) tests corners
    ∙ filter_twice (λ d. not (same_corner d c)) (λ p. not (is_listed p fresh)) corners
  where
    tests : (p : Corner) → not (is_listed p (fresh ++ c ∷ [])) ≡ (not (is_listed p fresh) && not (same_corner p c))
    tests p =
        ap not (list_any-append (λ d. same_corner d p) fresh (c ∷ []))
        ∙ ap (λ (b : Bool). not (is_listed p fresh || b)) (or-false (same_corner c p) ∙ same_turned c p)
        ∙ not_or (is_listed p fresh) (same_corner p c)

-- ---- a command is done

agree : (fresh was goes : Bool) → (was || goes) ≡ true → ((not fresh && was) || goes) ≡ not (not goes && fresh)
agree true true true some = refl
agree true true false some = refl
agree true false true some = refl
agree true false false some = absurd (cc)
agree false true true some = refl
agree false true false some = refl
agree false false true some = refl
agree false false false some = absurd (cc)

module _ (capacity : ℕ) (m : Mosaic) (c : Command) (new : Mosaic) (edit : Edit) (makes : effect capacity m c ≡ Ok new)
    (says : (p : Corner) → goes_stale_by m.side (corners_of m) edit p ≡ goes_stale m c p) (fresh : List Corner) where
  abbrev goes : Corner → Bool
  goes p = goes_stale m c p

  abbrev left : List Corner
  left = filter (λ p. not (goes_stale_by m.side (corners_of m) edit p)) fresh

  was_stale : (p : Corner) → list_any (same_corner p) (stale_among (corners_of m) fresh) ≡ (not (is_listed p fresh) && list_any (same_corner p) (corners_of m))
  was_stale p = any-filter_same (same_corner p) (λ q. not (is_listed q fresh)) (not (is_listed p fresh)) (λ q is. ap (λ (d : Corner). not (is_listed d fresh)) (sym (same_says p q is))) (corners_of m)

  still_fresh : (p : Corner) → is_listed p left ≡ (not (goes p) && is_listed p fresh)
  still_fresh p =
      any-filter_same (λ d. same_corner d p) (λ q. not (goes_stale_by m.side (corners_of m) edit q)) (not (goes p))
      (λ q is. ap not (ap (goes_stale_by m.side (corners_of m) edit) (same_says q p is) ∙ says p)) fresh

  tests : (p : Corner) → (list_any (same_corner p) (corners_of m) || goes p) ≡ true → (list_any (same_corner p) (stale_among (corners_of m) fresh) || goes p) ≡ not (is_listed p left)
  tests p some = ap (λ (b : Bool). b || goes p) (was_stale p) ∙ agree (is_listed p fresh) (list_any (same_corner p) (corners_of m)) (goes p) some ∙ ap not (sym (still_fresh p))

  pub stale_then : stale_after m c (stale_among (corners_of m) fresh) new ≡ stale_among (corners_of new) left
  stale_then =
      filter_within (λ p. list_any (same_corner p) (stale_among (corners_of m) fresh) || goes p) (λ p. not (is_listed p left)) (corners_of new)
      (λ k d within. tests (get_or (corners_of new) k d) (new_stale capacity m new c makes k d within))
