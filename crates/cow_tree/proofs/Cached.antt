-- Pages in a cache: lookup, insertion and removal, and when the pages agree with an image.
use Rattle.std.proofs.Common.{◌≡◌, ◌≤◌, ◌⊎◌, inl, inr, ⊎_elim, ℕ, zero, suc, Bool, true, false, cond, nat_eq, List, [], ◌∷◌, Contains, sym, ap, ◌∙◌, subst, arith, Some, None}
use Rattle.cow_tree.proofs.Prelude.{Image, PageCache, SamePages, SamePagesBut, Vec}
use Rattle.std.specs.List.{AllByRecursion, IsDistinct}
use Rattle.std.specs.Map.{keys_of, lookup, remove_entry}
use Rattle.std.proofs.lemmas.Bool.{eqb-true, false≢true}
use Rattle.std.proofs.lemmas.Cmp.{nat_eq_equiv}
use Rattle.std.proofs.lemmas.Map.{lookup-remove_entry, none_passes_from_lookup}
use Rattle.lru.specs.LruCache.{LruCache, put_entries}
use Rattle.lru.proofs.CallerLemmas.{Contains-lookup, Contains-put_entries}
use Rattle.cow_tree.specs.Caches.{entries_of, IsHeld, Agrees}

-- A page that lookup finds is in the list.
pub found_there : (n : ℕ) (held : List (ℕ × Vec ℕ)) (page : Vec ℕ) → lookup (nat_eq n) held ≡ Some page → Contains held (n, page)
found_there n held page is =
    let at = Contains-lookup (nat_eq n) held page is in
    subst (λ (k : ℕ). Contains held (k, page)) (sym (eqb-true n at.0 at.2)) at.1

-- Each cached page of the new cache was in the old one.
pub held_before : (old new : PageCache) → ((e : ℕ × Vec ℕ) → Contains (entries_of new) e → Contains (entries_of old) e) → (page : ℕ) (bytes : List ℕ) → IsHeld new page bytes → IsHeld old page bytes
held_before old new kept page bytes has = record { entry = has.entry; there = kept (page, has.entry) has.there; same = has.same }

-- A page in the cache after an insertion was in it before, or is the inserted page.
pub there_or_put : (cache : LruCache ℕ (Vec ℕ)) (n : ℕ) (bytes : Vec ℕ) (page : ℕ) (held : Vec ℕ) → Contains (put_entries nat_eq cache n bytes) (page, held)
    → Contains cache.entries (page, held) ⊎ ((page ≡ n) × (held ≡ bytes))
there_or_put cache n bytes page held has =
    ⊎_elim (λ was. inl was) (λ put. inr (⊎_elim (λ same. same) (λ there. sym (eqb-true n page there.2)) put.1, put.0)) (Contains-put_entries nat_eq cache n bytes (page, held) has)

none_there : (n : ℕ) (held : List (ℕ × Vec ℕ)) (bytes : Vec ℕ) → AllByRecursion (λ e. nat_eq n e.0 ≡ false) held → Contains held (n, bytes) → ⊥
none_there n [] bytes none (k, lt, here) = absurd (omega (arith, lt))
none_there n (e ∷ held) bytes none (zero, lt, here) = false≢true (sym none.0 ∙ ap (λ (x : ℕ × Vec ℕ). nat_eq n x.0) here ∙ nat_eq_equiv.refl n)
none_there n (e ∷ held) bytes none (suc k, lt, here) = none_there n held bytes none.1 (k, omega arith, here)

-- A removed page isn't in the list.
pub gone : (n : ℕ) (held : List (ℕ × Vec ℕ)) → IsDistinct nat_eq (keys_of held) → (bytes : Vec ℕ) → Contains (remove_entry (nat_eq n) held) (n, bytes) → ⊥
gone n held distinct bytes =
    let one : (x y : ℕ) → nat_eq n x ≡ true → nat_eq n y ≡ nat_eq x y = λ x y same. ap (λ (k : ℕ). nat_eq k y) (eqb-true n x same) in
    let out : lookup (nat_eq n) (remove_entry (nat_eq n) held) ≡ None =
    lookup-remove_entry nat_eq_equiv (nat_eq n) one n held distinct ∙ ap (λ (b : Bool). cond b None (lookup (nat_eq n) held)) (nat_eq_equiv.refl n) in
    none_there n (remove_entry (nat_eq n) held) bytes (none_passes_from_lookup (nat_eq n) (remove_entry (nat_eq n) held) out)

-- When a cache agrees with an image.

-- A cache agrees if all its pages are in a cache that agrees.
pub fewer_agree : (old new : PageCache) (image : Image) → ((page : ℕ) (bytes : List ℕ) → IsHeld new page bytes → IsHeld old page bytes) → Agrees old image → Agrees new image
fewer_agree old new image kept agrees page bytes has = agrees page bytes (kept page bytes has)

-- A cache agrees if each of its pages is in an agreeing cache or is a page read from the image.
pub one_more_agrees : (old new : PageCache) (image : Image) (number : ℕ) (read : List ℕ) → 4 ≤ number → read ≡ image number
    → ((page : ℕ) (bytes : List ℕ) → IsHeld new page bytes → IsHeld old page bytes ⊎ ((page ≡ number) × (bytes ≡ read))) → Agrees old image → Agrees new image
one_more_agrees old new image number read low is kept agrees page bytes has =
    ⊎_elim (λ was. agrees page bytes was) (λ put. (subst (λ (k : ℕ). 4 ≤ k) (sym put.0) low, ap image put.0 ∙ sym is ∙ sym put.1)) (kept page bytes has)

-- After a write, a cache without the written page still agrees.
pub written_agrees : (old new : PageCache) (before after : Image) (number : ℕ) → ((page : ℕ) (bytes : List ℕ) → IsHeld new page bytes → IsHeld old page bytes)
    → ((bytes : List ℕ) → ¬ IsHeld new number bytes) → SamePagesBut number before after → Agrees old before → Agrees new after
written_agrees old new before after number kept gone same agrees page bytes has =
    let was = agrees page bytes (kept page bytes has) in
    (was.0, sym (same page was.0 (λ e. gone bytes (subst (λ (k : ℕ). IsHeld new k bytes) e has))) ∙ was.1)

-- A cache that agrees with an image agrees with any image that has the same pages.
pub same_agrees : (cache : PageCache) (before after : Image) → SamePages before after → Agrees cache before → Agrees cache after
same_agrees cache before after same agrees page bytes has =
    let was = agrees page bytes has in
    (was.0, sym (same page was.0) ∙ was.1)
