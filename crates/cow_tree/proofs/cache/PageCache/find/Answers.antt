use Rattle.cow_tree.proofs.Prelude.{Contains, List, LruCache, Vec, ℕ, ap, length, refl, slice_range, subst, sym, ◌+◌, ◌∙◌, ◌≡◌}
use Rattle.lru.proofs.CallerLemmas.{Contains-promoted}
use Rattle.cow_tree.proofs.Cached.{found_there, held_before}
use Rattle.cow_tree.proofs.cache.PageCache.find.Goals as goal

pub returns-clause-kept : goal.returns-clause-kept
returns-clause-kept c = held_before c.args.self.now _ (λ e there. Contains-promoted _ c.args.self.now.pages.entries e (subst (λ (x : LruCache ℕ (Vec ℕ)). Contains x.entries e) c.promote.ensures.entries there))

pub returns-in_default-clause-kept : goal.returns-in_default-clause-kept
returns-in_default-clause-kept c = held_before c.args.self.now _ (λ e there. Contains-promoted _ c.args.self.now.pages.entries e (subst (λ (x : LruCache ℕ (Vec ℕ)). Contains x.entries e) c.promote.ensures.entries there))

pub returns-then-len-ne-PAGE_BYTES-clause-kept : goal.returns-then-len-ne-PAGE_BYTES-clause-kept
returns-then-len-ne-PAGE_BYTES-clause-kept c = held_before c.args.self.now _ (λ e there. Contains-promoted _ c.args.self.now.pages.entries e (subst (λ (x : LruCache ℕ (Vec ℕ)). Contains x.entries e) c.promote.ensures.entries there))

pub returns-clause-found : goal.returns-clause-found
returns-clause-found c _ =
    let entry : Vec ℕ = c.in-Some.page.now in
    let there = found_there c.args.number c.promote.new.self.entries entry (sym c.in-Some.ensures) in (
      entry.items,
      (
        returns-clause-kept c c.args.number entry.items (record { entry = entry; there = there; same = refl }),
        (
          sym (ap (λ (l : List ℕ). length l) c.deref.ensures.value) ∙ c.deref.ensures.len ∙ sym c.len.ensures ∙ c.if-len-ne-PAGE_BYTES.false,
          subst (λ (bytes : List ℕ). slice_range bytes c.args.from (c.args.from + length c.args.into.now) ≡ c.copy_from_slice.new.self) c.deref.ensures.value (sym c.copy_from_slice.ensures.after),
        ),
      ),
    )
