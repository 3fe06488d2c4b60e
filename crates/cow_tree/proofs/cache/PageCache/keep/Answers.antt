use Rattle.cow_tree.proofs.Prelude.{Contains, LruCache, Vec, ℕ, ap, inl, inr, subst, sym, ⊎_elim, ◌∙◌}
use Rattle.cow_tree.proofs.Cached.{there_or_put}
use Rattle.cow_tree.proofs.Steps.{either_way}
use Rattle.cow_tree.proofs.cache.PageCache.keep.Goals as goal

pub returns : goal.returns
returns c page held has =
    let stored : Vec ℕ = c.in-Ok.page in
    either_way c.put.result c.put.ensures.entries c.put.ensures.err
    (λ now. ⊎_elim
    (λ was. inl (record { entry = has.entry; there = was; same = has.same }))
    (λ put. inr (put.0, sym has.same ∙ ap (λ (v : Vec ℕ). v.items) put.1 ∙ c.in-Ok.ensures.items))
    (there_or_put c.args.self.now.pages c.args.number stored page has.entry (subst (λ (x : LruCache ℕ (Vec ℕ)). Contains x.entries (page, has.entry)) now has.there)))
    (λ same. inl (record { entry = has.entry; there = subst (λ (x : LruCache ℕ (Vec ℕ)). Contains x.entries (page, has.entry)) same has.there; same = has.same }))
