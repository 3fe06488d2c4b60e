use Rattle.cow_tree.proofs.Prelude.{Contains, LruCache, Vec, ℕ, subst}
use Rattle.lru.proofs.CallerLemmas.{Contains-remove_entry}
use Rattle.cow_tree.proofs.Cached.{gone, held_before}
use Rattle.cow_tree.proofs.cache.PageCache.forget.Goals as goal

pub returns-clause-kept : goal.returns-clause-kept
returns-clause-kept c = held_before c.args.self.now _ (λ e there. Contains-remove_entry _ c.args.self.now.pages.entries e (subst (λ (x : LruCache ℕ (Vec ℕ)). Contains x.entries e) c.pop.ensures.entries there))

pub returns-clause-gone : goal.returns-clause-gone
returns-clause-gone c bytes has =
    gone c.args.number c.args.self.now.pages.entries c.len-count.ensures.valid.0 has.entry (subst (λ (x : LruCache ℕ (Vec ℕ)). Contains x.entries (c.args.number, has.entry)) c.pop.ensures.entries has.there)
