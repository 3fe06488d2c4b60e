-- What is visited next: the lowest entry of the frontier whose node isn't visited.
use Rattle.std.proofs.Common.{rules}
use Rattle.border_graph.proofs.Prelude.{Bool, Contains, Entry, IsNext, IsTaken, List, ℕ, ap, cases_Bool, cond, eqb_tells, false, inl, inr, is_among, not, refl, subst, sym, true, true≢false, ◌==◌, ◌∙◌, ◌≡◌, ◌≤ℤ◌, ◌⊎◌}

pub not_taken : (b : Bool) → true ≡ not b → b ≡ false
not_taken false h = refl
not_taken true h = absurd (true≢false h)

pub was_taken : (b : Bool) → false ≡ not b → b ≡ true
was_taken true h = refl
was_taken false h = absurd (true≢false (sym h))

-- the visited nodes after one more is visited
pub taken_now : (nodes nodes' : List ℕ) (c : ℕ) → ((x : ℕ) → is_among nodes' x ≡ cond (c == x) true (is_among nodes x)) → is_among nodes' c ≡ true
taken_now nodes nodes' c takes = search rules

pub taken_still : (nodes nodes' : List ℕ) (c x : ℕ) → ((x : ℕ) → is_among nodes' x ≡ cond (c == x) true (is_among nodes x)) → is_among nodes x ≡ true → is_among nodes' x ≡ true
taken_still nodes nodes' c x takes full = search rules

pub taken_other : (nodes nodes' : List ℕ) (c x : ℕ) → ((x : ℕ) → is_among nodes' x ≡ cond (c == x) true (is_among nodes x)) → (x ≡ c → ⊥) → is_among nodes' x ≡ is_among nodes x
taken_other nodes nodes' c x takes apart = search rules

module _ (old : List Entry) (visited : List ℕ) (mid : List Entry) (held : List ℕ) (same : (x : ℕ) → is_among held x ≡ is_among visited x)
    (others : (l : Entry) → Contains old l → (is_among visited l.node ≡ true) ⊎ Contains mid l) (only : (l : Entry) → Contains mid l → Contains old l) where
  module _ (new : List Entry) (visited' : List ℕ) (entry : Entry) (p : IsTaken (λ (x y : Entry). x.crest ≤ℤ y.crest) mid new entry) (takes : (x : ℕ) → is_among visited' x ≡ cond (entry.node == x) true (is_among held x)) where
    takes_too : (x : ℕ) → is_among visited' x ≡ cond (entry.node == x) true (is_among visited x)
    takes_too x = takes x ∙ ap (λ b. cond (entry.node == x) true b) (same x)

    -- the node of the lowest entry isn't visited
    pub is_next : is_among held entry.node ≡ false → IsNext old visited new visited' entry
    is_next fresh = record {
      waited = only entry p.waited;
      fresh = sym (same entry.node) ∙ fresh;
      lowest = λ l has free. elim (others l has) [
        | inl full ↦ absurd (true≢false (sym full ∙ free))
        | inr still ↦ p.lowest l still
      ];
      above = λ l has. p.lowest l (p.only l has);
      others = λ l has free. elim (others l has) [
        | inl full ↦ absurd (true≢false (sym (taken_still visited visited' entry.node l.node takes_too full) ∙ free))
        | inr still ↦ elim (p.others l still) [
          | inl is ↦ absurd (true≢false (sym (taken_now held visited' entry.node takes) ∙ subst (λ (s : Entry). is_among visited' s.node ≡ false) is free))
          | inr waits ↦ waits
        ]
      ];
      only = λ l has. only l (p.only l has);
      takes = takes_too;
    }

    -- the node of the lowest entry is visited already
    pub same_taken : is_among held entry.node ≡ true → (x : ℕ) → is_among visited' x ≡ is_among visited x
    same_taken full x = search rules

    pub others_still : is_among held entry.node ≡ true → (l : Entry) → Contains old l → (is_among visited l.node ≡ true) ⊎ Contains new l
    others_still full l has = elim (others l has) [
      | inl gone ↦ inl gone
      | inr still ↦ elim (p.others l still) [
        | inl is ↦ inl (sym (same l.node) ∙ subst (λ (s : Entry). is_among held s.node ≡ true) (sym is) full)
        | inr waits ↦ inr waits
      ]
    ]
