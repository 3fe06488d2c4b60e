-- The first element removed from a heap of entries has the lowest crest.
use Rattle.std.proofs.Common.{rules}
use Rattle.std.proofs.Common.{◌≡◌, ℤ, ◌≤ℤ◌, List, false, sym, ap, ◌∙◌, arith, true≢false, cond, int_lt, inl, inr, Ordering, Less, Equal, Greater}
use Rattle.border_graph.proofs.Prelude.{Entry, IsTaken, cases_Bool, int_cmp, ints, is_lt, nat_cmp, ordering_then}

first_no_lower : (a b : ℤ) (rest : Ordering) → is_lt (ordering_then (int_cmp b a) rest) ≡ false → a ≤ℤ b
first_no_lower a b rest h = search rules

taken_by : {X : Type 0} (R S : X → X → Type 0) (old new : List X) (x : X) → ((y : X) → R x y → S x y) → IsTaken R old new x → IsTaken S old new x
taken_by R S old new x leads t = record { waited = t.waited; lowest = λ l has. leads l (t.lowest l has); others = t.others; only = t.only }

pub lowest_entry : (old new : List Entry) (x : Entry) → IsTaken (λ (a b : Entry). is_lt (ordering_then (int_cmp b.crest a.crest) (ordering_then (int_cmp b.level a.level) (nat_cmp b.node a.node))) ≡ false) old new x
    → IsTaken (λ (a b : Entry). a.crest ≤ℤ b.crest) old new x
lowest_entry old new x t =
    taken_by (λ (a b : Entry). is_lt (ordering_then (int_cmp b.crest a.crest) (ordering_then (int_cmp b.level a.level) (nat_cmp b.node a.node))) ≡ false) (λ (a b : Entry). a.crest ≤ℤ b.crest) old new x
    (λ y h. first_no_lower x.crest y.crest (ordering_then (int_cmp y.level x.level) (nat_cmp y.node x.node)) h) t
