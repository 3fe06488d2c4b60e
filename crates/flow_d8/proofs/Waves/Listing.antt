-- Lists of samples that grow one by one.
use Rattle.std.proofs.Common.{rules}
use Rattle.flow_d8.proofs.Prelude.{List, Lists, ℕ, [], ap, arith, get_or, get_or-append-add, get_or_append_left, length, length-append, ◌++◌, ◌+◌, ◌<◌, ◌∙◌, ◌∷◌, ◌≡◌, ◌⊎◌}

-- the list has one more element, v
pub record IsLonger (old new : List ℕ) (v : ℕ) : Type 0 where
  pub longer : length new ≡ length old + 1
  pub kept : (i : ℕ) → i < length old → get_or new i 0 ≡ get_or old i 0
  pub last : get_or new (length old) 0 ≡ v

pub longer_of : (old new : List ℕ) (v : ℕ) → new ≡ old ++ (v ∷ []) → IsLonger old new v
longer_of old new v is = record {
  longer = ap length is ∙ length-append old (v ∷ []);
  kept = λ i small. ap (λ l. get_or l i 0) is ∙ get_or_append_left old (v ∷ []) 0 i small;
  last = ap (λ l. get_or l (length old) 0) is ∙ ap (λ i. get_or (old ++ (v ∷ [])) i 0) (no_more (length old)) ∙ get_or-append-add old (v ∷ []) 0 0;
}
  where
    no_more : (n : ℕ) → n ≡ n + 0
    no_more n = omega arith

-- a longer list still lists its elements
pub lists_kept : (old new : List ℕ) (v k : ℕ) → IsLonger old new v → Lists old k → Lists new k
lists_kept old new v k more was = (was.0, (omega (arith, was.1.0, more.longer), more.kept was.0 was.1.0 ∙ was.1.1))

pub lists_last : (old new : List ℕ) (v : ℕ) → IsLonger old new v → Lists new v
lists_last old new v more = (length old, (omega (arith, more.longer), more.last))

-- a statement is true for each element of the longer list
pub longer_all : (P : ℕ → Type 0) (old new : List ℕ) (v : ℕ) → IsLonger old new v → ((i : ℕ) → i < length old → P (get_or old i 0)) → P v → (i : ℕ) → i < length new → P (get_or new i 0)
longer_all P old new v more was here i small = search rules

pub lists_either : (old new : List ℕ) (v k : ℕ) → IsLonger old new v → Lists new k → Lists old k ⊎ (k ≡ v)
lists_either old new v k more at = search rules
