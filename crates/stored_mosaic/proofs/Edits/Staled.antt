-- Trees whose kept planes were dropped.
use Rattle.std.proofs.Common.{rules}
use Rattle.stored_mosaic.proofs.Prelude.{Bool, Contains, Corner, Ghosts, List, StoredTile, Tree, ℕ, [], ap, ap₂, arith, cond, false, refl, staged_in, stale_tile, suc, true, ◌+◌, ◌||◌, ◌∙◌, ◌∷◌, ◌≡◌, ◌≤◌}
use Rattle.cow_tree.proofs.Uncommitted.{no_call_twice, no_call_yet}
use Rattle.stored_mosaic.specs.Staling.{staled_in, staled, ChangesTiles, Stales}

none_staled : (tiles : List StoredTile) → tiles ≡ staled (λ p. false) tiles
none_staled [] = refl
none_staled (t ∷ rest) = ap (λ (ts : List StoredTile). t ∷ ts) (none_staled rest)

pub staled_as : (f h : Corner → Bool) (tiles : List StoredTile) → ((t : StoredTile) → Contains tiles t → f t.corner ≡ h t.corner) → staled f tiles ≡ staled h tiles
staled_as f h [] same = refl
staled_as f h (t ∷ rest) same =
    ap₂ (λ (x : StoredTile) (xs : List StoredTile). x ∷ xs) (ap (λ b. cond b (stale_tile t.corner t.heights) t) (same t (0, omega arith, refl)))
    (staled_as f h rest (λ u there. same u (suc there.0, omega (arith, there.1), there.2)))

twice_in : (f h : Corner → Bool) (t : StoredTile) → staled_in h (staled_in f t) ≡ staled_in (λ p. f p || h p) t
twice_in f h t = search rules

staled_twice : (f h : Corner → Bool) (tiles : List StoredTile) → staled h (staled f tiles) ≡ staled (λ p. f p || h p) tiles
staled_twice f h [] = refl
staled_twice f h (t ∷ rest) = ap₂ (λ (x : StoredTile) (xs : List StoredTile). x ∷ xs) (twice_in f h t) (staled_twice f h rest)

module _ {D : Type 0} (g : Ghosts D) where
  -- Nothing has changed.
  pub changes_none : (makes : List StoredTile → List StoredTile) (records : ℕ) (tree : Tree D g) → staged_in g tree ≡ makes (staged_in g tree) → ChangesTiles g makes records tree tree
  changes_none makes records tree same = record { no_call = no_call_yet g tree; corners = refl; sinks = refl; due = omega arith; staged = same; at = λ s at. at }

  -- one change after another
  pub changes_on : (makes later both : List StoredTile → List StoredTile) (r q : ℕ) (a b c : Tree D g) → ((tiles : List StoredTile) → later (makes tiles) ≡ both tiles) → ChangesTiles g makes r a b → ChangesTiles g later q b c
      → ChangesTiles g both (r + q) a c
  changes_on makes later both r q a b c same first second = record {
    no_call = no_call_twice g a b c first.no_call second.no_call;
    corners = second.corners ∙ first.corners;
    sinks = second.sinks ∙ first.sinks;
    due = omega (arith, second.due, first.due);
    staged = second.staged ∙ ap later first.staged ∙ same (staged_in g a);
    at = λ s at. second.at s (first.at s at);
  }

  -- the same change in other words, with at most as many more records
  pub changes_as : (makes others : List StoredTile → List StoredTile) (r q : ℕ) (a b : Tree D g) → r ≤ q → makes (staged_in g a) ≡ others (staged_in g a) → ChangesTiles g makes r a b → ChangesTiles g others q a b
  changes_as makes others r q a b less same changes = search rules

  pub stales_none : (tree : Tree D g) → Stales g (λ p. false) tree tree
  stales_none tree = changes_none (staled (λ p. false)) 0 tree (none_staled (staged_in g tree))

  pub stales_on : (f h : Corner → Bool) (a b c : Tree D g) → Stales g f a b → Stales g h b c → Stales g (λ p. f p || h p) a c
  stales_on f h a b c = changes_on (staled f) (staled h) (staled (λ p. f p || h p)) 0 0 a b c (staled_twice f h)

  -- the same, by a test that agrees on the present tiles
  pub stales_as : (f h : Corner → Bool) (a b : Tree D g) → ((t : StoredTile) → Contains (staged_in g a) t → f t.corner ≡ h t.corner) → Stales g f a b → Stales g h a b
  stales_as f h a b same = changes_as (staled f) (staled h) 0 0 a b (omega arith) (staled_as f h (staged_in g a) same)
