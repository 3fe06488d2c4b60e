-- Lists made from the entries, one entry after another.
use Rattle.page_map.proofs.Prelude.{Bor, Corner, Entry, List, PlaneLocation, TileLocation, ℕ, [], ap, append_assoc, arith, corners_of_locations, eq-eqb, false, false≢true, get_or, length, length-append, ne_eqb, refl, staged_plane, staged_tile, staged_tiles, subst, sym, tile_of, true, ◌++◌, ◌<◌, ◌∙◌, ◌∷◌, ◌≡◌}
use Rattle.std.specs.Prelude.{Option, Some, None, IsSome, IfSome, is_some, Contains, ◌==◌, option_copied}
use Rattle.std.specs.List.{cons_option, list_any}
use Rattle.std.proofs.lemmas.List.Elements.{Contains-get_or}
use Rattle.std.proofs.lemmas.List.Folds.{list_any_at, list_any_none}
use Rattle.page_map.proofs.EntryLists.{staged_own}

-- A tile is staged exactly if its heights are.
pub some_alike : (r : Option (Bor PlaneLocation)) (s : Entry) → option_copied r ≡ staged_plane s.1.heights → is_some r ≡ is_some (staged_tile s)
some_alike r s same = copied r ∙ (ap is_some same ∙ by (staged_plane s.1.heights))
  where
    copied : (q : Option (Bor PlaneLocation)) → is_some q ≡ is_some (option_copied q)
    copied None = refl
    copied (Some location) = refl

    by : (o : Option PlaneLocation) → is_some o ≡ is_some (tile_of s.0 o (staged_plane s.1.levels) (staged_plane s.1.labels))
    by None = refl
    by (Some h) = refl

-- ---- corners
-- The corners so far, followed by those of the remaining tiles, are all corners.
module _ (corners all : List Corner) (e : Entry) (rest : List Entry) (so_far : corners ++ corners_of_locations (staged_tiles (e ∷ rest)) ≡ all) where
  pub located_more : IsSome (staged_tile e) → (corners ++ e.0 ∷ []) ++ corners_of_locations (staged_tiles rest) ≡ all
  located_more some = append_assoc corners (e.0 ∷ []) (corners_of_locations (staged_tiles rest)) ∙ (ap (λ l. corners ++ l) (own (staged_tile e) (staged_own e) some) ∙ so_far)
    where
      own : (o : Option TileLocation) → IfSome o (λ t. t.corner ≡ e.0) → IsSome o → e.0 ∷ corners_of_locations (staged_tiles rest) ≡ corners_of_locations (cons_option o (staged_tiles rest))
      own None is some = absurd (false≢true some)
      own (Some t) is some = ap (λ c. c ∷ corners_of_locations (staged_tiles rest)) (sym is)

  pub located_same : is_some (staged_tile e) ≡ false → corners ++ corners_of_locations (staged_tiles rest) ≡ all
  located_same none = ap (λ l. corners ++ l) (empty (staged_tile e) none) ∙ so_far
    where
      empty : (o : Option TileLocation) → is_some o ≡ false → corners_of_locations (staged_tiles rest) ≡ corners_of_locations (cons_option o (staged_tiles rest))
      empty None none = refl
      empty (Some t) none = absurd (false≢true (sym none))

  pub located_room : IsSome (staged_tile e) → length corners < length all
  located_room some = omega (arith, ap length (located_more some), length-append (corners ++ e.0 ∷ []) (corners_of_locations (staged_tiles rest)), length-append corners (e.0 ∷ []))

-- ---- a test whether a list has a page
pub any_none : (xs : List ℕ) (r : ℕ) → (Contains xs r → ⊥) → list_any (λ p. p == r) xs ≡ false
any_none xs r none = list_any_none (λ p. p == r) xs (λ k d below. ne_eqb (get_or xs k d) r (λ e. none (subst (Contains xs) e (Contains-get_or xs k d below))))

pub any_some : (xs : List ℕ) (r : ℕ) → Contains xs r → list_any (λ p. p == r) xs ≡ true
any_some xs r (k, below, here) = list_any_at (λ p. p == r) xs k r below (eq-eqb (get_or xs k r) r here)
