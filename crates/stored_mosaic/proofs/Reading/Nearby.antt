-- Dropping the kept planes of tiles that pass a test, corner by corner.
use Rattle.stored_mosaic.proofs.Prelude.{Bool, Contains, Corner, Ghosts, List, Stales, StoredTile, Tree, ℕ, and_from, ap, contains-map, corners_of, disk_of, false, get_or, length, list_any, refl, same_corner, same_from, same_says, staged_in, subst, sym, take, take_all, true, ◌&&◌, ◌+◌, ◌<◌, ◌||◌, ◌∙◌, ◌≡◌, ◌≤◌}
use Rattle.std.proofs.lemmas.List.Folds.{list_any_at, list_any_none, list_any_more}
use Rattle.std.proofs.Math.Bool.{or-false, and-true, and-false}
use Rattle.stored_mosaic.proofs.Reading.Finding.{stored_corner}
use Rattle.stored_mosaic.proofs.Reading.InMemory.{corners_kept}
use Rattle.stored_mosaic.proofs.Edits.Staled.{stales_on, stales_as}

-- The corner is in the list, and passes the test.
abbrev pub passes_first : (Corner → Bool) → List Corner → Corner → Bool
passes_first test corners p = list_any (λ d. same_corner p d && test d) corners

first_says : (test : Corner → Bool) (corners : List Corner) (p : Corner) → Contains corners p → passes_first test corners p ≡ test p
first_says test corners p (k, below, here) = by (test p) refl
  where
    by : (b : Bool) → test p ≡ b → passes_first test corners p ≡ b
    by true passes =
        list_any_at (λ d. same_corner p d && test d) corners k p below
        (ap (λ (d : Corner). same_corner p d && test d) here ∙ and_from (same_corner p p) (test p) (same_from p p refl) passes)
    by false fails = list_any_none (λ d. same_corner p d && test d) corners (λ i e within. other (get_or corners i e) (same_corner p (get_or corners i e)) refl)
      where
        other : (d : Corner) (b : Bool) → same_corner p d ≡ b → (b && test d) ≡ false
        other d true same = ap test (sym (same_says p d same)) ∙ fails
        other d false apart = refl

module _ {D : Type 0} (g : Ghosts D) (test : Corner → Bool) (corners : List Corner) (i : ℕ) (d : Corner) (within : i < length corners) (is : d ≡ get_or corners i d) (old mid : Tree D g)
    (so : Stales g (passes_first test (take i corners)) old mid) where
  more : (p : Corner) → passes_first test (take (i + 1) corners) p ≡ (passes_first test (take i corners) p || (same_corner p d && test d))
  more p =
      list_any_more (λ e. same_corner p e && test e) corners i d within
      ∙ ap (λ (e : Corner). passes_first test (take i corners) p || (same_corner p e && test e)) (sym is)

  pub first_more : (new : Tree D g) → test d ≡ true → Stales g (λ p. same_corner p d) mid new → Stales g (passes_first test (take (i + 1) corners)) old new
  first_more new passes drops =
      stales_as g (λ p. passes_first test (take i corners) p || same_corner p d) (passes_first test (take (i + 1) corners)) old new
      (λ t there.
      let p = t.corner in
      sym (more p ∙ ap (λ b. passes_first test (take i corners) p || (same_corner p d && b)) passes ∙ ap (λ b. passes_first test (take i corners) p || b) (and-true (same_corner p d))))
      (stales_on g (passes_first test (take i corners)) (λ p. same_corner p d) old mid new so drops)

  pub first_same : test d ≡ false → Stales g (passes_first test (take (i + 1) corners)) old mid
  first_same fails =
      stales_as g (passes_first test (take i corners)) (passes_first test (take (i + 1) corners)) old mid
      (λ t there.
      let p = t.corner in
      sym (more p ∙ ap (λ b. passes_first test (take i corners) p || (same_corner p d && b)) fails ∙ ap (λ b. passes_first test (take i corners) p || b) (and-false (same_corner p d))
      ∙ or-false (passes_first test (take i corners) p)))
      so

module _ {D : Type 0} (g : Ghosts D) (old new : Tree D g) where
  pub there_listed : (corners : List Corner) → corners ≡ corners_of old → (t : StoredTile) → Contains (staged_in g old) t → Contains corners t.corner
  there_listed corners are t there =
      subst (λ (cs : List Corner). Contains cs t.corner) (sym (are ∙ corners_kept (g.seen (disk_of old)) old.page_map.staged)) (contains-map stored_corner (staged_in g old) t there)

  pub first_all : (test : Corner → Bool) (corners : List Corner) (i : ℕ) → corners ≡ corners_of old → length corners ≤ i → Stales g (passes_first test (take i corners)) old new → Stales g test old new
  first_all test corners i are done so =
      stales_as g (passes_first test corners) test old new (λ t there. first_says test corners t.corner (there_listed corners are t there))
      (subst (λ (cs : List Corner). Stales g (passes_first test cs) old new) (take_all i corners done) so)
