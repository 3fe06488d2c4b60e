-- Two stored bytes give the value at an index. Levels and labels of a valid labelling fit each other at each point.
use Rattle.std.proofs.Common.{◌≡◌, ◌≢◌, inl, inr, ℕ, zero, suc, ◌+◌, ◌-◌, ◌*◌, ◌<◌, ◌≤◌, ◌⊎◌, ℤ, ◌≤ℤ◌, IsTrue, List, [], ◌∷◌, take, drop, get_or, map, slice_index, refl, sym, ap, ◌∙◌, arith}
use Rattle.std.proofs.lemmas.Bool.{cases_Bool}
use Rattle.std.proofs.lemmas.List.{drop-map, take-map, get_or-take, get_or-drop}
use Rattle.std.proofs.Math.Seq.{drop-nil}
use Rattle.lattice.specs.Block.{block_terrain, is_solid, rim_number}
use Rattle.lattice.specs.Mosaic.{void}
use Rattle.lattice.specs.Terrain.{end_of}
use Rattle.lattice.proofs.Lawful.{block_is_lawful}
use Rattle.labelling.specs.Blocks.{block_of, bare_block}
use Rattle.tile_flood.specs.Kept.{labels_in, levels_in, signed}
use Rattle.labelling.specs.Labelling.{IsLabelling, OUT, NO_LABEL}
use Rattle.labelling.proofs.Passages.{solid_has_level}
use Rattle.labelling.proofs.Heights.{rim_number_below}
use Rattle.labelling.proofs.Squares.{solid_below}
use Rattle.lattice.specs.Limits.{largest_side}
use Rattle.tile_labellings.specs.Spots.{DoMarksFitAt, StandsAt}

-- ---- what two bytes store

labels_in-drop : (bytes : List ℕ) (e j : ℕ) → j ≡ 2 * e → labels_in (drop j bytes) ≡ drop e (labels_in bytes)
labels_in-drop bytes zero j is = let none : j ≡ 0 = omega arith in rw none refl
labels_in-drop [] (suc e) j is = ap labels_in (drop-nil j)
labels_in-drop (b ∷ []) (suc e) j is = let more : j ≡ suc (suc (2 * e)) = omega arith in rw more refl
labels_in-drop (b ∷ c ∷ rest) (suc e) j is = let more : j ≡ suc (suc (2 * e)) = omega arith in rw more (labels_in-drop rest e (2 * e) refl)

labels_in-two : (bytes : List ℕ) → labels_in (take 2 bytes) ≡ take 1 (labels_in bytes)
labels_in-two [] = refl
labels_in-two (b ∷ []) = refl
labels_in-two (b ∷ c ∷ rest) = refl

first_there : {A : Type 0} (xs : List A) (e : ℕ) (x d : A) → take 1 (drop e xs) ≡ x ∷ [] → get_or xs e d ≡ x
first_there xs e x d is =
    ap (λ k. get_or xs k d) (let same : e ≡ e + 0 = omega arith in same)
    ∙ (sym (get_or-drop e xs 0 d) ∙ (sym (get_or-take 1 (drop e xs) 0 d (omega arith)) ∙ ap (λ l. get_or l 0 d) is))

labels_there : (bytes two : List ℕ) (e : ℕ) → StandsAt bytes e two → take 1 (drop e (labels_in bytes)) ≡ labels_in two
labels_there bytes two e stands =
    ap (take 1) (sym (labels_in-drop bytes e (2 * e) refl))
    ∙ (sym (labels_in-two (drop (2 * e) bytes))
    ∙ (ap (λ k. labels_in (take k (drop (2 * e) bytes))) (let width : 2 ≡ 2 * e + 2 - 2 * e = omega arith in width) ∙ ap labels_in stands))

pub label_there : (bytes two : List ℕ) (e label : ℕ) → StandsAt bytes e two → labels_in two ≡ label ∷ [] → slice_index (labels_in bytes) e ≡ label
label_there bytes two e label stands is = first_there (labels_in bytes) e label 0 (labels_there bytes two e stands ∙ is)

pub level_there : (bytes two : List ℕ) (e : ℕ) (level : ℤ) → StandsAt bytes e two → levels_in two ≡ level ∷ [] → get_or (levels_in bytes) e void ≡ level
level_there bytes two e level stands is =
    first_there (levels_in bytes) e level void
    (ap (take 1) (drop-map signed e (labels_in bytes)) ∙ (take-map signed 1 (drop e (labels_in bytes)) ∙ (ap (map signed) (labels_there bytes two e stands) ∙ is)))

-- ---- levels and labels that fit each other

pub void_fits : (n : ℕ) (level : ℤ) (label : ℕ) → label ≡ NO_LABEL → level ≡ void → DoMarksFitAt n level label
void_fits n level label none gap = record { voids = ((λ _. none), (λ _. gap)); named = λ other. absurd (other none) }

pub ground_fits : (n : ℕ) (level : ℤ) (label : ℕ) → label ≢ NO_LABEL → level ≢ void → (label ≡ OUT) ⊎ (label < 4 * (n - 1)) → DoMarksFitAt n level label
ground_fits n level label some full named = record { voids = ((λ gap. absurd (full gap)), (λ none. absurd (some none))); named = λ _. named }

module _ (n : ℕ) (heights : List ℤ) (sinks : List ℕ) (levels : List ℤ) (labels : List ℕ) (low : 3 ≤ n) (high : n ≤ largest_side) (least : (e : ℕ) → void ≤ℤ get_or heights e void)
    (is : IsLabelling (block_of n heights sinks) levels labels) where
  pub spot_fits : (e : ℕ) → e < n * n → DoMarksFitAt n (get_or levels e void) (slice_index labels e)
  spot_fits e small = elim (cases_Bool (is_solid (bare_block n heights) e)) [
    | inl solid ↦
        let label = is.label e solid in
        let last = end_of (block_terrain (block_of n heights sinks)) e label.way.0 in
        let on : IsTrue (is_solid (bare_block n heights) last) = (block_is_lawful (block_of n heights sinks)).outlet_ground last label.way.1.1.1.0 in
        let full = solid_has_level n heights sinks levels labels least is e solid in
        elim label.way.1.1.1.1 [
          | inl named ↦
              let small' : rim_number n last < 4 * (n - 1) = rim_number_below n last low (solid_below n heights last on) in
              let is_number : slice_index labels e ≡ rim_number n last = named.1 in
              ground_fits n (get_or levels e void) (slice_index labels e) (λ same. absurd (omega arith)) full (inr (omega arith))
          | inr out ↦ ground_fits n (get_or levels e void) (slice_index labels e) (λ same. absurd (omega (arith, out.1, same))) full (inl out.1)
        ]
    | inr off ↦
        let gap = is.void_points e small off in
        void_fits n (get_or levels e void) (slice_index labels e) gap.1 gap.0
  ]
