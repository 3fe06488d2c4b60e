-- The filled levels of a whole tile, from its labelling and the levels of its rim.
use Rattle.levels.proofs.Prelude.{Asked, Contains, Corner, Damaged, Err, Ghosts, HeldLabelling, IfErr, IsEntered, IsFlooded, IsMosaic, IsRight, IsTileLabelling, IsTrue, Known, LabelledGround, List, Mosaic, NoMemory, Ok, OnlyReads, Refusal, Result, TileLabelling, ℕ, ℤ, ap, corner_at, corners_of, ends_any, inl, inr, length, present_iff, refl, subst, sym, ◌<◌, ◌∙◌, ◌≡◌, ◌⊎◌}
use Rattle.labelling.specs.Raising.{AreRimLevels, IsRimFilled}
use Rattle.catalogue.proofs.Questioned.{answered, stopped, wanting}
use Rattle.levels.proofs.Changes.Refreshed as refreshed

-- tile t with its corner
module _ {S : Type 0} (g : Ghosts S) (a : S) (is : IsMosaic (g.mosaic a)) (known : Known) (t : ℕ) (c : Corner) (place : t < length known.corners) (at : corner_at known.corners t ≡ c) (right : IsRight (g.mosaic a) known) (same : corners_of (g.mosaic a) ≡ g.corners a) where
  -- the cached results are right with another labelling of this tile
  pub right_held : (labellings : List HeldLabelling) (labelling : TileLabelling) → IsTileLabelling (g.mosaic a) c labelling
      → ((m : Mosaic) (d : Corner) (u : ℕ) → (u ≡ t → IsTileLabelling m d labelling) → IsEntered m d known.labellings u → IsEntered m d labellings u)
      → IsRight (g.mosaic a) (record { side = known.side; corners = known.corners; loaded = known.loaded; labellings = labellings; levels = known.levels })
  right_held labellings labelling valid held = record {
    ready = right.ready;
    labellings = λ u. held (g.mosaic a) (corner_at known.corners u) u
        (λ here. subst (λ (d : Corner). IsTileLabelling (g.mosaic a) d labelling) (sym (ap (λ k. corner_at known.corners k) here ∙ at)) valid) (right.labellings u);
    levels = right.levels;
  }

  -- the cached results are right with fewer labellings
  pub right_fewer : (labellings : List HeldLabelling) → ((m : Mosaic) (d : Corner) (u : ℕ) → IsEntered m d known.labellings u → IsEntered m d labellings u)
      → IsRight (g.mosaic a) (record { side = known.side; corners = known.corners; loaded = known.loaded; labellings = labellings; levels = known.levels })
  right_fewer labellings left = record { ready = right.ready; labellings = λ u. left (g.mosaic a) (corner_at known.corners u) u (right.labellings u); levels = right.levels }

  pub rim_filled : (labelled : LabelledGround) (rim : List ℤ) → IsFlooded (g.mosaic a) c labelled → AreRimLevels (g.mosaic a) c rim → IsRimFilled (g.mosaic a) c labelled.side labelled.levels labelled.labels rim
  rim_filled labelled rim flooded levels = record {
    mosaic = is;
    side = flooded.side;
    present = (present_iff (g.mosaic a) c).1 (subst (λ (cs : List Corner). Contains cs c) (sym same) (refreshed.is_there g a known t c place at right same));
    labelled = flooded.valid;
    rim_levels = levels;
  }

-- after reads, the levels were computed, or memory was lacking, or the data read belong to no mosaic
module _ {S T : Type 0} (g : Ghosts S) (a b : S) (Q : Type 0) where
  pub raised_asked : (result : Result T Refusal) → OnlyReads {T = Unit {0}} g a b (Ok tt) → IfErr result (λ r. (r ≡ NoMemory) ⊎ ((r ≡ Damaged) × Q)) → (g.is_honest b → IfErr result (λ r. r ≡ NoMemory)) → Asked g a b result
  raised_asked (Ok x) reads refusal sound = answered g a b x reads
  raised_asked (Err r) reads (inl memory) sound = subst (λ (x : Refusal). Asked {T = T} g a b (Err x)) (sym memory) (wanting g a b reads)
  raised_asked (Err r) reads (inr (damaged, q)) sound = subst (λ (x : Refusal). Asked {T = T} g a b (Err x)) (sym damaged) (stopped g a b reads (λ honest. other (sym damaged ∙ sound honest)))
    where
      other : Damaged ≡ NoMemory → ⊥
      other e = cc

  pub raised_causes : (result : Result T Refusal) → IfErr result (λ r. (r ≡ NoMemory) ⊎ ((r ≡ Damaged) × Q)) → IfErr result (λ r. IsTrue (ends_any r))
  raised_causes (Ok x) refusal = tt
  raised_causes (Err r) (inl memory) = subst (λ (x : Refusal). IsTrue (ends_any x)) (sym memory) refl
  raised_causes (Err r) (inr (damaged, q)) = subst (λ (x : Refusal). IsTrue (ends_any x)) (sym damaged) refl
