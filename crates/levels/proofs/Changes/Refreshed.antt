-- A labelling is read only for a tile that exists.
use Rattle.levels.proofs.Prelude.{Contains, Corner, Ghosts, IsEntered, IsRight, IsTileLabelling, Known, List, ℕ, corner_at, corners_of, get_or_default, length, pos, subst, ◌<◌, ◌∙◌, ◌≡◌}

module _ {S : Type 0} (g : Ghosts S) (a : S) (known : Known) (t : ℕ) (c : Corner) (place : t < length known.corners) (at : corner_at known.corners t ≡ c) (right : IsRight (g.mosaic a) known) where
  pub is_there : corners_of (g.mosaic a) ≡ g.corners a → Contains (g.corners a) c
  is_there same = subst (λ (cs : List Corner). Contains cs c) (right.ready.all ∙ same)
      (t, place, get_or_default known.corners t c (record { lat = pos 0; lon = pos 0 }) place ∙ at)

  pub entered_there : IsEntered (g.mosaic a) c known.labellings t
  entered_there x is = subst (λ (d : Corner). IsTileLabelling (g.mosaic a) d x) at (right.labellings t x is)
