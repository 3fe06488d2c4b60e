-- The spills of a tile in both directions, by the labels from which they lead.
use Rattle.std.specs.Prelude.{◌≢◌, ℕ, ◌<◌, ◌⊎◌, List, [], ◌∷◌, Contains}
use Rattle.labelling.specs.declared.spill.Spill.{Spill}
use Rattle.border_graph.specs.Summaries.{Summary}
use Rattle.border_graph.specs.Joining.{IsThere, IsLabelLink}

abbrev pub turned : Spill → Spill
turned spill = record { a = spill.b; b = spill.a; level = spill.level }

module _ (n : ℕ) (b : Summary) where
  -- a link to a ground rim point from its label, which is another point's number, at the point's height
  pub record IsFromLabel (link : Spill) : Type 0 where
    pub there : IsThere n (b ∷ []) 0 link.b
    pub apart : link.a ≢ link.b
    pub label : IsLabelLink n (b ∷ []) 0 link.b link.a link.level

  -- the links are the spills with exchanged labels, and the links from labels
  pub record AreTurned (links : List Spill) : Type 0 where
    pub each : (link : Spill) → Contains links link → Contains b.spills (turned link) ⊎ IsFromLabel link
    pub spills : (spill : Spill) → Contains b.spills spill → Contains links (turned spill)
    pub labels : (link : Spill) → IsFromLabel link → Contains links link

  -- the links from labels to the first `count` rim points are added
  pub record AreLabelsTurned (count : ℕ) (old new : List Spill) : Type 0 where
    pub still : (link : Spill) → Contains old link → Contains new link
    pub each : (link : Spill) → Contains new link → Contains old link ⊎ IsFromLabel link
    pub labels : (link : Spill) → link.b < count → IsFromLabel link → Contains new link
