-- Which cached results a change keeps. The definitions are this product's own.
use Rattle.std.specs.Prelude.{◌≡◌, ◌↔◌, ◌⊎◌, ◌<◌, ℕ, ℤ, Bool, true, false, IsTrue, List, Some, length}
use Rattle.lattice.specs.Corners.{Corner}
use Rattle.lattice.specs.Lattice.{IsIndexOf, holds}
use Rattle.lattice.specs.Mosaic.{Mosaic}
use Rattle.border_graph.specs.Others.{corner_at}
use Rattle.border_graph.specs.TileGraph.{TileGraph}
use Rattle.edits.specs.declared.edit.NewHeight.{NewHeight}
use Rattle.tile_labellings.specs.TileLabellings.{labelled_of, is_flooded, can_note, IsBelow, IsSetFrom, IsTileLabelling}
use Rattle.tile_labellings.specs.declared.tile_labelling.TileLabelling.{TileLabelling}
use Rattle.levels.specs.Holding.{Known, IsHeldAt, level_of}
use Rattle.levels.specs.Reaching.{DifferAt, is_reached}
use Rattle.levels.specs.RimGraphs.{loaded_at}
use Rattle.levels.specs.Room.{has_block}
use Rattle.levels.specs.declared.labelling_cache.HeldLabelling.{HeldLabelling}

-- only results of the tiles in `gone` are dropped, and levels that don't satisfy `spared`
pub record IsLeftOf (gone : ℕ → Bool) (spared : ℤ → Type 0) (known known' : Known) : Type 0 where
  pub same_side : known'.side ≡ known.side
  pub same_corners : known'.corners ≡ known.corners
  pub whole : length known'.loaded ≡ length known.loaded
  pub loaded : (t : ℕ) (ways : TileGraph) → loaded_at known'.loaded t ≡ Some ways ↔ ((loaded_at known.loaded t ≡ Some ways) × (gone t ≡ false))
  pub labellings : (t : ℕ) (labelling : TileLabelling) → IsHeldAt known'.labellings t labelling ↔ (IsHeldAt known.labellings t labelling × (gone t ≡ false))
  pub levels : (x : ℕ) (level : ℤ) → level_of known'.levels x ≡ Some level ↔ ((level_of known.levels x ≡ Some level) × spared level)

-- the flooded labelling of tile t is still cached, to be mended on its next use
pub record IsHeldStill (labellings : List HeldLabelling) (t : ℕ) (labelling : TileLabelling) : Type 0 where
  pub noted : TileLabelling
  pub held : IsHeldAt labellings t noted
  pub same : labelled_of noted ≡ labelled_of labelling
  pub flooded : is_flooded noted ≡ is_flooded labelling

-- a cached labelling of the corner's tile shows that the point lay below its in-tile level, and doesn't rise above it
pub record IsStillAt (side : ℕ) (labellings : List HeldLabelling) (h : NewHeight) (t : ℕ) (c : Corner) : Type 0 where
  pub labelling : TileLabelling
  pub held : IsHeldAt labellings t labelling
  pub index : ℕ
  pub point : IsIndexOf side c h.point index
  pub below : IsBelow labelling index h.was h.metres

-- the point doesn't reach tile t, or a cached labelling shows that the tile's levels stay
abbrev pub KeepsSummary : ℕ → List Corner → List HeldLabelling → NewHeight → ℕ → Type 0
KeepsSummary side corners labellings h t = (is_reached side corners h.point h.point t ≡ false) ⊎ ((t < length corners) × IsStillAt side labellings h t (corner_at corners t))

-- only two kinds of results are dropped: summaries of tiles that the point reaches and where levels may change, and
-- labellings of tiles that have the point and can't be mended
pub record IsNotedOf (h : NewHeight) (known known' : Known) : Type 0 where
  pub same_side : known'.side ≡ known.side
  pub same_corners : known'.corners ≡ known.corners
  pub whole : length known'.loaded ≡ length known.loaded
  pub loaded : (t : ℕ) (ways : TileGraph) → loaded_at known'.loaded t ≡ Some ways ↔ ((loaded_at known.loaded t ≡ Some ways) × KeepsSummary known.side known.corners known.labellings h t)
  pub labellings : (t : ℕ) → t < length known.corners → holds known.side (corner_at known.corners t) h.point ≡ false → (labelling : TileLabelling) → IsHeldAt known'.labellings t labelling ↔ IsHeldAt known.labellings t labelling
  pub mended : (t : ℕ) → t < length known.corners → (labelling : TileLabelling) → IsHeldAt known.labellings t labelling → can_note labelling ≡ true → IsHeldStill known'.labellings t labelling
  pub same_levels : known'.levels ≡ known.levels

-- the point may have the height h. `noted` says whether the labelling records this, or doesn't have to; if not, the labelling
-- has to be dropped
pub record IsNoted (side : ℕ) (corners : List Corner) (h : NewHeight) (held : HeldLabelling) (noted : Bool) (held' : HeldLabelling) : Type 0 where
  pub same_place : held'.place ≡ held.place
  pub same_block : has_block held' ≡ has_block held
  pub right : IsTrue noted → (m new : Mosaic) → DifferAt m new h.point → IsSetFrom m new h.point h.was h.metres → m.side ≡ side → IsTileLabelling m (corner_at corners held.place) held.labelling → IsTileLabelling new (corner_at corners held.place) held'.labelling
  pub kept : held.place < length corners → holds side (corner_at corners held.place) h.point ≡ false → IsTrue noted × (held'.labelling ≡ held.labelling)
  pub mended : held.place < length corners → can_note held.labelling ≡ true → IsTrue noted
  pub same_labelled : IsTrue noted → labelled_of held'.labelling ≡ labelled_of held.labelling
