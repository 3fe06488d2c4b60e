-- Nine levels in three rows: those of a point and of its eight neighbours.
use Rattle.std.proofs.Common.{rules}
use Rattle.flow_d8.proofs.Prelude.{Dir, East, IsShown, MatchOption, North, NorthEast, NorthWest, Option, Point, South, SouthEast, SouthWest, Terrain, West, ℤ, [], beside_of, if◌then◌else◌, level_beside, place_by, slice_index_or, void, ◌∷◌, ◌≡◌}

module _ (t : Terrain Point) (level : Point → ℤ) (p : Point) where
  pub rows_shown : (nw n ne w here e sw s se : ℤ) → here ≡ (if t.is_ground p then level p else void) → nw ≡ level_beside t level p NorthWest → n ≡ level_beside t level p North → ne ≡ level_beside t level p NorthEast
      → w ≡ level_beside t level p West → e ≡ level_beside t level p East → sw ≡ level_beside t level p SouthWest → s ≡ level_beside t level p South → se ≡ level_beside t level p SouthEast
      → IsShown t level (nw ∷ n ∷ ne ∷ w ∷ here ∷ e ∷ sw ∷ s ∷ se ∷ []) 3 p 4
  rows_shown nw n ne w here e sw s se is_here is_nw is_n is_ne is_w is_e is_sw is_s is_se = record { here = is_here; around = λ _. each }
    where
      each : (d : Dir) → slice_index_or (nw ∷ n ∷ ne ∷ w ∷ here ∷ e ∷ sw ∷ s ∷ se ∷ []) (place_by 3 4 d) void ≡ level_beside t level p d
      each East = is_e
      each SouthEast = is_se
      each South = is_s
      each SouthWest = is_sw
      each West = is_w
      each NorthWest = is_nw
      each North = is_n
      each NorthEast = is_ne

  -- the level of the neighbour, or void if there is none
  pub beside_read : (d : Dir) (found : Option ℤ) (v : ℤ) → found ≡ beside_of t level p d → MatchOption found (v ≡ void) (λ w. v ≡ w) → v ≡ level_beside t level p d
  beside_read d found v is read = search rules
