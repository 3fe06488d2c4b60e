-- The labelling of a tile when the height of one point may change.
use Rattle.levels.proofs.Prelude.{Corner, DifferAt, Holds, IsIndexOf, IsTrue, Mosaic, Point, TileLabelling, ℕ, ℤ, ap, false, false_from_ne_true, false≢true, holds, index_of, is_between, is_corner, point_of, refl, some_side, subst, sym, true, ◌<◌, ◌∙◌, ◌≡◌, ◌≤◌}
use Rattle.std.specs.Prelude.{Option, Some, None, IsSome, IfSome, IfNone}
use Rattle.lattice.proofs.Samples.{index_of_point_is, holds_is}
use Rattle.tile_labellings.specs.TileLabellings.{IsTileLabelling, IsSetFrom, DifferAt as DifferAtIndex}
use Rattle.levels.proofs.Questions.Asked.{is_at}
use Rattle.levels.proofs.Changes.Reached.{between_itself}
use Rattle.levels.proofs.Changes.Unreached.{held_by_index, tile_still}

pub held_there : (found : Option ℕ) (n : ℕ) (c : Corner) (p : Point) → 3 ≤ n → IsTrue (is_corner c) → (IsSome found → Holds n c p) → IfSome found (λ e. IsIndexOf n c p e)
    → IfSome found (λ e. IsIndexOf n c p e × (holds n c p ≡ true))
held_there None n c p side corner held index = tt
held_there (Some e) n c p side corner held index = (index, (holds_is n c p side corner).1 (held refl))

pub held_not : (found : Option ℕ) (n : ℕ) (c : Corner) (p : Point) → 3 ≤ n → IsTrue (is_corner c) → (Holds n c p → IsSome found) → IfNone found (holds n c p ≡ false)
held_not (Some e) n c p side corner has = tt
held_not None n c p side corner has = false_from_ne_true (holds n c p) (λ held. let none = has ((holds_is n c p side corner).0 held) in absurd (cc))

module _ (m new : Mosaic) (p : Point) (differ : DifferAt m new p) (c : Corner) where
  -- the tile has the point
  pub differ_at_index : (n e : ℕ) → n ≡ m.side → IsIndexOf n c p e → DifferAtIndex c e m new
  differ_at_index n e same index =
      let at = is_at m c n p e same index in
      let some : 0 < m.side = some_side m.side e at.below in
      record {
        side = differ.around.same_side;
        heights = λ z small other. differ.around.heights (point_of m.side c z) (false_from_ne_true (is_between p p (point_of m.side c z)) (λ within.
            other (sym (index_of_point_is m.side c z some index.corner small) ∙ (ap (index_of m.side c) (sym (between_itself p (point_of m.side c z) within) ∙ sym at.point) ∙ index_of_point_is m.side c e some index.corner at.below))));
        sinks = λ z small. differ.all_sinks (point_of m.side c z);
      }

  pub set_at_index : (n e : ℕ) (was is : ℤ) → n ≡ m.side → IsIndexOf n c p e → IsSetFrom m new p was is → IsSetFrom m new (point_of m.side c e) was is
  set_at_index n e was is same index = subst (λ q. IsSetFrom m new q was is) (sym (is_at m c n p e same index).point)

  -- the tile doesn't have the point
  pub labelling_elsewhere : (n : ℕ) → n ≡ m.side → holds n c p ≡ false → (labelling : TileLabelling) → IsTileLabelling m c labelling → IsTileLabelling new c labelling
  labelling_elsewhere n same out =
      tile_still m new c differ.around.same_side
      (λ z small. differ.around.heights (point_of m.side c z) (false_from_ne_true (is_between p p (point_of m.side c z)) (λ within.
      false≢true (sym out ∙ (ap (λ k. holds k c p) same ∙ (ap (holds m.side c) (between_itself p (point_of m.side c z) within) ∙ held_by_index m.side c z small))))))
      (λ z small. differ.all_sinks (point_of m.side c z))
