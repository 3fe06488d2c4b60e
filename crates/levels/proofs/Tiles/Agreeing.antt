-- If the cached results are right, the summaries of all tiles agree with them.
use Rattle.levels.proofs.Prelude.{Agrees, IsJoinedLevel, IsMosaic, IsPlacedLink, IsRight, IsRimLevel, Known, Mosaic, ℕ, ℤ, subst, sym}
use Rattle.levels.proofs.Tiles.RimNodes.{joined_by_filled}
use Rattle.levels.proofs.Tiles.Whole.{summaries, all_fit}

module _ (m : Mosaic) (is : IsMosaic m) (known : Known) (right : IsRight m known) where
  pub joined_at : (x : ℕ) (level : ℤ) → IsRimLevel m known.corners x level → IsJoinedLevel (IsPlacedLink m.side (summaries m is known.side known.corners known.loaded right.ready)) 0 x level
  joined_at x level r =
      subst (λ y. IsJoinedLevel (IsPlacedLink m.side (summaries m is known.side known.corners known.loaded right.ready)) 0 y level) (sym r.node)
      (joined_by_filled m is known.side known.corners known.loaded right.ready r.tile r.number r.index r.place r.rim r.on_ground level r.filled)

  pub all_agree : Agrees known m.side (summaries m is known.side known.corners known.loaded right.ready)
  all_agree = record {
    fits = all_fit m is known.side known.corners known.loaded right.ready;
    knows = λ x level is_known. joined_at x level (right.levels x level is_known);
  }
