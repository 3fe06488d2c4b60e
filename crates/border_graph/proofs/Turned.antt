-- A link between rim points has an opposite one at the same level.
use Rattle.border_graph.proofs.Prelude.{AreOfMosaic, AreSummaries, IsInnerLink, IsLink, IsMosaic, IsPlacedLink, IsRimNumberOf, List, Mosaic, Node, Outlet, Point, Rim, Summary, ℕ, ℤ, ap, arith, height_of, inl, inr, length, metres, node_number, rim_point, subst, summary_at, sym, ◌*◌, ◌+◌, ◌-◌, ◌<◌, ◌∙◌, ◌≡◌}
use Rattle.border_graph.proofs.Joined.{of}
use Rattle.border_graph.proofs.SearchSteps.{IsTwoWay}
use Rattle.border_graph.proofs.Told.{inner_turned}

module _ (m : Mosaic) (is : IsMosaic m) (summaries : List Summary) (all : AreSummaries m summaries) where
  -- the height of a rim point is that of its point in the mosaic
  pub height_there : (t k : ℕ) (p : Point) → t < length summaries → IsRimNumberOf m.side (summary_at summaries t).corner k p → (rim_point (summary_at summaries t) k).height ≡ metres (height_of m p)
  height_there t k p small at =
      let o = of m is summaries all t small in
      ap (λ j. (rim_point (summary_at summaries t) j).height) (sym at.number) ∙ (o.rim.height at.index at.small at.rim ∙ (o.block.heights.values at.index at.small ∙ ap (λ q. metres (height_of m q)) at.point))

  link_turned : (t k u l : ℕ) (level : ℤ) → IsLink m.side summaries (Rim t k) (Rim u l) level → IsLink m.side summaries (Rim u l) (Rim t k) level
  link_turned t k u l level (here, (there, inl inner)) = (there, (here, inl (sym inner.0, subst (λ v. IsInnerLink m.side summaries v l k level) inner.0 (inner_turned m.side summaries t k l level inner.1))))
  link_turned t k u l level (here, (there, inr shared)) = (
    there,
    (
      here,
      inr (record {
        apart = λ same. shared.apart (sym same);
        point = shared.point;
        here = shared.there;
        there = shared.here;
        height = height_there u l shared.point there.tile shared.there ∙ (sym (height_there t k shared.point here.tile shared.here) ∙ shared.height);
      }),
    ),
  )

  placed_turned : (x y : ℕ) (level : ℤ) → 0 < y → IsPlacedLink m.side summaries x y level → IsPlacedLink m.side summaries y x level
  placed_turned x y level some placed = by placed.tile placed.number placed.to placed.starts placed.ends placed.link
    where
      by : (t k : ℕ) (to : Node) → x ≡ node_number m.side (Rim t k) → y ≡ node_number m.side to → IsLink m.side summaries (Rim t k) to level → IsPlacedLink m.side summaries y x level
      by t k Outlet starts ends link = absurd (omega arith)
      by t k (Rim u l) starts ends link = record { tile = u; number = l; to = Rim t k; starts = ends; ends = starts; link = link_turned t k u l level link }

-- the links between the rim points of a mosaic are two-way
pub two_way : (n : ℕ) (summaries : List Summary) → AreOfMosaic n summaries → IsTwoWay (IsPlacedLink n summaries)
two_way n summaries of = record {
  back = subst (λ v. (x y : ℕ) (level : ℤ) → 0 < y → IsPlacedLink v summaries x y level → IsPlacedLink v summaries y x level) (sym of.side) (placed_turned of.mosaic of.is summaries of.all);
  last = λ y level link. none (link.tile * (4 * (n - 1))) link.number link.starts;
}
  where
    none : (a k : ℕ) → 0 ≡ 1 + a + k → ⊥
    none a k h = absurd (omega arith)
