-- No link has a level below -32768, the sample of a void.
use Rattle.border_graph.proofs.Prelude.{AreOfMosaic, AreSummaries, IsInnerLink, IsLink, IsMosaic, IsPlacedLink, IsSpillLink, IsThere, List, Mosaic, Node, Outlet, Rim, Summary, ℕ, ℤ, inl, inr, int_max, le-max_right, length, linked_parts, lowest_height, rim_point, slice_index_or, subst, summary_at, sym, void, ≤ℤ_trans, ◌<◌, ◌≤ℤ◌}
use Rattle.border_graph.proofs.Joined.{of, at_node, height-le_level_at, spill_of}

module _ (m : Mosaic) (is : IsMosaic m) (summaries : List Summary) (all : AreSummaries m summaries) where
  low_height : (t k : ℕ) → IsThere m.side summaries t k → void ≤ℤ (rim_point (summary_at summaries t) k).height
  low_height t k here =
      let o = of m is summaries all t here.tile in
      let a = at_node m is summaries all t here.tile k here in
      subst (λ v. void ≤ℤ v) (sym a.height) (lowest_height m is (summary_at summaries t).corner o.heights o.block.heights a.e)

  low_spill : (t : ℕ) → t < length summaries → (a b : ℕ) (level : ℤ) → IsSpillLink m.side summaries t a b level → void ≤ℤ level
  low_spill t small a b level has =
      let o = of m is summaries all t small in
      let meets = (spill_of m is summaries all t small a b level has).meets in
      let e = meets.points.0 in
      let f = meets.points.1 in
      let both = linked_parts m.side o.heights e f meets.points.2.0 in
      let low : void ≤ℤ slice_index_or o.levels f void = ≤ℤ_trans void (slice_index_or o.heights f void) (slice_index_or o.levels f void) (lowest_height m is (summary_at summaries t).corner o.heights o.block.heights f) (height-le_level_at m is summaries all t small f both.to) in
      subst (λ v. void ≤ℤ v) meets.points.2.1.1.1
      (≤ℤ_trans void (slice_index_or o.levels f void) (int_max (slice_index_or o.levels e void) (slice_index_or o.levels f void)) low (le-max_right (slice_index_or o.levels e void) (slice_index_or o.levels f void)))

  low_inner : (t k l : ℕ) (level : ℤ) → IsThere m.side summaries t k → IsThere m.side summaries t l → IsInnerLink m.side summaries t k l level → void ≤ℤ level
  low_inner t k l level here there (inl label) = subst (λ v. void ≤ℤ v) label.height (low_height t k here)
  low_inner t k l level here there (inr (inl label)) = subst (λ v. void ≤ℤ v) label.height (low_height t l there)
  low_inner t k l level here there (inr (inr (inl spill))) = low_spill t here.tile k l level spill
  low_inner t k l level here there (inr (inr (inr spill))) = low_spill t here.tile l k level spill

  low_link : (x y : Node) (level : ℤ) → IsLink m.side summaries x y level → void ≤ℤ level
  low_link Outlet y level link = absurd link
  low_link (Rim t k) Outlet level (here, inl out) = subst (λ v. void ≤ℤ v) out.height (low_height t k here)
  low_link (Rim t k) Outlet level (here, inr (inl label)) = subst (λ v. void ≤ℤ v) label.height (low_height t k here)
  low_link (Rim t k) Outlet level (here, inr (inr spill)) = low_spill t here.tile k 0xFFFF level spill
  low_link (Rim t k) (Rim u l) level (here, (there, inl inner)) = low_inner t k l level here (subst (λ v. IsThere m.side summaries v l) (sym inner.0) there) inner.1
  low_link (Rim t k) (Rim u l) level (here, (there, inr shared)) = subst (λ v. void ≤ℤ v) shared.height (low_height t k here)

-- no link between node numbers is below the void
pub low_placed : (n : ℕ) (summaries : List Summary) → AreOfMosaic n summaries → (x y : ℕ) (level : ℤ) → IsPlacedLink n summaries x y level → void ≤ℤ level
low_placed n summaries of x y level link =
    low_link of.mosaic of.is summaries of.all (Rim link.tile link.number) link.to level (subst (λ v. IsLink v summaries (Rim link.tile link.number) link.to level) of.side link.link)
