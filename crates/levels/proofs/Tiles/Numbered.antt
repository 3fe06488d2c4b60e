-- The edges from a node, by the node's number.
use Rattle.std.proofs.Common.{◌≡◌, ◌≢◌, ◌⊎◌, inl, inr, ℕ, ◌+◌, ◌*◌, ◌-◌, ◌/◌, ◌%◌, ◌<◌, ◌≤◌, List, [], length, pos, refl, sym, ap, ap₂, ◌∙◌, subst, arith, mod-lt}
use Rattle.levels.proofs.Prelude.{Corner, Fits, Option, Some, Summary, TileGraph, cases_eq, get_or-map, length-map, loaded_at, node_number}
use Rattle.std.proofs.lemmas.List.Sorted.{IsPermutation-refl}
use Rattle.labelling.proofs.Squares.{cell_of}
use Rattle.border_graph.specs.Joining.{Rim, AreOfMosaic, summary_at}
use Rattle.border_graph.specs.Edges.{AreEdges}
use Rattle.border_graph.specs.Others.{corner_at, AreTileEdges}
use Rattle.border_graph.specs.Reordered.{IsReordered}
use Rattle.border_graph.specs.Placed.{IsPlacedLink, IsOfTile}
use Rattle.border_graph.specs.declared.edge_source.Edge.{Edge}
use Rattle.border_graph.proofs.TileEdges.{are_edges, none_listed}

node_is : (node size : ℕ) → 0 < node → 1 + ((node - 1) / size) * size + (node - 1) % size ≡ node
node_is node size some = let cell : node - 1 ≡ ((node - 1) / size) * size + (node - 1) % size = cell_of size (node - 1) in let one : 1 + (node - 1) ≡ node = omega arith in sum (((node - 1) / size) * size) ((node - 1) % size) (node - 1) node cell one
  where
    sum : (a b c d : ℕ) → c ≡ a + b → 1 + c ≡ d → 1 + a + b ≡ d
    sum a b c d h one = omega arith

rim_some : (n : ℕ) → 3 ≤ n → 0 < 4 * (n - 1)
rim_some n low = omega arith

-- the summaries are those of a mosaic
pub of_fits : {side : ℕ} {corners : List Corner} {loaded : List (Option TileGraph)} {n : ℕ} {summaries : List Summary} → Fits side corners loaded n summaries → AreOfMosaic n summaries
of_fits fits = record { mosaic = fits.mosaic; is = fits.is; all = fits.all; side = fits.whole }

module _ (side : ℕ) (corners : List Corner) (loaded : List (Option TileGraph)) (n : ℕ) (summaries : List Summary) (fits : Fits side corners loaded n summaries) (node r r' : ℕ) (some : 0 < node) (low : 3 ≤ side) (is_r : r ≡ 4 * (side - 1)) (is_r' : r' ≡ 4 * (side - 1)) where
  many : length corners ≡ length summaries
  many = ap length (sym fits.same_corners) ∙ length-map summaries (λ (b : Summary). b.corner)

  corner_is : (t : ℕ) → corner_at corners t ≡ (summary_at summaries t).corner
  corner_is t = ap (λ (cs : List Corner). corner_at cs t) (sym fits.same_corners) ∙ get_or-map (λ (b : Summary). b.corner) summaries t (record { corner = record { lat = pos 0; lon = pos 0 }; rim = []; spills = [] })

  -- the number is that of a rim point's node
  of_tile : node ≡ node_number n (Rim ((node - 1) / r) ((node - 1) % r'))
  of_tile =
      let size : 4 * (n - 1) ≡ 4 * (side - 1) = ap (λ s. 4 * (s - 1)) fits.same_side in
      sym (ap (λ s. 1 + ((node - 1) / r) * s + (node - 1) % r') size ∙ (ap₂ (λ a b. 1 + ((node - 1) / a) * (4 * (side - 1)) + (node - 1) % b) is_r is_r' ∙ node_is node (4 * (side - 1)) some))

  number : (node - 1) % r' < 4 * (n - 1)
  number = subst (λ s. (node - 1) % r' < 4 * (s - 1)) (sym fits.same_side) (subst (λ s. (node - 1) % r' < s) is_r' (mod-lt (node - 1) (subst (λ s. 0 < s) (sym is_r') (rim_some side low))))

  -- a node of a tile that doesn't exist has no edges
  pub no_ways : length corners ≤ (node - 1) / r → (into : List Edge) → into ≡ [] → AreEdges (IsPlacedLink n summaries) node into
  no_ways past = none_listed n summaries node ((node - 1) / r) ((node - 1) % r') number of_tile (let whole = many in omega arith)

  -- the listed edges are those from the node, if its tile is loaded
  pub told_ways : (ways : TileGraph) → loaded_at loaded ((node - 1) / r) ≡ Some ways → (node - 1) / r < length corners → (old new : List Edge) → old ≡ [] → AreTileEdges side corners ways ((node - 1) / r) ((node - 1) % r') old new → AreEdges (IsPlacedLink n summaries) node new
  told_ways ways is small old new empty listed =
      let t = (node - 1) / r in
      let k = (node - 1) % r' in
      let agree = fits.agree t ways is in
      let equal : side ≡ n = sym fits.same_side in
      let here : AreTileEdges n corners ways ((node - 1) / r) ((node - 1) % r') [] new = subst (λ s. AreTileEdges s corners ways ((node - 1) / r) ((node - 1) % r') [] new) equal (subst (λ (l : List Edge). AreTileEdges side corners ways ((node - 1) / r) ((node - 1) % r') l new) empty listed) in
      let same : IsReordered (summary_at summaries ((node - 1) / r)) ways.summary = subst (IsReordered (summary_at summaries ((node - 1) / r))) agree.1 (record { corner = refl; rim = refl; spills = IsPermutation-refl (summary_at summaries ((node - 1) / r)).spills }) in
      subst (λ x. AreEdges (IsPlacedLink n summaries) x new) (sym of_tile)
      (are_edges n summaries (of_fits fits) corners many (λ u _. corner_is u) t k (subst (λ v. t < v) many small) number ways same new here)

  -- loading one tile loads no other
  pub told_of : (before : List (Option TileGraph)) → ((u : ℕ) (ways : TileGraph) → u ≢ (node - 1) / r → loaded_at loaded u ≡ Some ways → loaded_at before u ≡ Some ways)
      → (u : ℕ) → ((ways : TileGraph) × (loaded_at loaded u ≡ Some ways)) → ((ways : TileGraph) × (loaded_at before u ≡ Some ways)) ⊎ IsOfTile n u node
  told_of before only u (ways, is) = elim (cases_eq u ((node - 1) / r)) [
    | inl here ↦ inr ((node - 1) % r', of_tile ∙ ap (λ v. node_number n (Rim v ((node - 1) % r'))) (sym here))
    | inr other ↦ inl (ways, only u ways other is)
  ]
