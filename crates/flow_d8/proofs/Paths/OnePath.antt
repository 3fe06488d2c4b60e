-- A flow path has no point twice, and no more points than the present tiles have samples.
use Rattle.std.proofs.Common.{◌≡◌, ◌≢◌, ◌⊎◌, ⊎_elim, ℕ, zero, suc, ◌+◌, ◌*◌, ◌<◌, ◌≤◌, ℤ, pos, ◌&&◌, IsTrue, List, [], ◌∷◌, ◌++◌, length, map, get_or, Contains, eqb, refl, sym, ap, ◌∙◌, subst, arith, true, true≢false, length-append}
use Rattle.flow_d8.proofs.Prelude.{AllPairs, AreFilledLevels, Corner, IsFlowPath, IsFollowed, IsGrid, IsMosaic, Mosaic, Point, Terrain, held, holds, is_ground, list_any, step, terrain, void}
use Rattle.std.proofs.lemmas.Bool.Decides.{Decides-eqb, eqb_tells}
use Rattle.std.proofs.lemmas.List.{get_or-map, length-map, get_or_append_left, get_or_at}
use Rattle.std.proofs.lemmas.Map.Made.{IsDistinct-from_AllPairs}
use Rattle.std.proofs.lemmas.Map.Steps.{length-le_from_distinct_below}
use Rattle.std.proofs.lemmas.Map.Views.{Contains-from_any}
use Rattle.flow_d8.specs.Filled.{is_holder, is_held, number_of}
use Rattle.flow_d8.specs.PresentTiles.{corners_of, sample_count}
use Rattle.flow_d8.proofs.Mosaics.FilledOf.{any_corner}
use Rattle.water.proofs.FlowPaths.{one_flow_path, flow_path_exists}
use Rattle.water.proofs.Following.{drains_to_ground}
use Rattle.water.proofs.MosaicGrid.{mosaic_is_grid}
use Rattle.flow_d8.proofs.Samples.Numbers.{number_below, number_injective}

module _ (t : Terrain Point) (level : Point → ℤ) where
  -- the rest of a flow path from one of its points is that point's flow path
  from_point : (x : Point) (path : List Point) → IsFlowPath t level x path → (k : ℕ) (d : Point) → k < length path → (rest : List Point) × (IsFlowPath t level (get_or path k d) rest × (length rest + k ≡ length path))
  from_point x [] is k d small = absurd is
  from_point x (y ∷ []) is zero d small = (y ∷ [], (subst (λ q. IsFlowPath t level q (y ∷ [])) (sym is.0) is, omega arith))
  from_point x (y ∷ []) is (suc k) d small = absurd (omega arith)
  from_point x (y ∷ z ∷ rest) is zero d small = (y ∷ z ∷ rest, (subst (λ q. IsFlowPath t level q (y ∷ z ∷ rest)) (sym is.0) is, omega arith))
  from_point x (y ∷ z ∷ rest) is (suc k) d small = let later = from_point (step is.1.0 x) (z ∷ rest) is.1.1.1.1 k d (omega arith) in (later.0, (later.1.0, omega (arith, later.1.1)))

  pub no_point_twice : (x : Point) (path : List Point) → IsFlowPath t level x path → AllPairs (λ p q. p ≢ q) path
  no_point_twice x path is i j d before within same =
      let first = from_point x path is i d (omega arith) in
      let again = from_point x path is j d within in
      let one = one_flow_path t level (get_or path j d) first.0 again.0 (subst (λ q. IsFlowPath t level q first.0) same first.1.0) again.1.0 in
      absurd (omega (arith, ap length one, first.1.1, again.1.1))

  -- a flow path begins with its point
  begins : (x : Point) (path : List Point) → IsFlowPath t level x path → (rest : List Point) × (path ≡ x ∷ rest)
  begins x [] is = absurd is
  begins x (y ∷ []) is = ([], ap (λ q. q ∷ []) is.0)
  begins x (y ∷ z ∷ rest) is = (z ∷ rest, ap (λ q. q ∷ z ∷ rest) is.0)

module _ (t : Terrain Point) (grid : IsGrid t void) (level : Point → ℤ) where
  pub ground_along : (x : Point) (path : List Point) → IsTrue (t.is_ground x) → IsFlowPath t level x path → (k : ℕ) (d : Point) → k < length path → IsTrue (t.is_ground (get_or path k d))
  ground_along x [] solid is k d small = absurd is
  ground_along x (y ∷ []) solid is zero d small = subst (λ q. IsTrue (t.is_ground q)) (sym is.0) solid
  ground_along x (y ∷ []) solid is (suc k) d small = absurd (omega arith)
  ground_along x (y ∷ z ∷ rest) solid is zero d small = subst (λ q. IsTrue (t.is_ground q)) (sym is.0) solid
  ground_along x (y ∷ z ∷ rest) solid is (suc k) d small = ground_along (step is.1.0 x) (z ∷ rest) (drains_to_ground t grid.lawful level x is.1.0 is.1.1.0) is.1.1.1.1 k d (omega arith)

module _ (n : ℕ) (corners : List Corner) (side : 3 ≤ n) where
  number : Point → ℕ
  number p = number_of n corners p

  -- distinct points that tiles hold are at most as many as the tiles' samples
  pub no_more_than_samples : (path : List Point) → AllPairs (λ p q. p ≢ q) path → ((k : ℕ) (d : Point) → k < length path → IsTrue (is_held n corners (get_or path k d))) → length path ≤ length corners * (n * n)
  unfolding number
  no_more_than_samples path once in_tile =
      subst (λ k. k ≤ length corners * (n * n)) (length-map path number)
      (length-le_from_distinct_below (map number path) (length corners * (n * n)) (IsDistinct-from_AllPairs Decides-eqb (map number path) apart) below)
    where
      p0 : Point
      p0 = record { y = pos 0; x = pos 0 }

      apart : AllPairs (λ a b. a ≢ b) (map number path)
      apart i j d before within same =
          let small : j < length path = omega (arith, within, length-map path number) in
          let less : i < length path = omega arith in
          once i j p0 before small (number_injective n corners (get_or path i p0) (get_or path j p0) side (in_tile i p0 less) (in_tile j p0 small)
          (sym (get_or-map number path i p0 d less) ∙ same ∙ get_or-map number path j p0 d small))

      below : (q : ℕ) → list_any (eqb q) (map number path) ≡ true → q < length corners * (n * n)
      below q any =
          let at = Contains-from_any (λ a b e. ⊎_elim (λ yes. yes.1) (λ no. absurd (true≢false (sym e ∙ no.0))) (eqb_tells a b)) q (map number path) any in
          let small : at.0 < length path = omega (arith, at.1, length-map path number) in
          subst (λ k. k < length corners * (n * n)) (sym (get_or-map number path at.0 p0 q small) ∙ at.2) (number_below n corners (get_or path at.0 p0) side (in_tile at.0 p0 small))

module _ (m : Mosaic) (is : IsMosaic m) (level : Point → ℤ) (filled : AreFilledLevels (terrain m) level) where
  -- a path that continues to a point doesn't have the point yet, and is shorter than the number of samples
  pub goes_on_in : (n : ℕ) (corners : List Corner) → 3 ≤ n → ((p : Point) → IsTrue (is_ground m p) → IsTrue (is_held n corners p)) → (first to : Point) (path : List Point) → IsTrue (is_ground m first)
      → IsFollowed (terrain m) level first to (path ++ to ∷ []) → Contains path to ⊎ (length corners * (n * n) ≤ length path) → ⊥
  goes_on_in n corners side in_tile first to path solid so_far why =
      let grid = mosaic_is_grid m is in
      let on = flow_path_exists (terrain m) void grid level filled to so_far.solid in
      let rest = begins (terrain m) level to on.0 on.1 in
      let all = (path ++ to ∷ []) ++ rest.0 in
      let whole = so_far.leads rest.0 (subst (IsFlowPath (terrain m) level to) rest.1 on.1) in
      let once = no_point_twice (terrain m) level first all whole in
      let few = no_more_than_samples n corners side all once (λ k d small. in_tile (get_or all k d) (ground_along (terrain m) grid level first all solid whole k d small)) in
      let longer : length (path ++ to ∷ []) ≡ length path + 1 = length-append path (to ∷ []) in
      let longest = length-append (path ++ to ∷ []) rest.0 in
      ⊎_elim
      (λ has.
      once has.0 (length path) to has.1 (omega (arith, longer, longest))
      (get_or_append_left (path ++ to ∷ []) rest.0 to has.0 (omega (arith, has.1, longer)) ∙ get_or_append_left path (to ∷ []) to has.0 has.1 ∙ has.2
      ∙ sym (get_or_append_left (path ++ to ∷ []) rest.0 to (length path) (omega (arith, longer)) ∙ get_or_at path to [] to (length path) refl)))
      (λ full. absurd (omega (arith, full, few, longer, longest)))
      why

  ground_held : (p : Point) → IsTrue (is_ground m p) → IsTrue (is_held m.side (corners_of m) p)
  ground_held p solid = any_corner (λ c. is_holder m.side c p) (λ c. holds m.side c p) m.side m.tiles is.tiles (λ c corner. ap (λ b. b && holds m.side c p) corner) ∙ held m.side p m.tiles solid

  pub goes_on : (first to : Point) (path : List Point) → IsTrue (is_ground m first) → IsFollowed (terrain m) level first to (path ++ to ∷ []) → Contains path to ⊎ (sample_count m ≤ length path) → ⊥
  goes_on = goes_on_in m.side (corners_of m) is.side_low ground_held
