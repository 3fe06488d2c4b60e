-- Tiles at hand stay right as samples are read, and what can't be on a mosaic.
use Rattle.drainage.proofs.Prelude.{AreDistinct, Contains, Corner, CrossesFlat, Drains, Flow, Ghosts, Holds, IsAtHand, IsGridOf, IsHeldByNone, IsMosaic, IsTrue, List, Mosaic, OnGround, OnlyReads, Point, Refusal, Result, Tiles, ℕ, arith, corners_of, get_or, is_ground, length, mosaic_is_full, mosaic_is_grid, no_corner, subst, sym, terrain, true≢false, void, ◌<◌, ◌∙◌, ◌≡◌, ◌≤◌}
use Rattle.water.proofs.Exists.{distance_exists}
use Rattle.levels.proofs.Caches.Holders.{no_ground}
use Rattle.drainage.proofs.Questions.LevelFunctions.{level_function}

module _ {S : Type 0} (g : Ghosts S) (a b : S) where
  pub ground_still : {T : Type 0} (result : Result T Refusal) (p : Point) → OnlyReads g a b result → (g.is_honest a → IsTrue (is_ground (g.mosaic a) p)) → g.is_honest b → IsTrue (is_ground (g.mosaic b) p)
  ground_still result p reads ground honest = subst (λ (m : Mosaic). IsTrue (is_ground m p)) (sym (reads.mosaic honest)) (ground (reads.honest honest))

module _ (m : Mosaic) (is : IsMosaic m) (n : ℕ) (side : m.side ≡ n) (corners : List Corner) (all : corners_of m ≡ corners) (p : Point) where
  -- some present tile holds each ground point
  pub some_holds : IsTrue (is_ground m p) → IsHeldByNone n corners p → ⊥
  some_holds ground none = true≢false (sym ground ∙ no_ground m p is (subst (λ k. IsHeldByNone k (corners_of m) p) (sym side) (subst (λ (cs : List Corner). IsHeldByNone n cs p) (sym all) none)))

-- what is said of each ground that the flows are so of is so on the mosaic
pub met_ground : (m : Mosaic) → IsMosaic m → (tiles : Tiles) (flows : List Flow) (p : Point) → IsGridOf m tiles flows → OnGround tiles flows (λ t level. IsTrue (t.is_ground p)) → IsTrue (is_ground m p)
met_ground m is tiles flows p right ground = let levels = level_function m is in ground (terrain m) levels.0 (mosaic_is_full m is) (right.told levels.0 levels.1)

-- once a flat is resolved, its points drain
pub settled : (m : Mosaic) → IsMosaic m → (tiles : Tiles) (flows : List Flow) (p : Point) (flow : Flow) → IsGridOf m tiles flows → IsTrue (is_ground m p)
    → OnGround tiles flows (λ t level. IsTrue (t.is_ground p) → (j : ℕ) → CrossesFlat t level p j → Drains flow) → Drains flow
settled m is tiles flows p flow right ground drains =
    let levels = level_function m is in
    let crosses = distance_exists (terrain m) void (mosaic_is_grid m is) levels.0 levels.1 p ground in
    drains (terrain m) levels.0 (mosaic_is_full m is) (right.told levels.0 levels.1) ground crosses.0 crosses.1.crosses
