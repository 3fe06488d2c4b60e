-- The level of a rim point, computed and then cached.
use Rattle.std.proofs.Common.{◌≡◌, ◌∙◌, ℕ, ◌+◌, ◌*◌, ◌-◌, ◌<◌, ◌==◌, ◌⊎◌, Contains, inl, inr, ℤ, cond, List, length, sym, ap, subst}
use Rattle.levels.proofs.Prelude.{Agrees, Corner, Ghosts, IsGroundNode, IsGrown, IsJoinedLevel, IsMosaic, IsPlacedLink, IsRight, IsRimLevel, IsWayBelow, Known, Mosaic, Option, Rim, Some, Summary, eqb_tells, level_of, node_number}
use Rattle.levels.proofs.Tiles.Agreeing.{all_agree}
use Rattle.levels.proofs.Tiles.RimNodes.{filled_by_joined, rim_level_of, way_out}
use Rattle.levels.proofs.Tiles.Whole.{summaries}

-- results stay right with one more level
pub right_more : (m : Mosaic) (known : Known) (levels : List (Option ℤ)) (node : ℕ) (level : ℤ) → ((x : ℕ) → level_of levels x ≡ cond (node == x) (Some level) (level_of known.levels x)) → IsRimLevel m known.corners node level → IsRight m known
    → IsRight m (record { side = known.side; corners = known.corners; loaded = known.loaded; labellings = known.labellings; levels = levels })
right_more m known levels node level more rim right = record {
  ready = right.ready;
  labellings = right.labellings;
  levels = λ x l is. elim (eqb_tells node x) [
    | inl same ↦ by x l same.1 (ap (λ b. cond b (Some level) (level_of known.levels x)) (sym same.0) ∙ (sym (more x) ∙ is))
    | inr other ↦ right.levels x l (ap (λ b. cond b (Some level) (level_of known.levels x)) (sym other.0) ∙ (sym (more x) ∙ is))
  ];
}
  where
    by : (x : ℕ) (l : ℤ) → node ≡ x → ◌≡◌ {A = Option ℤ} (Some level) (Some l) → IsRimLevel m known.corners x l
    by x l same is = let equal : level ≡ l = cc in subst (λ y. IsRimLevel m known.corners y l) same (subst (λ v. IsRimLevel m known.corners node v) equal rim)

-- results stay right with the levels of more nodes
pub right_all : (m : Mosaic) (known : Known) (levels : List (Option ℤ)) (nodes : List ℕ) (level : ℤ)
    → ((x : ℕ) (found : ℤ) → level_of levels x ≡ Some found → (level_of known.levels x ≡ Some found) ⊎ (Contains nodes x × (found ≡ level)))
    → ((x : ℕ) → Contains nodes x → IsRimLevel m known.corners x level) → IsRight m known
    → IsRight m (record { side = known.side; corners = known.corners; loaded = known.loaded; labellings = known.labellings; levels = levels })
right_all m known levels nodes level only rim right = record {
  ready = right.ready;
  labellings = right.labellings;
  levels = λ x l is. elim (only x l is) [
    | inl before ↦ right.levels x l before
    | inr more ↦ subst (IsRimLevel m known.corners x) (sym more.1) (rim x more.0)
  ];
}

-- the search's level of a node is the filled level of its rim point
module _ {S : Type 0} (g : Ghosts S) (a b : S) (is : IsMosaic (g.mosaic a)) (known known' : Known) (grown : IsGrown g a b known known') (honest : g.is_honest b) (right : IsRight (g.mosaic a) known) (x : ℕ) (level : ℤ) where
  right_then : IsRight (g.mosaic a) known'
  right_then = grown.right honest right

  all_then : List Summary
  all_then = summaries (g.mosaic a) is known'.side known'.corners known'.loaded right_then.ready

  pub reached_later : ((n : ℕ) (all : List Summary) → Agrees known' n all → (0 < x) × IsJoinedLevel (IsPlacedLink n all) 0 x level) → IsRimLevel (g.mosaic b) known'.corners x level
  unfolding all_then
  reached_later joined =
      let found = joined (g.mosaic a).side all_then (all_agree (g.mosaic a) is known' right_then) in
      subst (λ (m : Mosaic). IsRimLevel m known'.corners x level) (sym (grown.kept.mosaic honest))
      (rim_level_of (g.mosaic a) is known'.side known'.corners known'.loaded right_then.ready x found.0 level found.1)

-- the number of a rim point's node
pub start_is : (m : Mosaic) (known : Known) (t k start : ℕ) → IsRight m known → start ≡ 1 + t * (4 * (known.side - 1)) + k → start ≡ node_number m.side (Rim t k)
start_is m known t k start right at = at ∙ ap (λ s. 1 + t * (4 * (s - 1)) + k) right.ready.same_side

module _ {S : Type 0} (g : Ghosts S) (a b : S) (is : IsMosaic (g.mosaic a)) (known known' : Known) (grown : IsGrown g a b known known') (honest : g.is_honest b) (right : IsRight (g.mosaic a) known)
    (t k : ℕ) (small : t < length known.corners) (ground : IsGroundNode (g.mosaic a) known.corners t k) (start : ℕ) (at : start ≡ 1 + t * (4 * (known.side - 1)) + k) where
  right_later : IsRight (g.mosaic a) known'
  right_later = grown.right honest right

  at_node : start ≡ node_number (g.mosaic a).side (Rim t k)
  at_node = start_is (g.mosaic a) known t k start right at

  small_later : t < length known'.corners
  small_later = subst (λ (cs : List Corner). t < length cs) (sym grown.kept.same_corners) small

  ground_later : IsGroundNode (g.mosaic a) known'.corners t k
  ground_later = subst (λ (cs : List Corner). IsGroundNode (g.mosaic a) cs t k) (sym grown.kept.same_corners) ground

  -- the level that the search finds is the filled level
  risen : (v : ℤ) → ((n : ℕ) (all : List Summary) → Agrees known' n all → IsJoinedLevel (IsPlacedLink n all) 0 start v) → IsRimLevel (g.mosaic a) known'.corners start v
  risen v joined = record {
    tile = t;
    number = k;
    index = ground_later.index;
    node = at_node;
    place = small_later;
    rim = ground_later.rim;
    on_ground = ground_later.on_ground;
    filled = filled_by_joined (g.mosaic a) is known'.side known'.corners known'.loaded right_later.ready t k ground_later.index small_later ground_later.rim ground_later.on_ground v
        (subst (λ x. IsJoinedLevel (IsPlacedLink (g.mosaic a).side (summaries (g.mosaic a) is known'.side known'.corners known'.loaded right_later.ready)) 0 x v) at_node
        (joined (g.mosaic a).side (summaries (g.mosaic a) is known'.side known'.corners known'.loaded right_later.ready) (all_agree (g.mosaic a) is known' right_later)));
  }

  pub found : (v : ℤ) → ((n : ℕ) (all : List Summary) → Agrees known' n all → IsJoinedLevel (IsPlacedLink n all) 0 start v) → IsRimLevel (g.mosaic a) known.corners (node_number (g.mosaic a).side (Rim t k)) v
  found v joined = subst (λ x. IsRimLevel (g.mosaic a) known.corners x v) at_node (subst (λ (cs : List Corner). IsRimLevel (g.mosaic a) cs start v) grown.kept.same_corners (risen v joined))

  -- the level that the search finds is the filled level, for the mosaic of the later samples
  pub found_later : (v : ℤ) → ((n : ℕ) (all : List Summary) → Agrees known' n all → IsJoinedLevel (IsPlacedLink n all) 0 start v) → IsRimLevel (g.mosaic b) known'.corners start v
  found_later v joined = subst (λ (m : Mosaic). IsRimLevel m known'.corners start v) (sym (grown.kept.mosaic honest)) (risen v joined)

  -- some path leads from the node to an outlet
  pub never : ((n : ℕ) (all : List Summary) → Agrees known' n all → (level : ℤ) (rest : List ℕ) → IsWayBelow (IsPlacedLink n all) 0 level start rest → ⊥) → ⊥
  never none = way_out (g.mosaic a) is known'.side known'.corners known'.loaded right_later.ready t k ground_later.index small_later ground_later.rim ground_later.on_ground
      (λ level rest way. none (g.mosaic a).side (summaries (g.mosaic a) is known'.side known'.corners known'.loaded right_later.ready) (all_agree (g.mosaic a) is known' right_later) level rest
      (subst (λ x. IsWayBelow (IsPlacedLink (g.mosaic a).side (summaries (g.mosaic a) is known'.side known'.corners known'.loaded right_later.ready)) 0 level x rest) (sym at_node) way))
