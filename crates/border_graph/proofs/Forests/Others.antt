-- The edges to the same point of other tiles, corner by corner.
use Rattle.std.proofs.Common.{◌≡◌, ◌≢◌, ℕ, ◌+◌, ◌*◌, ◌-◌, ◌^◌, ◌<◌, ◌≤◌, ◌⊎◌, inl, inr, ℤ, List, [], ◌∷◌, ◌++◌, length, get_or, refl, sym, ap, ◌∙◌, subst, arith, Contains, None, Some, mul-le-mul_right}
use Rattle.border_graph.proofs.Prelude.{AddsOthers, Corner, Edge, Point, Rim, cases_lt, corner_at, get_or_default, held_at, index_unique, node_number, rim_number}
use Rattle.lattice.specs.Lattice.{Holds, IsIndexOf}
use Rattle.border_graph.specs.Others.{AreApart, AreTooMany, IsToOther, IsOtherListed, IsOtherNode}
use Rattle.border_graph.proofs.Listing.{still_more, last_has, before_or_last}

-- a node number that is too large means that there are too many rim points
pub too_many : (n : ℕ) (corners : List Corner) (u l : ℕ) → u < length corners → l < 4 * (n - 1) → 2 ^ 32 ≤ 1 + u * (4 * (n - 1)) + l → AreTooMany n corners
too_many n corners u l small number past =
    let row : (u + 1) * (4 * (n - 1)) ≤ length corners * (4 * (n - 1)) = mul-le-mul_right (4 * (n - 1)) (omega arith) in
    within (u * (4 * (n - 1))) (4 * (n - 1)) (length corners * (4 * (n - 1))) l (subst (λ v. v ≤ length corners * (4 * (n - 1))) (one_more u (4 * (n - 1))) row) number past
  where
    one_more : (a b : ℕ) → (a + 1) * b ≡ a * b + b
    one_more a b = omega arith

    within : (a size whole l : ℕ) → a + size ≤ whole → l < size → 2 ^ 32 ≤ 1 + a + l → 2 ^ 32 ≤ 1 + whole
    within a size whole l le less past = omega arith

pub one_node : (n : ℕ) (corners : List Corner) (t : ℕ) (p : Point) (c : Corner) (u e to : ℕ) → u < length corners → corner_at corners u ≡ c → t ≢ u → IsIndexOf n c p e → to ≡ node_number n (Rim u (rim_number n e)) → IsOtherNode n corners t p c (Some to)
one_node n corners t p c u e to small at other index is = record {
  only = λ height. record { tile = u; small = small; apart = other; index = e; at = subst (λ d. IsIndexOf n d p e) (sym at) index; to = is; level = refl };
  all = λ apart v f v_small v_at v_other v_index.
      let tile : u ≡ v = apart u v small v_small (at ∙ sym v_at) in
      let place : e ≡ f = index_unique n c p e f index v_index in
      is ∙ (ap (λ x. node_number n (Rim x (rim_number n e))) tile ∙ ap (λ x. node_number n (Rim v (rim_number n x))) place);
}

module _ (n : ℕ) (corners : List Corner) (t : ℕ) (p : Point) (height : ℤ) where
  -- the edge to the point's node in the corner's tile is added, if there is one
  pub record AddsOther (c : Corner) (old new : List Edge) : Type 0 where
    pub still : (way : Edge) → Contains old way → Contains new way
    pub only : (way : Edge) → Contains new way → Contains old way ⊎ IsToOther n corners t p height way
    pub listed : AreApart corners → IsOtherListed n corners t p height c new

  pub none_added : (c : Corner) (ways : List Edge) → IsOtherNode n corners t p c None → AddsOther c ways ways
  none_added c ways node = record { still = λ way has. has; only = λ way has. inl has; listed = λ apart u e small at other index. absurd (node.all apart u e small at other index) }

  pub one_added : (c : Corner) (to : ℕ) (old new : List Edge) (way : Edge) → way ≡ record { level = height; to = to } → new ≡ old ++ way ∷ [] → IsOtherNode n corners t p c (Some to) → AddsOther c old new
  one_added c to old new way at is node = record {
    still = still_more old old new way is (λ x has. has);
    only = λ x has. elim (before_or_last old new way x is has) [
      | inl before ↦ inl before
      | inr last ↦ inr (subst (IsToOther n corners t p height) (sym (last ∙ at)) (node.only height))
    ];
    listed = λ apart u e small there other index.
        subst (λ x. Contains new (record { level = height; to = x })) (node.all apart u e small there other index) (subst (λ (w : Edge). Contains new w) at (last_has old new way is));
  }

  -- the edges for the first `count` corners of a list are added
  pub record AddsThose (holding : List Corner) (count : ℕ) (old new : List Edge) : Type 0 where
    pub still : (way : Edge) → Contains old way → Contains new way
    pub only : (way : Edge) → Contains new way → Contains old way ⊎ IsToOther n corners t p height way
    pub listed : AreApart corners → (j : ℕ) (d : Corner) → j < count → IsOtherListed n corners t p height (get_or holding j d) new

  pub one_more_added : (holding : List Corner) (i : ℕ) (item : Corner) (old mid new : List Edge) → i < length holding → item ≡ get_or holding i item → AddsThose holding i old mid → AddsOther item mid new → AddsThose holding (i + 1) old new
  one_more_added holding i item old mid new small is was now = record {
    still = λ way has. now.still way (was.still way has);
    only = λ way has. elim (now.only way has) [ inr more ↦ inr more | inl before ↦ was.only way before ];
    listed = λ apart j d below. elim (cases_lt j i) [
      | inl earlier ↦ λ u e u_small at other index. now.still (record { level = height; to = node_number n (Rim u (rim_number n e)) }) (was.listed apart j d earlier u e u_small at other index)
      | inr later ↦
          let same : i ≡ j = omega arith in
          let this : item ≡ get_or holding j d = is ∙ (get_or_default holding i item d small ∙ ap (λ k. get_or holding k d) same) in
          subst (λ (c : Corner). IsOtherListed n corners t p height c new) this (now.listed apart)
    ];
  }

  pub all_added : (holding : List Corner) (count : ℕ) (old new : List Edge) → length holding ≤ count → ((c : Corner) → Holds n c p → Contains holding c) → AddsThose holding count old new → AddsOthers n corners t p height old new
  all_added holding count old new all exactly added = record {
    still = added.still;
    only = added.only;
    listed = λ apart c u e small at other index.
        let found = exactly c (held_at n c p e index) in
        let inside : found.0 < length holding = found.1 in
        subst (λ (d : Corner). IsOtherListed n corners t p height d new) found.2 (added.listed apart found.0 c (omega arith)) u e small at other index;
  }
