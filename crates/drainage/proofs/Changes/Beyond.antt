-- Results for a tile that no change reaches stay, change after change.
use Rattle.drainage.proofs.Prelude.{All-get_or, All-weaker, AreSparing, Corner, IsHeldAt, IsRight, IsSpared, IsSparedBy, IsUnchanged, KeepsSummary, LabellingCache, List, Mosaic, NewHeight, Point, RimGraph, TileCache, ℕ, ℤ, ap, ap₂, are_noted, are_right, are_sparing, both_ways, corner_at, false, false_from_ne_true, get_or, holds, inl, inr, is_between, is_reached, length, level_of, levels_pass, loaded_at, ltb-true, or_parts, reaches, refl, subst, sym, true, ◌<◌, ◌∙◌, ◌≡◌}
use Rattle.std.specs.Prelude.{◌↔◌, ◌⊎◌, All, Option, Some, None, nat_lt, not}
use Rattle.drainage.specs.Beyond.{are_kept_from, are_kept_beyond, are_levels_kept}
use Rattle.levels.proofs.Caches.Growing.{known_by}
use Rattle.levels.proofs.Changes.Reached.{at_itself}
use Rattle.levels.proofs.Changes.Unreached.{itself_unreached}

none_some : {A : Type 0} (a : A) → ◌≡◌ {A = Option A} None (Some a) → ⊥
none_some a e = cc

-- two options with the same values are equal
same_there : {A : Type 0} (a b : Option A) → ((x : A) → (b ≡ Some x → a ≡ Some x) × (a ≡ Some x → b ≡ Some x)) → a ≡ b
same_there None None same = refl
same_there (Some x) None same = absurd (none_some x ((same x).1 refl))
same_there None (Some x) same = absurd (none_some x ((same x).0 refl))
same_there (Some x) (Some y) same = (same y).0 refl

kept_there : {A : Type 0} (a b : Option A) (Stays : Type 0) → ((x : A) → a ≡ Some x ↔ ((b ≡ Some x) × Stays)) → Stays → a ≡ b
kept_there a b Stays left out = same_there a b (λ x. ((λ is. (left x).1 (is, out)), (λ is. ((left x).0 is).0)))

module _ (n : ℕ) (corners : List Corner) (p : Point) (t : ℕ) (out : is_reached n corners p p t ≡ false) where
  parts : (not (nat_lt t (length corners)) ≡ false) × (reaches n (corner_at corners t) p p ≡ false)
  parts = or_parts (not (nat_lt t (length corners))) (reaches n (corner_at corners t) p p) out

  place : t < length corners
  place = ltb-true t (length corners) (not_false (nat_lt t (length corners)) parts.0)
    where
      not_false : (b : _) → not b ≡ false → b ≡ true
      not_false true e = refl
      not_false false e = cc

  not_held : holds n (corner_at corners t) p ≡ false
  not_held = false_from_ne_true (holds n (corner_at corners t) p) (λ held.
      both_ways (is_between p p p) (itself_unreached n (corner_at corners t) p p parts.1 p held) (at_itself p))

kept_by_noted : (h : NewHeight) (held left : Option TileCache) → are_noted h held left → are_kept_from h.point held left
kept_by_noted h None left is = tt
kept_by_noted h (Some tile_cache) left (some, at, is) = λ t out. (
  some,
  at,
  record {
    same_side = is.same_side;
    same_corners = is.same_corners;
    loaded = kept_there _ _ (KeepsSummary tile_cache.rim_graph.side tile_cache.rim_graph.corners.items tile_cache.labellings.held.items h t) (is.loaded t) (inl out);
    labellings = is.labellings t (place tile_cache.rim_graph.side tile_cache.rim_graph.corners.items h.point t out) (not_held tile_cache.rim_graph.side tile_cache.rim_graph.corners.items h.point t out);
  },
)

pub all_kept : (heights : List NewHeight) (held : Option TileCache) → are_kept_beyond heights held held
all_kept heights None = tt
all_kept heights (Some tile_cache) = λ t beyond. (tile_cache, refl, record { same_side = refl; same_corners = refl; loaded = refl; labellings = λ l. ((λ at. at), (λ at. at)) })

-- ---- levels that no height can change

pub all_levels_kept : (heights : List NewHeight) (held : Option TileCache) → are_levels_kept heights held held
all_levels_kept heights None = tt
all_levels_kept heights (Some tile_cache) = λ x level at spared. (tile_cache, refl, at)

-- the first step drops the levels that some height may change
module _ (heights : List NewHeight) where
  pub levels_spared : (m : Mosaic) (held left : Option TileCache) → are_sparing heights held left → are_right m held → are_right m left
  levels_spared m None left spared right = subst (are_right m) (sym spared) tt
  levels_spared m (Some tile_cache) left (some, at, is) right = subst (are_right m) (sym at)
      (subst (IsRight m) (ap₂ (λ (g : RimGraph) (l : LabellingCache). known_by g l some.levels) (sym is.rim_graph) (sym is.labellings))
      (record { ready = right.ready; labellings = right.labellings; levels = λ x level had. right.levels x level ((is.levels x level).0 had).0 }))

  pub tiles_kept : (held left : Option TileCache) → are_sparing heights held left → are_kept_beyond heights held left
  tiles_kept None left spared = tt
  tiles_kept (Some tile_cache) left (some, at, is) = λ t beyond. (
    some,
    at,
    record {
      same_side = ap (λ (g : RimGraph). g.side) is.rim_graph;
      same_corners = ap (λ (g : RimGraph). g.corners.items) is.rim_graph;
      loaded = ap (λ (g : RimGraph). loaded_at g.loaded.items t) is.rim_graph;
      labellings = λ l. (subst (λ (c : LabellingCache). IsHeldAt c.held.items t l) is.labellings, subst (λ (c : LabellingCache). IsHeldAt c.held.items t l) (sym is.labellings));
    },
  )

  pub levels_kept : (held left : Option TileCache) → are_sparing heights held left → are_levels_kept heights held left
  levels_kept None left spared = tt
  levels_kept (Some tile_cache) left (some, at, is) = λ x level had spared. (some, at, (is.levels x level).1 (had, spared))

  pub all_pass : (held left : Option TileCache) → are_sparing heights held left → levels_pass (AreSparing heights) left
  all_pass None left spared = subst (levels_pass (AreSparing heights)) (sym spared) tt
  all_pass (Some tile_cache) left (some, at, is) = subst (levels_pass (AreSparing heights)) (sym at) (λ x level had. ((is.levels x level).0 had).1)

  -- if no height changes, no level is affected
  pub all_unchanged : (held : Option TileCache) → All IsUnchanged heights → levels_pass (AreSparing heights) held
  all_unchanged None all = tt
  all_unchanged (Some tile_cache) all = λ x level had. All-weaker IsUnchanged (IsSparedBy level) (λ h same. inl same) heights all

  -- after a height is recorded, no height of the list affects a remaining level
  pub pass_still : (h : NewHeight) (held left : Option TileCache) → are_noted h held left → levels_pass (AreSparing heights) held → levels_pass (AreSparing heights) left
  pass_still h None left noted pass = subst (levels_pass (AreSparing heights)) (sym noted) tt
  pass_still h (Some tile_cache) left (some, at, is) pass = subst (levels_pass (AreSparing heights)) (sym at) (λ x level had. pass x level (ap (λ (l : List (Option ℤ)). level_of l x) (sym is.same_levels) ∙ had))

  pub levels_kept_still : (h : NewHeight) (first held left : Option TileCache) → are_noted h held left → are_levels_kept heights first held → are_levels_kept heights first left
  levels_kept_still h None held left noted before = tt
  levels_kept_still h (Some tile_cache) held left noted before = λ x level at spared.
      let was = before x level at spared in
      let now = subst (λ (o : Option TileCache). are_noted h o left) was.1 noted in
      (now.0, now.1, ap (λ (l : List (Option ℤ)). level_of l x) now.2.same_levels ∙ was.2)

  -- a height of the list affects none of the remaining levels
  pub spared_by : (i : ℕ) (h : NewHeight) (held : Option TileCache) → i < length heights → h ≡ get_or heights i h → (IsUnchanged h → ⊥) → levels_pass (AreSparing heights) held → levels_pass (IsSpared h.was h.metres) held
  spared_by i h None below is_h changes pass = tt
  spared_by i h (Some tile_cache) below is_h changes pass = λ x level at.
      elim (subst (IsSparedBy level) (sym is_h) (All-get_or (IsSparedBy level) heights i h below (pass x level at))) [
        | inl same ↦ absurd (changes same)
        | inr spared ↦ spared
      ]

-- setting the next height keeps the results for tiles that no height reaches
pub one_kept : (heights : List NewHeight) (i : ℕ) (h : NewHeight) (first held left : Option TileCache) → i < length heights → h ≡ get_or heights i h → (IsUnchanged h → ⊥)
    → are_noted h held left → are_kept_beyond heights first held → are_kept_beyond heights first left
one_kept heights i h None held left below is_h changes noted before = tt
one_kept heights i h (Some tile_cache) held left below is_h changes noted before = λ t beyond.
    let n = tile_cache.rim_graph.side in
    let corners = tile_cache.rim_graph.corners.items in
    let was = before t beyond in
    let out : is_reached n corners h.point h.point t ≡ false =
    elim (subst (λ (k : NewHeight). IsUnchanged k ⊎ (is_reached n corners k.point k.point t ≡ false)) (sym is_h) (All-get_or (λ (k : NewHeight). IsUnchanged k ⊎ (is_reached n corners k.point k.point t ≡ false)) heights i h below beyond)) [
      | inl same ↦ absurd (changes same)
      | inr out ↦ out
    ] in
    let still = subst (λ (o : Option TileCache). are_kept_from h.point o left) was.1 (kept_by_noted h held left noted) in
    let now = still t (ap (λ (s : ℕ). is_reached s was.0.rim_graph.corners.items h.point h.point t) was.2.same_side ∙ (ap (λ (cs : List Corner). is_reached n cs h.point h.point t) was.2.same_corners ∙ out)) in (
      now.0,
      now.1,
      record {
        same_side = now.2.same_side ∙ was.2.same_side;
        same_corners = now.2.same_corners ∙ was.2.same_corners;
        loaded = now.2.loaded ∙ was.2.loaded;
        labellings = λ l. ((λ at. (was.2.labellings l).0 ((now.2.labellings l).0 at)), (λ at. (now.2.labellings l).1 ((was.2.labellings l).1 at)));
      },
    )
