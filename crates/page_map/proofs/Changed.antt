-- Which corners have other tiles staged than committed, one entry after another.
use Rattle.page_map.proofs.Prelude.{Contains, Corner, Entry, Format, FreePages, IfSome, IsSome, List, None, Option, PageMapValue, PlaneLocation, Some, TileEntry, TileLocation, [], ap, append-nil, append_assoc, arith, committed_tile, committed_tiles, cons_option, false≢true, filter_map-append, inl, inr, length, length-append, page_map_of, refl, staged_plane, staged_tile, staged_tiles, subst, suc, sym, tile_of, zero, ◌++◌, ◌+◌, ◌<◌, ◌∙◌, ◌∷◌, ◌≡◌, ◌≤◌}
use Rattle.std.specs.Prelude.{◌⊎◌}
use Rattle.page_map.specs.PageMaps.{ChangesOnlyAt}
use Rattle.std.proofs.lemmas.List.Elements.{Contains-append_cases, Contains-append_left, Contains-append_right, Contains-push}
use Rattle.page_map.proofs.EntryLists.{staged_own}

-- where each plane stays as it is, so does the tile
pub unchanged_tile : (c : Corner) (s : TileEntry) → staged_plane s.heights ≡ s.heights.committed → staged_plane s.levels ≡ s.levels.committed → staged_plane s.labels ≡ s.labels.committed → committed_tile (c, s) ≡ staged_tile (c, s)
unchanged_tile c s heights levels labels =
    ap (λ (o : Option PlaneLocation). tile_of c o s.levels.committed s.labels.committed) (sym heights)
    ∙ (ap (λ (o : Option PlaneLocation). tile_of c (staged_plane s.heights) o s.labels.committed) (sym levels)
    ∙ ap (λ (o : Option PlaneLocation). tile_of c (staged_plane s.heights) (staged_plane s.levels) o) (sym labels))

-- of the entries before those that are left, each staged tile of another corner is a committed one
pub record ChangedSoFar (page_map : PageMapValue) (left : List Entry) (corners : List Corner) : Type 0 where
  pub before : List Entry
  pub committed : committed_tiles (before ++ left) ≡ page_map.committed
  pub staged : staged_tiles (before ++ left) ≡ page_map.staged
  pub few : length corners ≤ length (staged_tiles before)
  pub others : (t : TileLocation) → Contains (staged_tiles before) t → ¬ Contains corners t.corner → Contains (committed_tiles before) t

no_tile : (t : TileLocation) → Contains [] t → ⊥
no_tile t (k, below, here) = absurd (omega (arith, below))

pub none_changed : (format : Format) (entries : List Entry) (free : FreePages) (page_map : PageMapValue) → page_map_of format entries free ≡ page_map → ChangedSoFar page_map entries []
none_changed format entries free page_map view =
    record {
      before = [];
      committed = ap (λ (v : PageMapValue). v.committed) view;
      staged = ap (λ (v : PageMapValue). v.staged) view;
      few = omega arith;
      others = λ t among other. absurd (no_tile t among);
    }

module _ (page_map : PageMapValue) (e : Entry) (rest : List Entry) (corners : List Corner) (so_far : ChangedSoFar page_map (e ∷ rest) corners) where
  abbrev now : List Entry
  now = so_far.before ++ e ∷ []

  split : now ++ rest ≡ so_far.before ++ e ∷ rest
  split = append_assoc so_far.before (e ∷ []) rest

  staged_now : staged_tiles now ≡ staged_tiles so_far.before ++ cons_option (staged_tile e) []
  staged_now = filter_map-append staged_tile so_far.before (e ∷ [])

  committed_now : committed_tiles now ≡ committed_tiles so_far.before ++ cons_option (committed_tile e) []
  committed_now = filter_map-append committed_tile so_far.before (e ∷ [])

  -- a staged tile is one of the earlier ones, or the entry's
  from : (t : TileLocation) → Contains (staged_tiles now) t → Contains (staged_tiles so_far.before) t ⊎ (staged_tile e ≡ Some t)
  from t among =
      elim (Contains-append_cases (staged_tiles so_far.before) (cons_option (staged_tile e) []) t (subst (λ (l : List TileLocation). Contains l t) staged_now among)) [
        | inl earlier ↦ inl earlier
        | inr here ↦ inr (only (staged_tile e) here)
      ]
    where
      only : (o : Option TileLocation) → Contains (cons_option o []) t → o ≡ Some t
      only None (k, below, here) = absurd (omega (arith, below))
      only (Some u) (zero, below, here) = ap Some here
      only (Some u) (suc k, below, here) = absurd (omega (arith, below))

  still : (t : TileLocation) → Contains (committed_tiles so_far.before) t → Contains (committed_tiles now) t
  still t had = subst (λ (l : List TileLocation). Contains l t) (sym committed_now) (Contains-append_left (committed_tiles so_far.before) (cons_option (committed_tile e) []) t had)

  own : (t : TileLocation) → committed_tile e ≡ Some t → Contains (committed_tiles now) t
  own t is =
      subst (λ (l : List TileLocation). Contains l t) (sym committed_now)
      (Contains-append_right (committed_tiles so_far.before) (cons_option (committed_tile e) []) t (subst (λ (o : Option TileLocation). Contains (cons_option o []) t) (sym is) (0, omega arith, refl)))

  corner_is : (t : TileLocation) → staged_tile e ≡ Some t → t.corner ≡ e.0
  corner_is t is = subst (λ (o : Option TileLocation). IfSome o (λ u. u.corner ≡ e.0)) is (staged_own e)

  one_staged : IsSome (staged_tile e) → length (staged_tiles now) ≡ length (staged_tiles so_far.before) + 1
  one_staged some = let long = ap length staged_now in omega (arith, long, length-append (staged_tiles so_far.before) (cons_option (staged_tile e) []), one (staged_tile e) some)
    where
      one : (o : Option TileLocation) → IsSome o → length (cons_option o []) ≡ 1
      one None some = absurd (false≢true some)
      one (Some t) some = refl

  pub next_unchanged : ((t : TileLocation) → staged_tile e ≡ Some t → committed_tile e ≡ Some t) → ChangedSoFar page_map rest corners
  next_unchanged same =
      record {
        before = now;
        committed = ap committed_tiles split ∙ so_far.committed;
        staged = ap staged_tiles split ∙ so_far.staged;
        few = let long = ap length staged_now in omega (arith, long, so_far.few, length-append (staged_tiles so_far.before) (cons_option (staged_tile e) []));
        others = λ t among other. elim (from t among) [
          | inl earlier ↦ still t (so_far.others t earlier other)
          | inr here ↦ own t (same t here)
        ];
      }

  pub next_changed : IsSome (staged_tile e) → ChangedSoFar page_map rest (corners ++ e.0 ∷ [])
  next_changed some =
      record {
        before = now;
        committed = ap committed_tiles split ∙ so_far.committed;
        staged = ap staged_tiles split ∙ so_far.staged;
        few = omega (arith, so_far.few, one_staged some, length-append corners (e.0 ∷ []));
        others = λ t among other. elim (from t among) [
          | inl earlier ↦ still t (so_far.others t earlier (λ had. other (Contains-append_left corners (e.0 ∷ []) t.corner had)))
          | inr here ↦ absurd (other (subst (Contains (corners ++ e.0 ∷ [])) (sym (corner_is t here)) (Contains-push corners e.0)))
        ];
      }

  pub room_for_corner : IsSome (staged_tile e) → length corners < length page_map.staged
  room_for_corner some =
      let all = ap length (ap staged_tiles split ∙ so_far.staged) in
      let parts = ap length (filter_map-append staged_tile now rest) in
      omega (arith, so_far.few, one_staged some, all, parts, length-append (staged_tiles now) (staged_tiles rest))

pub all_changed : (page_map : PageMapValue) (corners : List Corner) → ChangedSoFar page_map [] corners → ChangesOnlyAt corners page_map
all_changed page_map corners done t among other =
    let whole : done.before ++ [] ≡ done.before = append-nil done.before in
    subst (λ (l : List TileLocation). Contains l t) (ap committed_tiles (sym whole) ∙ done.committed)
    (done.others t (subst (λ (l : List TileLocation). Contains l t) (sym (ap staged_tiles (sym whole) ∙ done.staged)) among) other)
