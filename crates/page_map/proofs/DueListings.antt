-- A listing page of a staged plane is reached by committed tiles if it is the committed plane's, and otherwise by none.
use Rattle.page_map.proofs.Prelude.{AsCommitted, Bool, Corner, Dropped, Entry, Format, FreePages, Fresh, HasPlaneAt, Heights, IsKept, IsSoundPlane, IsWholePlane, Labels, Levels, List, Plane, PlaneEntry, PlaneLocation, Staged, TileEntry, ℕ, ap, arith, cases_eq, committed_tile, committed_tiles, differing, false, fresh_pages, get_or, inl, inr, is_unreached, length, listing_of, named_plane, not, page_if, pages_behind, planes_at, reached, refl, staged_tiles, subst, suc, sym, times, true, zero, ◌++◌, ◌+◌, ◌<◌, ◌∙◌, ◌∷◌, ◌≡◌, ◌≤◌}
use Rattle.std.specs.Prelude.{Option, Some, None, IfSome, Contains, slice_get}
use Rattle.std.proofs.lemmas.List.{get_or_append_left, length-append}
use Rattle.std.proofs.lemmas.Option.{same_Some, slice_get_within, slice_get-get_or, get_or_from_slice_get}
use Rattle.page_map.specs.PlaneEntries.{behind_at, fresh_as, fresh_in, listed_at, pages_at, staged_as, staged_plane}
use Rattle.page_map.proofs.Times.{has_at, one-self, times-append, member_of_times, differing-has}
use Rattle.page_map.proofs.EntryLists.{fresh_parts, pages_of_location, reached_all, tile_times, times-split}
use Rattle.page_map.proofs.EntryChanges.{entry_fresh}
use Rattle.page_map.proofs.Listing.{any_none, any_some}
use Rattle.page_map.proofs.Lookup.{there}
use Rattle.page_map.proofs.AtEntry.{kept_there, plane_at, sound, split}

-- ---- a listing page is one of the plane's pages
listing_page : (i page : ℕ) (o : Option PlaneLocation) → listed_at i o ≡ Some page → 1 ≤ times page (pages_at o)
listing_page i page None is = cc
listing_page i page (Some p) is =
    let below = slice_get_within (listing_of p) i page is in
    let there : 1 ≤ times page (listing_of p) = subst (λ (q : ℕ). 1 ≤ times q (listing_of p)) (get_or_from_slice_get (listing_of p) i page 0 is) (has_at (listing_of p) i 0 below) in
    omega (arith, there, times-append page (listing_of p) p.pages)

-- ---- a listing page that isn't the committed plane's is fresh
other_page : (format : Format) (l : PlaneLocation) (o : Option PlaneLocation) (i page : ℕ) → IsWholePlane format l → IfSome o (IsWholePlane format)
    → slice_get (listing_of l) i ≡ Some page → (listed_at i o ≡ Some page → ⊥) → 1 ≤ times page (fresh_as o (Fresh l))
other_page format l o zero page whole was listed other = (let here : l.record_page ≡ page = same_Some l.record_page page listed in subst (λ (q : ℕ). 1 ≤ times q (fresh_as o (Fresh l))) here (omega (arith, one-self l.record_page)))
other_page format l o (suc j) page whole was listed other =
    let below = slice_get_within l.index_pages j page listed in
    let is_page : get_or (pages_behind l) j 0 ≡ page = get_or_append_left l.index_pages l.pages 0 j below ∙ get_or_from_slice_get l.index_pages j page 0 listed in
    let there : 1 ≤ times (get_or (pages_behind l) j 0) (differing (pages_behind l) (behind_at o)) =
    differing-has (pages_behind l) (behind_at o) j (omega (arith, below, length-append l.index_pages l.pages)) (λ within alike. apart o was other within (sym alike ∙ is_page)) in
    let here : 1 ≤ times page (differing (pages_behind l) (behind_at o)) = subst (λ (q : ℕ). 1 ≤ times q (differing (pages_behind l) (behind_at o))) is_page there in
    omega (arith, here)
  where
    apart : (q : Option PlaneLocation) → IfSome q (IsWholePlane format) → (listed_at (suc j) q ≡ Some page → ⊥) → j < length (behind_at q) → get_or (behind_at q) j 0 ≡ page → ⊥
    apart None was other within here = absurd (omega (arith, within))
    apart (Some p) was other within here =
        let inside : j < length p.index_pages = omega (arith, slice_get_within l.index_pages j page listed, whole.index_pages, was.index_pages) in
        other (slice_get-get_or p.index_pages j 0 inside ∙ ap Some (sym (get_or_append_left p.index_pages p.pages 0 j inside) ∙ here))

fresh_there : (format : Format) (i page : ℕ) (e : PlaneEntry) → IsSoundPlane format e → listed_at i (staged_plane e) ≡ Some page → (listed_at i e.committed ≡ Some page → ⊥) → 1 ≤ times page (fresh_in e)
fresh_there format i page e sound listed apart = by e.staged sound.staged listed
  where
    by : (g : Staged) → IfSome (staged_as e.committed g) (IsWholePlane format) → listed_at i (staged_as e.committed g) ≡ Some page → 1 ≤ times page (fresh_as e.committed g)
    by AsCommitted whole listed = absurd (apart listed)
    by Dropped whole listed = cc
    by (Fresh l) whole listed = other_page format l e.committed i page whole sound.committed listed apart

module _ (format : Format) (entries : List Entry) (free : FreePages) (kept : IsKept format entries free) (c : Corner) (s : TileEntry) (found : planes_at c entries ≡ Some s) (plane : Plane) where
  abbrev before : List Entry
  before = (there c entries s found).before

  abbrev after : List Entry
  after = (there c entries s found).after

  own : (q : Plane) → IsSoundPlane format (named_plane q s)
  own Heights = (sound format entries free kept c s found).heights
  own Levels = (sound format entries free kept c s found).levels
  own Labels = (sound format entries free kept c s found).labels

  named_committed : (page : ℕ) (q : Plane) → times page (pages_at (named_plane q s).committed) ≤ times page (pages_of_location (committed_tile (c, s)))
  named_committed page q = by q (tile_times page c s.heights.committed s.levels.committed s.labels.committed (sound format entries free kept c s found).committed)
    where
      by : (q : Plane) → times page (pages_of_location (committed_tile (c, s))) ≡ times page (pages_at s.heights.committed) + (times page (pages_at s.levels.committed) + times page (pages_at s.labels.committed))
          → times page (pages_at (named_plane q s).committed) ≤ times page (pages_of_location (committed_tile (c, s)))
      by Heights all = omega (arith, all)
      by Levels all = omega (arith, all)
      by Labels all = omega (arith, all)

  named_fresh : (page : ℕ) (q : Plane) → times page (fresh_in (named_plane q s)) ≤ times page (fresh_pages s)
  named_fresh page Heights = omega (arith, fresh_parts page s)
  named_fresh page Levels = omega (arith, fresh_parts page s)
  named_fresh page Labels = omega (arith, fresh_parts page s)

  reached_there : (page : ℕ) → 1 ≤ times page (pages_of_location (committed_tile (c, s))) → is_unreached (committed_tiles entries) page ≡ false
  reached_there page there =
      let whole = ap (λ (l : List Entry). times page (reached (committed_tiles l))) (split format entries free kept c s found) ∙ ap (times page) (reached_all committed_tile (before ++ (c, s) ∷ after)) in
      let some : 1 ≤ times page (reached (committed_tiles entries)) = omega (arith, there, whole, times-split (λ (x : Entry). pages_of_location (committed_tile x)) page before (c, s) after) in
      ap not (any_some (reached (committed_tiles entries)) page (member_of_times (reached (committed_tiles entries)) page some))

  unreached_there : (page : ℕ) → 1 ≤ times page (fresh_pages s) → is_unreached (committed_tiles entries) page ≡ true
  unreached_there page some =
      ap not (any_none (reached (committed_tiles entries)) page
      (subst (λ (l : List Entry). Contains (reached (committed_tiles l)) page → ⊥) (sym (split format entries free kept c s found))
      (entry_fresh format before (c, s) after free (kept_there format entries free kept c s found) page some).unreached))

  pub page_due : (i : ℕ) (location : PlaneLocation) → HasPlaneAt (staged_tiles entries) c plane location → i < length (listing_of location) → (result : Option ℕ)
      → (listed_at i (named_plane plane s).committed ≡ listed_at i (staged_plane (named_plane plane s)) → result ≡ None)
      → ((listed_at i (named_plane plane s).committed ≡ listed_at i (staged_plane (named_plane plane s)) → ⊥) → result ≡ listed_at i (staged_plane (named_plane plane s)))
      → result ≡ page_if (is_unreached (committed_tiles entries) (get_or (listing_of location) i 0)) (get_or (listing_of location) i 0)
  page_due i location there below result same other =
      let page : ℕ = get_or (listing_of location) i 0 in
      let staged : listed_at i (staged_plane (named_plane plane s)) ≡ Some page = ap (listed_at i) (plane_at format entries free kept c s found plane location there) ∙ slice_get-get_or (listing_of location) i 0 below in
      by page (listed_at i (named_plane plane s).committed) refl staged
    where
      fresh_page : (page : ℕ) → listed_at i (staged_plane (named_plane plane s)) ≡ Some page → (listed_at i (named_plane plane s).committed ≡ Some page → ⊥) → result ≡ page_if (is_unreached (committed_tiles entries) page) page
      fresh_page page staged apart =
          let fresh = fresh_there format i page (named_plane plane s) (own plane) staged apart in
          other (λ e. apart (e ∙ staged)) ∙ staged ∙ ap (λ (v : Bool). page_if v page) (sym (unreached_there page (omega (arith, fresh, named_fresh page plane))))

      by : (page : ℕ) (q : Option ℕ) → listed_at i (named_plane plane s).committed ≡ q → listed_at i (staged_plane (named_plane plane s)) ≡ Some page → result ≡ page_if (is_unreached (committed_tiles entries) page) page
      by page None was staged = fresh_page page staged (λ e. (let no : None ≡ Some page = sym was ∙ e in cc))
      by page (Some p) was staged = elim (cases_eq p page) [
        | inl alike ↦
            let committed : listed_at i (named_plane plane s).committed ≡ Some page = was ∙ ap Some alike in
            let there = listing_page i page (named_plane plane s).committed committed in
            same (committed ∙ sym staged) ∙ ap (λ (v : Bool). page_if v page) (sym (reached_there page (omega (arith, there, named_committed page plane))))
        | inr unlike ↦ fresh_page page staged (λ e. unlike (same_Some p page (sym was ∙ e)))
      ]
