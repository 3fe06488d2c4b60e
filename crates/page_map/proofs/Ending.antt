-- A page map after a commit or a rollback.
use Rattle.page_map.proofs.Prelude.{AllByRecursion, AreBalanced, AreInUse, AsCommitted, Bool, Corner, Format, FreePages, List, None, Option, PageMapValue, PageRange, PlaneEntry, PlaneLocation, Some, TileEntry, TileLocation, ℕ, [], ap, append_assoc, ap₂, arith, cond, cons_option, false, false≢true, filter, filter_map, flat_map, is_some, length, map, refl, subst, sym, times, true, ◌++◌, ◌∙◌, ◌∷◌, ◌≡◌, ◌≤◌}
use Rattle.std.specs.Map.Calls.{RetainsPairs}
use Rattle.lattice.proofs.Rising.{rising_from, adjacent_from, rising-filter}
use Rattle.page_map.specs.declared.plane_entry.Ending.{Ending}
use Rattle.page_map.specs.declared.plane_entry.Ending.TheVariants.{Committed, RolledBack}
use Rattle.page_map.specs.PlaneEntries.{ended_plane, pages_at}
use Rattle.page_map.specs.TileEntries.{committed_tile, committed_tiles, ended_entry, ended_page_map, ended_planes, fresh_kept_by, page_map_of, staged_tile, staged_tiles, tile_of, used_by, AreCounted, AreTogether, Entry, IsKept, IsSound, IsSoundPlane}
use Rattle.page_map.proofs.Times.{times-append}
use Rattle.page_map.proofs.EntryLists.{corner_of, counted_change, entry_in_use, rising_map}

-- ---- one entry after another
-- The pages of the entries so far have been freed, and the other entries remain.
pub record IsGivenBack (ending : Ending) (entries rest : List Entry) (free : FreePages) : Type 0 where
  pub passed : List Entry
  pub all : passed ++ map (ended_entry ending) rest ≡ map (ended_entry ending) entries
  pub counted : AreCounted (passed ++ rest) free

module _ (ending : Ending) (entries : List Entry) (e : Entry) (rest : List Entry) (free : FreePages) (so_far : IsGivenBack ending entries (e ∷ rest) free) where
  pub next_in_use : AreInUse (used_by e) free
  next_in_use = entry_in_use so_far.passed e rest free so_far.counted

  pub given_next : (now : FreePages) → AreBalanced (used_by e) (used_by (ended_entry ending e)) free now → IsGivenBack ending entries rest now
  given_next now balanced = record {
    passed = so_far.passed ++ ended_entry ending e ∷ [];
    all = append_assoc so_far.passed (ended_entry ending e ∷ []) (map (ended_entry ending) rest) ∙ so_far.all;
    counted = subst (λ (l : List Entry). AreCounted l now) (sym (append_assoc so_far.passed (ended_entry ending e ∷ []) rest)) (counted_change so_far.passed e rest free so_far.counted (ended_entry ending e) now balanced);
  }

-- ---- the entries that remain
abbrev pub is_left : Entry → Bool
is_left e = is_some e.1.heights.committed

-- the result of a closure that ends each entry and answers whether it remains
pub ended_left : {F : Type 0} (T : F → Corner → TileEntry → Bool → TileEntry → F → Type 0) (ending : Ending) (f : F)
    → ((c : Corner) (s : TileEntry) (b : Bool) (w : TileEntry) (g : F) → T f c s b w g → (b ≡ is_left (c, w)) × (w ≡ ended_planes ending s) × (g ≡ f))
    → (entries left : List Entry) → RetainsPairs T f entries left → left ≡ filter is_left (map (ended_entry ending) entries)
ended_left T ending f each [] left r = r
ended_left T ending f each (e ∷ rest) left r =
    let told = each e.0 e.1 r.0 r.1 r.2 r.4 in
    let after = ended_left T ending f each rest r.3 (subst (λ u. RetainsPairs T u rest r.3) told.2 r.5) in
    r.6
    ∙ (ap (λ b. cond b ((e.0, r.1) ∷ r.3) r.3) (told.0 ∙ ap (λ (x : TileEntry). is_left (e.0, x)) told.1)
    ∙ ap₂ (λ (x : TileEntry) (l : List Entry). cond (is_left (ended_entry ending e)) ((e.0, x) ∷ l) l) told.1 after)

no_tile : (c : Corner) (h l m : Option PlaneLocation) → is_some h ≡ false → None ≡ tile_of c h l m
no_tile c None l m none = refl
no_tile c (Some h) l m none = absurd (false≢true (sym none))

no_pages : (h l m : Option PlaneLocation) → is_some h ≡ false → AreTogether h l m → (pages_at h ++ []) ++ ((pages_at l ++ []) ++ (pages_at m ++ [])) ≡ []
no_pages None None None none together = refl
no_pages None None (Some m) none together = absurd together
no_pages None (Some l) None none together = absurd together
no_pages None (Some l) (Some m) none together = absurd together
no_pages (Some h) l m none together = absurd (false≢true (sym none))

module _ (ending : Ending) where
  abbrev ended : Entry → Entry
  ended s = ended_entry ending s

  abbrev ended_tile : Entry → Option TileLocation
  ended_tile s = committed_tile (ended_entry ending s)

  together : (format : Format) (s : Entry) → IsSound format s → AreTogether (ended_plane ending s.1.heights) (ended_plane ending s.1.levels) (ended_plane ending s.1.labels)
  together format s sound = by ending
    where
      by : (e : Ending) → AreTogether (ended_plane e s.1.heights) (ended_plane e s.1.levels) (ended_plane e s.1.labels)
      by Committed = sound.staged
      by RolledBack = sound.committed

  sound_ended : (format : Format) (e : PlaneEntry) → IsSoundPlane format e → IsSoundPlane format (record { committed = ended_plane ending e; staged = AsCommitted })
  sound_ended format e sound = by ending
    where
      by : (w : Ending) → IsSoundPlane format (record { committed = ended_plane w e; staged = AsCommitted })
      by Committed = record { committed = sound.staged; staged = sound.staged }
      by RolledBack = record { committed = sound.committed; staged = sound.committed }

  -- The entries without a committed tile have no tile and no pages afterwards.
  left_tiles : (tile : Entry → Option TileLocation) → ((s : Entry) → tile (ended s) ≡ ended_tile s) → (entries : List Entry) → filter_map tile (filter is_left (map ended entries)) ≡ filter_map ended_tile entries
  left_tiles tile same [] = refl
  left_tiles tile same (s ∷ rest) = by (is_left (ended s)) refl (left_tiles tile same rest)
    where
      by : (b : Bool) → is_left (ended s) ≡ b → filter_map tile (filter is_left (map ended rest)) ≡ filter_map ended_tile rest
          → filter_map tile (cond b (ended s ∷ filter is_left (map ended rest)) (filter is_left (map ended rest))) ≡ cons_option (ended_tile s) (filter_map ended_tile rest)
      by true here later = ap (λ (o : Option TileLocation). cons_option o (filter_map tile (filter is_left (map ended rest)))) (same s) ∙ ap (cons_option (ended_tile s)) later
      by false here later = later ∙ ap (λ (o : Option TileLocation). cons_option o (filter_map ended_tile rest)) (no_tile s.0 (ended_plane ending s.1.heights) (ended_plane ending s.1.levels) (ended_plane ending s.1.labels) here)

  left_pages : (format : Format) (p : ℕ) (entries : List Entry) → AllByRecursion (IsSound format) entries → times p (flat_map used_by (filter is_left (map ended entries))) ≡ times p (flat_map used_by (map ended entries))
  left_pages format p [] sound = refl
  left_pages format p (s ∷ rest) sound = by (is_left (ended s)) refl (left_pages format p rest sound.1)
    where
      by : (b : Bool) → is_left (ended s) ≡ b → times p (flat_map used_by (filter is_left (map ended rest))) ≡ times p (flat_map used_by (map ended rest))
          → times p (flat_map used_by (cond b (ended s ∷ filter is_left (map ended rest)) (filter is_left (map ended rest)))) ≡ times p (used_by (ended s) ++ flat_map used_by (map ended rest))
      by true here later =
          omega (arith, later, times-append p (used_by (ended s)) (flat_map used_by (filter is_left (map ended rest))), times-append p (used_by (ended s)) (flat_map used_by (map ended rest)))
      by false here later =
          later ∙ ap (λ (l : List ℕ). times p (l ++ flat_map used_by (map ended rest))) (sym (no_pages (ended_plane ending s.1.heights) (ended_plane ending s.1.levels) (ended_plane ending s.1.labels) here (together format s sound.0)))

  left_kept : (entries : List Entry) → flat_map fresh_kept_by (filter is_left (map ended entries)) ≡ []
  left_kept [] = refl
  left_kept (s ∷ rest) = elim (is_left (ended s)) as (λ b. flat_map fresh_kept_by (cond b (ended s ∷ filter is_left (map ended rest)) (filter is_left (map ended rest))) ≡ []) [
    | true ↦ left_kept rest
    | false ↦ left_kept rest
  ]

  left_sound : (format : Format) (entries : List Entry) → AllByRecursion (IsSound format) entries → AllByRecursion (IsSound format) (filter is_left (map ended entries))
  left_sound format [] sound = tt
  left_sound format (s ∷ rest) sound = by (is_left (ended s)) refl (left_sound format rest sound.1)
    where
      by : (b : Bool) → is_left (ended s) ≡ b → AllByRecursion (IsSound format) (filter is_left (map ended rest)) → AllByRecursion (IsSound format) (cond b (ended s ∷ filter is_left (map ended rest)) (filter is_left (map ended rest)))
      by true here later = (
        record {
          corner = sound.0.corner;
          heights = sound_ended format s.1.heights sound.0.heights;
          levels = sound_ended format s.1.levels sound.0.levels;
          labels = sound_ended format s.1.labels sound.0.labels;
          committed = together format s sound.0;
          staged = together format s sound.0;
        },
        later,
      )
      by false here later = later

  module _ (format : Format) (entries : List Entry) (free now : FreePages) (is : IsKept format entries free) (same_range : now.range ≡ free.range) (counted : AreCounted (map ended entries) now) where
    abbrev left : List Entry
    left = filter is_left (map ended entries)

    room : length (filter_map ended_tile entries) ≤ format.capacity
    room = by ending
      where
        by : (e : Ending) → length (filter_map (λ s. committed_tile (ended_entry e s)) entries) ≤ format.capacity
        by Committed = is.staged_room
        by RolledBack = is.committed_room

    pub kept_left : IsKept format left now
    kept_left = record {
      fits = rw same_range is.fits;
      window = rw same_range is.window;
      few = is.few;
      in_order = adjacent_from corner_of left (rising-filter corner_of is_left (map ended entries) (rising_map ended corner_of entries (rising_from corner_of entries is.in_order)));
      sound = left_sound format entries is.sound;
      committed_room = rw (left_tiles committed_tile (λ s. refl) entries) room;
      staged_room = rw (left_tiles staged_tile (λ s. refl) entries) room;
      kept_room = (let none = ap length (left_kept entries) in omega (arith, none));
      counted = λ p. omega (arith, counted p, left_pages format p entries is.sound);
    }

    pub page_map_left : page_map_of format left now ≡ ended_page_map ending (page_map_of format entries free)
    page_map_left =
        let page_map : PageRange → List TileLocation → List TileLocation → PageMapValue = λ r a b. record { sectors = r.sectors; format = format; committed = a; staged = b } in
        ap (λ r. page_map r (committed_tiles left) (staged_tiles left)) same_range
        ∙ (ap (λ a. page_map free.range a (staged_tiles left)) (left_tiles committed_tile (λ s. refl) entries)
        ∙ (ap (λ b. page_map free.range (filter_map ended_tile entries) b) (left_tiles staged_tile (λ s. refl) entries)
        ∙ by ending))
      where
        by : (e : Ending)
            → record { sectors = free.range.sectors; format = format; committed = filter_map (λ s. committed_tile (ended_entry e s)) entries; staged = filter_map (λ s. committed_tile (ended_entry e s)) entries }
            ≡ ended_page_map e (page_map_of format entries free)
        by Committed = refl
        by RolledBack = refl
