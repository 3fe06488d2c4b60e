-- Why an entry names no tile: the record of one of its planes isn't valid.
use Rattle.cow_tree.proofs.Prelude.{All, All-head, EntryValue, Format, HasRecord, Image, IsRecord, Kept, NoTileAt, None, NoneKept, NoneListed, NonePlane, One, PlaneLocation, Some, Two, Version, ℕ, ap, length, listed_by, pages_behind, pages_of_kept, pages_of_plane, subst, sym, ◌<◌, ◌^◌, ◌∙◌, ◌≡◌, ◌≤◌}
use Rattle.page_codec.specs.Sizes.{pages_of, index_pages_by, listed_in, listed_by as count_listed}
use Rattle.cow_tree.proofs.Standing.{All-front, All-back}

-- a whole plane's record lists as many numbers as its format says
listed_length : (v : Version) (side : ℕ) (p : PlaneLocation) → length p.index_pages ≡ index_pages_by v (pages_of side) → length p.pages ≡ pages_of side → length (listed_by v p) ≡ count_listed v (pages_of side)
listed_length One side p index pages = pages
listed_length Two side p index pages = index

listed_low : (v : Version) (p : PlaneLocation) → All (λ q. q < 2 ^ 32) (pages_behind p) → All (λ q. q < 2 ^ 32) (listed_by v p)
listed_low One p each = All-back (λ q. q < 2 ^ 32) p.index_pages p.pages each
listed_low Two p each = All-front (λ q. q < 2 ^ 32) p.index_pages p.pages each

pub is_listed : (format : Format) (image : Image) (p : PlaneLocation) → HasRecord format image p → IsRecord (listed_in format) (listed_by format.version p)
is_listed format image p has = record {
  len = listed_length format.version format.side p has.whole.index_pages has.whole.pages;
  each = listed_low format.version p has.each;
}

module _ (format : Format) (sectors : ℕ) (image : Image) where
  -- The plane's record lists nothing valid.
  pub none_listed : (record_page : ℕ) → NoneListed sectors image record_page (listed_in format) → NonePlane format sectors image record_page
  none_listed record_page none plane at low high has =
      none (listed_by format.version plane) (is_listed format image plane has)
      (subst (λ (p : ℕ). 4 ≤ p) at (All-head (λ p. 4 ≤ p) plane.record_page (pages_behind plane) low))
      (subst (λ (p : ℕ). p < sectors) at (All-head (λ p. p < sectors) plane.record_page (pages_behind plane) high))
      (ap image (sym at) ∙ has.listed)

  pub no_levels : (kept : Kept) → NonePlane format sectors image kept.levels → NoneKept format sectors image (Some kept)
  no_levels kept none None e low high has = cc
  no_levels kept none (Some k) e low high has =
      let same : record { levels = k.levels.record_page; labels = k.labels.record_page } ≡ kept = cc in
      let at : k.levels.record_page ≡ kept.levels = ap (λ (x : Kept). x.levels) same in
      none k.levels at
      (All-front (λ p. 4 ≤ p) (pages_of_plane k.levels) (pages_of_plane k.labels) low)
      (All-front (λ p. p < sectors) (pages_of_plane k.levels) (pages_of_plane k.labels) high)
      has.levels

  pub no_labels : (kept : Kept) → NonePlane format sectors image kept.labels → NoneKept format sectors image (Some kept)
  no_labels kept none None e low high has = cc
  no_labels kept none (Some k) e low high has =
      let same : record { levels = k.levels.record_page; labels = k.labels.record_page } ≡ kept = cc in
      let at : k.labels.record_page ≡ kept.labels = ap (λ (x : Kept). x.labels) same in
      none k.labels at
      (All-back (λ p. 4 ≤ p) (pages_of_plane k.levels) (pages_of_plane k.labels) low)
      (All-back (λ p. p < sectors) (pages_of_plane k.levels) (pages_of_plane k.labels) high)
      has.labels

  pub no_heights : (entry : EntryValue) → NonePlane format sectors image entry.heights → NoTileAt format sectors image entry
  no_heights entry none t e low high has =
      let at : t.heights.record_page ≡ entry.heights = ap (λ (x : EntryValue). x.heights) e in
      none t.heights at
      (All-front (λ p. 4 ≤ p) (pages_of_plane t.heights) (pages_of_kept t.kept) low)
      (All-front (λ p. p < sectors) (pages_of_plane t.heights) (pages_of_kept t.kept) high)
      has.heights

  pub no_kept : (entry : EntryValue) → NoneKept format sectors image entry.kept → NoTileAt format sectors image entry
  no_kept entry none t e low high has =
      none t.kept (ap (λ (x : EntryValue). x.kept) e) (All-back (λ p. 4 ≤ p) (pages_of_plane t.heights) (pages_of_kept t.kept) low) (All-back (λ p. p < sectors) (pages_of_plane t.heights) (pages_of_kept t.kept) high) has.kept
