-- When an entry names no tile on an image.
use Rattle.std.specs.Prelude.{◌≡◌, ℕ, ◌≤◌, ◌<◌, List, All, Option, IfSome}
use Rattle.disk.specs.Disk.{Image}
use Rattle.page_codec.specs.Entries.{EntryValue}
use Rattle.page_codec.specs.Formats.{Format}
use Rattle.page_codec.specs.Records.{IsRecord, record_bytes}
use Rattle.page_codec.specs.declared.entry.Kept.{Kept}
use Rattle.page_map.specs.declared.locations.KeptLocations.{KeptLocations}
use Rattle.page_map.specs.Locations.{PlaneLocation, pages_of_plane}
use Rattle.page_map.specs.TileLocations.{TileLocation, pages_of_tile, pages_of_kept}
use Rattle.cow_tree.specs.Entries.{entry_of_kept, entry_of}
use Rattle.cow_tree.specs.Layout.{HasRecord, HasRecords, HaveKeptRecords}

-- This page of the disk isn't a valid list of this many page numbers.
abbrev pub NoneListed : ℕ → Image → (page count : ℕ) → Type 0
NoneListed sectors image page count = (pages : List ℕ) → IsRecord count pages → 4 ≤ page → page < sectors → ¬ (image page ≡ record_bytes pages)

-- No plane has these index pages, or they aren't pages of the disk.
abbrev pub NoneIndexed : Format → ℕ → Image → List ℕ → Type 0
NoneIndexed format sectors image index = (plane : PlaneLocation) → plane.index_pages ≡ index → All (λ p. 4 ≤ p) index → All (λ p. p < sectors) index → ¬ HasRecord format image plane

-- No plane on pages of the disk has its record on this page.
abbrev pub NonePlane : Format → ℕ → Image → ℕ → Type 0
NonePlane format sectors image record_page = (plane : PlaneLocation) → plane.record_page ≡ record_page
    → All (λ p. 4 ≤ p) (pages_of_plane plane) → All (λ p. p < sectors) (pages_of_plane plane) → ¬ HasRecord format image plane

-- No kept planes on pages of the disk have these records.
abbrev pub NoneKept : Format → ℕ → Image → Option Kept → Type 0
NoneKept format sectors image kept = (locations : Option KeptLocations) → entry_of_kept locations ≡ kept
    → All (λ p. 4 ≤ p) (pages_of_kept locations) → All (λ p. p < sectors) (pages_of_kept locations) → ¬ IfSome locations (HaveKeptRecords format image)

-- no tile on pages of the disk has this entry
abbrev pub NoTileAt : Format → ℕ → Image → EntryValue → Type 0
NoTileAt format sectors image entry = (t : TileLocation) → entry_of t ≡ entry → All (λ p. 4 ≤ p) (pages_of_tile t) → All (λ p. p < sectors) (pages_of_tile t) → ¬ HasRecords format image t
