-- How a root names tiles: by entries, which say where the records of their planes are.
use Rattle.std.specs.Prelude.{◌≡◌, List, Contains, Option, Some, None}
use Rattle.page_codec.specs.Entries.{EntryValue}
use Rattle.page_codec.specs.declared.entry.Kept.{Kept}
use Rattle.page_map.specs.declared.locations.KeptLocations.{KeptLocations}
use Rattle.page_map.specs.PageMaps.{PageMapValue}
use Rattle.page_map.specs.TileLocations.{TileLocation}

abbrev pub entry_of_kept : Option KeptLocations → Option Kept
entry_of_kept None = None
entry_of_kept (Some k) = Some (record { levels = k.levels.record_page; labels = k.labels.record_page })

abbrev pub entry_of : TileLocation → EntryValue
entry_of t = record { corner = t.corner; heights = t.heights.record_page; kept = entry_of_kept t.kept }

-- each of the entries is that of its corner's committed tile, if the corner has one
abbrev pub NameCommitted : List EntryValue → PageMapValue → Type 0
NameCommitted entries page_map = (e : EntryValue) → Contains entries e → (t : TileLocation) → Contains page_map.committed t → t.corner ≡ e.corner → e ≡ entry_of t
