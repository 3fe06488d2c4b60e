-- An entry's numbers as its bytes have them.
use Rattle.std.specs.Prelude.{◌≡◌}
use Rattle.page_codec.specs.declared.entry.Fields.{Fields}
use Rattle.page_codec.specs.Entries.{EntryValue, levels_of, labels_of}

pub record AreFieldsOf (f : Fields) (e : EntryValue) : Type 0 where
  pub lat : f.lat ≡ e.corner.lat
  pub lon : f.lon ≡ e.corner.lon
  pub heights : f.heights ≡ e.heights
  pub levels : f.levels ≡ levels_of e.kept
  pub labels : f.labels ≡ labels_of e.kept
