-- The fields of an entry: what the parts of its bytes spell, and that bytes spell one entry only.
use Rattle.page_codec.proofs.Prelude.{Damaged, FitsSigned, List, None, Option, Some, ℕ, ℤ, [], ap, arith, ints, length, ok_or, refl, sym, w16, ◌++◌, ◌<◌, ◌^◌, ◌∙◌, ◌≡◌}
use Rattle.std.specs.Prelude.{IsTrue, IfSome, IfNone, Result, Ok}
use Rattle.std.proofs.lemmas.List.{nil_from_length, length-append}
use Rattle.lattice.specs.Corners.{Corner, is_corner}
use Rattle.page_codec.specs.Numbers.{i16_bytes, u32_bytes}
use Rattle.page_codec.specs.declared.entry.Kept.{Kept}
use Rattle.page_codec.specs.Entries.{EntryValue, IsEntry, AreKept, field_bytes, entry_bytes, levels_of, labels_of}
use Rattle.page_codec.specs.declared.entry.Fields.{Fields}
use Rattle.page_codec.specs.Fields.{AreFieldsOf}
use Rattle.page_codec.proofs.Fields.{same_i16, same_u32, length-i16_bytes, length-u32_bytes}

-- the fields of an entry fit their bytes
pub lat_fits : (c : Corner) → IsTrue (is_corner c) → FitsSigned w16 c.lat
lat_fits c corner = record { sfits = grind (arith, ints, corner) }

pub lon_fits : (c : Corner) → IsTrue (is_corner c) → FitsSigned w16 c.lon
lon_fits c corner = record { sfits = grind (arith, ints, corner) }

pub levels_fit : (kept : Option Kept) → IfSome kept AreKept → levels_of kept < 2 ^ 32
levels_fit None kept = omega arith
levels_fit (Some k) kept = kept.levels.1

pub labels_fit : (kept : Option Kept) → IfSome kept AreKept → labels_of kept < 2 ^ 32
labels_fit None kept = omega arith
labels_fit (Some k) kept = kept.labels.1

-- Equal bytes have equal fields.
pub same_fields : (f : Fields) (e : EntryValue) → FitsSigned w16 f.lat → FitsSigned w16 f.lon → f.heights < 2 ^ 32 → f.levels < 2 ^ 32 → f.labels < 2 ^ 32 → IsEntry e
    → field_bytes f.lat f.lon f.heights f.levels f.labels ≡ entry_bytes e → AreFieldsOf f e
unfolding field_bytes
same_fields f e lat lon heights levels labels entry same =
    let a = same_i16 f.lat e.corner.lat _ _ lat (lat_fits e.corner entry.corner) same in
    let b = same_i16 f.lon e.corner.lon _ _ lon (lon_fits e.corner entry.corner) a.1 in
    let c = same_u32 f.heights e.heights _ _ heights entry.heights.1 b.1 in
    let d = same_u32 f.levels (levels_of e.kept) _ _ levels (levels_fit e.kept entry.kept) c.1 in
    let g = same_u32 f.labels (labels_of e.kept) _ _ labels (labels_fit e.kept entry.kept) d.1 in
    record { lat = a.0; lon = b.0; heights = c.0; levels = d.0; labels = g.0 }

abbrev fields_of : EntryValue → Fields
fields_of e = record { lat = e.corner.lat; lon = e.corner.lon; heights = e.heights; levels = levels_of e.kept; labels = labels_of e.kept }

same_places : (a b : Corner) → a.lat ≡ b.lat → a.lon ≡ b.lon → a ≡ b
same_places a b lat lon = ap (λ (z : ℤ). let p : Corner = record { lat = z; lon = a.lon } in p) lat ∙ ap (λ (z : ℤ). let p : Corner = record { lat = b.lat; lon = z } in p) lon

same_pages : (k l : Kept) → k.levels ≡ l.levels → k.labels ≡ l.labels → k ≡ l
same_pages k l levels labels = ap (λ (n : ℕ). let p : Kept = record { levels = n; labels = k.labels } in p) levels ∙ ap (λ (n : ℕ). let p : Kept = record { levels = l.levels; labels = n } in p) labels

same_kept : (a b : Option Kept) → IfSome a AreKept → IfSome b AreKept → levels_of a ≡ levels_of b → labels_of a ≡ labels_of b → a ≡ b
same_kept None None p q levels labels = refl
same_kept None (Some l) p q levels labels = absurd (omega (arith, q.levels.0))
same_kept (Some k) None p q levels labels = absurd (omega (arith, p.levels.0))
same_kept (Some k) (Some l) p q levels labels = ap (λ (x : Kept). Some x) (same_pages k l levels labels)

-- bytes spell one entry only
pub same_entry : (a b : EntryValue) → IsEntry a → IsEntry b → entry_bytes a ≡ entry_bytes b → a ≡ b
same_entry a b p q same =
    let s = same_fields (fields_of a) b (lat_fits a.corner p.corner) (lon_fits a.corner p.corner) p.heights.1 (levels_fit a.kept p.kept) (labels_fit a.kept p.kept) q same in
    let corner : a.corner ≡ b.corner = same_places a.corner b.corner s.lat s.lon in
    let kept : a.kept ≡ b.kept = same_kept a.kept b.kept p.kept q.kept s.levels s.labels in
    ap (λ (x : Corner). let e : EntryValue = record { corner = x; heights = a.heights; kept = a.kept } in e) corner
    ∙ ap (λ (n : ℕ). let e : EntryValue = record { corner = b.corner; heights = n; kept = a.kept } in e) s.heights
    ∙ ap (λ (k : Option Kept). let e : EntryValue = record { corner = b.corner; heights = b.heights; kept = k } in e) kept

-- If no entry has these fields, no entry has these bytes.
pub none_spelled : (found : Option EntryValue) (bytes : List ℕ) (f : Fields) → FitsSigned w16 f.lat → FitsSigned w16 f.lon → f.heights < 2 ^ 32 → f.levels < 2 ^ 32 → f.labels < 2 ^ 32
    → bytes ≡ field_bytes f.lat f.lon f.heights f.levels f.labels
    → IfNone found ((e : EntryValue) → IsEntry e → AreFieldsOf f e → ⊥)
    → IfNone found ((e : EntryValue) → IsEntry e → bytes ≡ entry_bytes e → ⊥)
none_spelled (Some e) bytes f lat lon heights levels labels spelled none = tt
none_spelled None bytes f lat lon heights levels labels spelled none = λ e entry same. none e entry (same_fields f e lat lon heights levels labels entry (sym spelled ∙ same))

-- The entry found is the one with these bytes.
pub found_spelled : (found : Option EntryValue) (bytes : List ℕ) (damaged : Damaged)
    → IfSome found (λ e. IsEntry e × (bytes ≡ entry_bytes e)) → IfNone found ((e : EntryValue) → IsEntry e → bytes ≡ entry_bytes e → ⊥)
    → (e : EntryValue) → IsEntry e → bytes ≡ entry_bytes e → ok_or found damaged ≡ Ok e
found_spelled (Some x) bytes damaged found none e entry same = ap (λ (y : EntryValue). let r : Result EntryValue Damaged = Ok y in r) (same_entry x e found.0 entry (sym found.1 ∙ same))
found_spelled None bytes damaged found none e entry same = absurd (none e entry same)

pub length-entry_bytes : (e : EntryValue) → length (entry_bytes e) ≡ 16
unfolding field_bytes
length-entry_bytes e = simp (length-append, length-i16_bytes, length-u32_bytes) refl
