-- Entries one after another, in their order.
use Rattle.page_codec.proofs.Prelude.{EntryIsBefore, EntryValue, Follows, IsEntry, List, ℕ, entry_bytes, flat_map, length, subst, sym, ◌*◌, ◌∙◌, ◌≡◌}
use Rattle.page_codec.proofs.Fields.{same_fronts}
use Rattle.page_codec.proofs.EntryFields.{same_entry, length-entry_bytes}
use Rattle.page_codec.proofs.Items.{SpellsOne, length_items}

pub one_entry : SpellsOne entry_bytes IsEntry
one_entry = record {
  same = λ a b x y p q e.
      let s = same_fronts (entry_bytes a) (entry_bytes b) x y (length-entry_bytes a ∙ sym (length-entry_bytes b)) e in
      (same_entry a b p q s.0, s.1);
}

-- If an entry may not come next, no entry with the same bytes may.
pub not_this : (a b : EntryValue) (xs : List EntryValue) (bytes : List ℕ) → IsEntry a → bytes ≡ entry_bytes a → (Follows EntryIsBefore xs a → ⊥) → IsEntry b → Follows EntryIsBefore xs b → bytes ≡ entry_bytes b → ⊥
not_this a b xs bytes p spelled never q follows same =
    let e = same_entry b a q p (sym same ∙ spelled) in
    never (subst (λ (x : EntryValue). Follows EntryIsBefore xs x) e follows)

pub length_entries : (entries : List EntryValue) → length (flat_map entry_bytes entries) ≡ 16 * length entries
length_entries entries = length_items entry_bytes 16 length-entry_bytes entries
