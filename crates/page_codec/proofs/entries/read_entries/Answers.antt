use Rattle.page_codec.proofs.Prelude.{All-push, EntryIsBefore, EntryValue, Follows, IsEntry, List, ℕ, ap, arith, entry_bytes, flat_map, is_all_zero, length, length_push, subst, sym, true, ◌++◌, ◌<◌, ◌∙◌, ◌≡◌}
use Rattle.page_codec.proofs.EntryFields.{length-entry_bytes}
use Rattle.page_codec.proofs.EntryBytes.{one_entry}
use Rattle.page_codec.proofs.Ordered.{no_items, order_push, padded_are, padded_from_parts}
use Rattle.page_codec.proofs.Items.{items_push}
use Rattle.page_codec.proofs.entries.read_entries.Goals as goal

pub returns-in_err-entry-clause-none : goal.returns-in_err-entry-clause-none
returns-in_err-entry-clause-none c =
    let parts = c.loop.invariant.parts ∙ ap (λ (l : List ℕ). flat_map entry_bytes c.loop.entries.items ++ l) c.split_at.ensures.by_index.0 in
    let lt : length c.loop.entries.items < c.args.tiles = omega arith in
    let none : (e : EntryValue) → IsEntry e → Follows EntryIsBefore c.loop.entries.items e → c.split_at.result.0.now ≡ entry_bytes e → ⊥ =
    λ e entry follows spelled. c.in_err-entry.ensures.none e entry (subst (λ (xs : List EntryValue). Follows EntryIsBefore xs e) (sym c.as_slice.ensures.value) follows) spelled in
    rw c.from_residual.ensures (no_items EntryIsBefore entry_bytes IsEntry one_entry 16 length-entry_bytes 3840 c.args.bytes.now c.split_at.result.0.now c.split_at.result.1.now c.loop.entries.items c.args.tiles parts c.loop.invariant.each lt c.split_at.ensures.front_len none)

pub loop-preserved : goal.loop-preserved
loop-preserved c =
    let found = c.in_ok-entry.ensures in
    let follows : Follows EntryIsBefore c.loop.entries.items c.in_ok-entry.entry = subst (λ (xs : List EntryValue). Follows EntryIsBefore xs c.in_ok-entry.entry) c.as_slice.ensures.value found.follows in
    let front = c.split_at.ensures.by_index.0 ∙ ap (λ (l : List ℕ). l ++ c.split_at.result.1.now) found.spelled in
    rw c.push.ensures.items (record {
      len = omega (arith, length_push c.loop.entries.items c.in_ok-entry.entry, c.loop.invariant.len);
      each = All-push IsEntry c.loop.entries.items c.in_ok-entry.entry c.loop.invariant.each found.entry;
      in_order = order_push EntryIsBefore c.loop.entries.items c.in_ok-entry.entry c.loop.invariant.in_order follows;
      parts = items_push entry_bytes c.loop.entries.items c.in_ok-entry.entry c.args.bytes.now c.loop.rest.now c.split_at.result.1.now c.loop.invariant.parts front;
      behind = omega (arith, c.loop.invariant.behind, c.split_at.ensures.back_len);
    })

pub returns-then-is_zero-clause-spelled : goal.returns-then-is_zero-clause-spelled
returns-then-is_zero-clause-spelled c =
    let zero : is_all_zero c.loop.rest.now ≡ true = cc in
    padded_from_parts 3840 c.args.bytes.now (flat_map entry_bytes c.loop.entries.items) c.loop.rest.now c.loop.invariant.parts zero (omega arith)

pub returns-else-is_zero-clause-none : goal.returns-else-is_zero-clause-none
returns-else-is_zero-clause-none c = λ entries count each order spelled.
    let same : length c.loop.entries.items ≡ length entries = omega (arith, c.loop.invariant.len, count) in
    let zero : is_all_zero c.loop.rest.now ≡ true = (padded_are entry_bytes IsEntry one_entry 3840 c.args.bytes.now c.loop.rest.now c.loop.entries.items entries c.loop.invariant.parts c.loop.invariant.each each same spelled).1 in
    cc
