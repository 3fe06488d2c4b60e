use Rattle.std.proofs.Common.{arith, ◌≡◌, ◌+◌, ℕ, Bool, true, false, filter, length, not, take, ap, sym, ◌∙◌}
use Rattle.std.specs.Option.{is_none}
use Rattle.page_codec.specs.Entries.{EntryValue}
use Rattle.derived.proofs.KeptTiles.{one_counted}
use Rattle.derived.proofs.staleness.count_stale.Goals.{else-is_none, then-is_none}
use Rattle.derived.proofs.staleness.count_stale.Goals as goal

pub loop-entry-preserved : goal.loop-entry-preserved
loop-entry-preserved c =
    let is_stale : EntryValue → Bool = λ e. is_none e.kept in
    let stale_to : ℕ → ℕ = λ n. length (filter is_stale (take n c.args.entries.now)) in
    let i = c.loop-entry.entry-index in
    let next = one_counted c.args.entries.now i c.entry-item.result in
    let before : c.loop-entry.count ≡ stale_to i = c.loop-entry.invariant.0 in
    elim c.if-is_none.branch [
      | then-is_none w ↦ let more : stale_to (i + 1) ≡ stale_to i + 1 = next true c.loop-entry-test.true c.entry-item.is (ap is_stale (sym c.entry.view_is) ∙ ap not (c.is_none.ensures ∙ ap not w.if-is_none.true)) in
          (omega (arith, w.count-is, before, more), omega (arith, c.loop-entry.invariant.1, w.count-is))
      | else-is_none w ↦ let more : stale_to (i + 1) ≡ stale_to i + 0 = next false c.loop-entry-test.true c.entry-item.is (ap is_stale (sym c.entry.view_is) ∙ ap not (c.is_none.ensures ∙ ap not w.if-is_none.false)) in
          (omega (arith, w.count-is, before, more), omega (arith, c.loop-entry.invariant.1, w.count-is))
    ]
