use Rattle.std.proofs.Common.{not, ap, sym, subst, ◌∙◌}
use Rattle.std.specs.Prelude.{Contains}
use Rattle.std.specs.Option.{is_none}
use Rattle.page_codec.specs.Entries.{EntryValue}
use Rattle.derived.specs.Kept.{stale_among}
use Rattle.derived.proofs.KeptTiles.{stale_found}
use Rattle.derived.proofs.stepping.first_stale.Goals as goal

pub returns-then-is_none : goal.returns-then-is_none
returns-then-is_none c =
    subst (λ (e : EntryValue). Contains (stale_among c.args.entries.now) e.corner) (sym c.entry.view_is)
    (stale_found c.args.entries.now c.entry-item.result (c.loop-entry.entry-index, c.loop-entry-test.true, sym c.entry-item.is)
    (ap (λ (e : EntryValue). is_none e.kept) (sym c.entry.view_is) ∙ ap not (c.is_none.ensures ∙ ap not c.if-is_none.true)))
