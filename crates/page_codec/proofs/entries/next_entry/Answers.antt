use Rattle.page_codec.proofs.Prelude.{EntryIsBefore, Follows, true, ◌≡◌}
use Rattle.page_codec.proofs.EntryBytes.{not_this}
use Rattle.page_codec.proofs.entries.next_entry.Goals as goal

pub returns-then-not-follows-clause-none : goal.returns-then-not-follows-clause-none
returns-then-not-follows-clause-none c =
    let found = c.in_ok-entry.ensures.found in
    let never : Follows EntryIsBefore c.args.entries.now c.in_ok-entry.entry → ⊥ = λ f. let yes : c.follows.result ≡ true = c.follows.ensures.1 f in cc in
    λ entry rules follows spelled. not_this c.in_ok-entry.entry entry c.args.entries.now c.args.bytes.now found.0 found.1 never rules follows spelled
