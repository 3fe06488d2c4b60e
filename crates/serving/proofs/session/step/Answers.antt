use Rattle.std.proofs.Common.{rules, ◌≡◌, ◌≢◌, [], ◌∷◌, ◌++◌, Some, inl, inr, refl, sym, ◌∙◌, subst}
use Rattle.std.specs.Prelude.{option_map}
use Rattle.std.specs.Io.KnownBytes.{IsAtEnd}
use Rattle.std.proofs.KnownBytes.{Appends-nil}
use Rattle.std.proofs.lemmas.Bool.{both_ways}
use Rattle.lines.specs.declared.source.Extent.{Extent}
use Rattle.lines.specs.declared.source.Extent.TheVariants.{Whole, Cut}
use Rattle.lines.specs.Ahead.{IsNear, Lookahead, Taken}
use Rattle.lines.specs.Grammar.{AskQuit}
use Rattle.lines.specs.Requests.{asked}
use Rattle.serving.specs.Items.{Item, IsItem, spelled}
use Rattle.serving.specs.Served.{Replies}
use Rattle.serving.specs.Session.{Holds}
use Rattle.serving.proofs.OutputLemmas.{begun, put_whole}
use Rattle.serving.proofs.SessionLemmas.{item_taken, begun_taken, ends_none, ends_last, ends_reading, goes_on, one_reply, whole_fed}
use Rattle.serving.proofs.session.step.Goals as goal
use Rattle.serving.proofs.session.step.Goals.{After-respond-reply, After-is_last, then-is_last, else-is_last}

-- the item that was read
item_read : (g : _) (c : After-is_last g)
    → (i : Item) × Holds c.args.language c.in-Ok-read_item.item i × (i.fed ≡ c.in-Ok.fed) × Taken c.args.ahead.now (g.R.Read.remaining c.args.reader.now) c.read_item.new.ahead (g.R.Read.remaining c.read_item.new.reader) (spelled i)
item_read g c =
    let line = c.in-Ok.ensures.ok in
    let some : c.in-Ok.fed ≡ Cut → line.0 ≢ [] = λ cut empty. both_ways c.is_over.result c.if-is_over.false ((c.is_over.ensures line.0 line.2).1 (cut, empty)) in
    let found = c.in-Ok-read_item.ensures.ok line.0 line.2 line.1 some in
    (found.0, found.1, found.3, item_taken _ _ _ found.0 line.0 c.in-Ok.fed found.2 found.3 line.3 found.4)

-- and its reply
replied : (g : _) (c : After-respond-reply g) (i : Item) → Holds c.args.language c.in-Ok-read_item.item i → Replies g.A.Responder.responded c.args.responder.now (i ∷ []) c.respond-reply.result (c.respond-reply.new.self ∷ [])
replied g c i held = one_reply g.A.Responder.responded c.args.responder.now i c.respond-reply.result c.respond-reply.new.self (c.respond-reply.ensures c.args.language i held)

pub returns-then-is_over-clause-calls : goal.returns-then-is_over-clause-calls
returns-then-is_over-clause-calls g c =
    let line = c.in-Ok.ensures.ok in
    let over = (c.is_over.ensures line.0 line.2).0 c.if-is_over.true in
    let none : c.read_line.new.ahead.bytes ≡ [] = search rules in
    let end : IsAtEnd (g.R.Read.remaining c.read_line.new.reader) = search rules in
    ([], (refl, ([], [], ends_none c.args.language c.read_line.new.ahead.bytes _ _ (rw (over.1, over.0) at line.3) none end, Appends-nil _, refl)))

pub returns-in_default-read_item-clause-calls : goal.returns-in_default-read_item-clause-calls
returns-in_default-read_item-clause-calls g c =
    let line = c.in-Ok.ensures.ok in
    let fault = c.in_default-read_item.ensures.err in
    let begun = fault.1 line.0 line.2 in
    ([], (refl, (line.0 ++ (10 ∷ begun.0), inr (line.0, begun.0, begun.1, line.1, begun.2, begun.3, refl), begun_taken _ _ _ line.0 begun.0 (rw fault.0 at line.3) begun.4, Appends-nil _, refl)))

pub respond-reply-requires : goal.respond-reply-requires
respond-reply-requires g c =
    let (i, held, fed, taken) = item_read g (goal.at.respond-reply-requires g c).After-is_last in
    (c.args.language, i, held)

pub returns-then-has_failed-clause-calls : goal.returns-then-has_failed-clause-calls
returns-then-has_failed-clause-calls g c =
    let at = goal.at.returns-then-has_failed-clause-calls g c in
    let (i, held, fed, taken) = item_read g at.After-is_last in
    let reply = replied g at.After-respond-reply i held in
    let wrote = begun (g.O.Output.stream c.args.writer.now) (g.O.Output.stream c.put_reply.new.self) c.respond-reply.result c.put_reply.ensures in (
      c.respond-reply.new.self ∷ [],
      (refl, (i, c.in-Ok-read_item.item.extent, c.respond-reply.result, wrote.0, held.item, taken, wrote.1, reply)),
    )

pub returns-clause-calls : goal.returns-clause-calls
returns-clause-calls g c =
    let at = goal.at.returns-clause-calls g c in
    let (i, held, fed, taken) = item_read g at.After-is_last in
    let reply = replied g at.After-respond-reply i held in
    let wrote = (put_whole (g.O.Output.stream c.args.writer.now) (g.O.Output.stream c.put_reply.new.self) c.respond-reply.result c.put_reply.ensures
    (λ failed. both_ways c.has_failed.result c.if-has_failed.false (c.has_failed.ensures.1 failed))).whole in (
      c.respond-reply.new.self ∷ [],
      (
        refl,
        elim c.if-is_last.branch [
          | then-is_last w ↦ rw w.next-is (i ∷ [], c.respond-reply.result, ends_last c.args.language _ _ _ i _ _ taken held.asked held.item c.in-Ok-read_item.ensures.cut (c.is_last.ensures.0 w.if-is_last.true), wrote, reply)
          | else-is_last w ↦ rw w.next-is (i, c.respond-reply.result, goes_on c.args.language i _ _ held.asked held.item (λ last. both_ways c.is_last.result w.if-is_last.false (c.is_last.ensures.1 last)), taken, wrote, reply)
        ],
      ),
    )

pub returns-clause-end : goal.returns-clause-end
returns-clause-end g c ended =
    let (i, held, fed_is, taken) = item_read g (goal.at.returns-clause-end g c).After-is_last in
    let near : i.fed ≡ Whole → option_map asked c.in-Ok-read_item.item.request ≡ Some AskQuit → IsNear c.read_item.new.ahead.bytes = λ whole quit.
    let fed : c.in-Ok.fed ≡ Whole = sym fed_is ∙ whole in
    subst (λ (a : Lookahead). IsNear a.bytes) (sym (c.in-Ok-read_item.ensures.quit fed quit).0) (c.in-Ok.ensures.rest (cc)).near in
    elim c.if-is_last.branch [
      | then-is_last w ↦ ends_reading c.args.language _ _ _ i _ _ taken held.asked held.item c.in-Ok-read_item.ensures.cut near (c.is_last.ensures.0 w.if-is_last.true)
      | else-is_last w ↦ absurd (let more = w.next-is in cc)
    ]

-- An item that isn't cut short is whole.
uncut : (extent : Extent) → extent ≢ Cut → extent ≡ Whole
uncut Whole not_cut = refl
uncut Cut not_cut = absurd (not_cut refl)

pub returns-clause-rest : goal.returns-clause-rest
returns-clause-rest g c more =
    let (i, held, fed_is, taken) = item_read g (goal.at.returns-clause-rest g c).After-is_last in
    elim c.if-is_last.branch [
      | then-is_last w ↦ absurd (let end = w.next-is in cc)
      | else-is_last w ↦
          let whole = uncut c.in-Ok-read_item.item.extent (λ cut. both_ways c.is_last.result w.if-is_last.false (c.is_last.ensures.1 (inl cut))) in
          let fed : c.in-Ok.fed ≡ Whole = sym fed_is ∙ whole_fed c.args.language i (subst (λ (e : Extent). IsItem c.args.language e i) whole held.item) in
          c.in-Ok-read_item.ensures.rest whole (c.in-Ok.ensures.rest (cc))
    ]
