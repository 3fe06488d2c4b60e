use Rattle.store.proofs.Prelude.{Calls, Event, Ghosts, Image, IsCall, List, Reply, Runs, Store, ℕ, [], ap, arith, length, members, subst, sym, take, take_all, true, vec_capacity, vec_len, ◌++◌, ◌+◌, ◌<◌, ◌∙◌, ◌∷◌, ◌≡◌, ◌≤◌}
use Rattle.std.proofs.lemmas.List.{append_assoc}
use Rattle.std.specs.Result.{is_ok}
use Rattle.engine.proofs.Chains.{asked_more, last_more, step_more}
use Rattle.store.proofs.Calls.Runs.{ran, known_then}
use Rattle.store.proofs.store.Store.run.Goals as goal

pub loop-event-preserved : goal.loop-event-preserved
loop-event-preserved g c =
    let l = c.loop-event in
    let i = l.event-index in
    let events = c.args.events.now in
    let room = l.invariant.0 in
    let replies = l.invariant.1.0 in
    let so_far = l.invariant.1.1 in
    let below = c.loop-event-test.true in
    let spare : vec_len l.out < vec_capacity l.out = omega (arith, room, below) in
    let pushed : is_ok c.push.result ≡ true = c.push.ensures.succeeds spare in
    let out = c.push.new.self in
    let len : vec_len out ≡ vec_len l.out + 1 = grind (arith, pushed, c.push.ensures.len) in
    let items : out.items ≡ l.out.items ++ c.answer-reply.result ∷ [] = grind (arith, pushed, c.push.ensures.items) in
    let capacity = c.push.ensures.capacity in
    let event = c.event-item.result in
    let old = c.args.self.now in
    let new = c.answer-reply.new.self in
    let stores = so_far.1.0 in
    let steps = step_more (IsCall (members g.D.Disk)) l.self new event c.answer-reply.result old (take i events) replies stores so_far.1.1.0 so_far.1.1.1 c.answer-reply.ensures in (
      omega (arith, room, len, capacity),
      (
        replies ++ c.answer-reply.result ∷ [],
        (
          items ∙ ap (λ (rs : List Reply). rs ++ c.answer-reply.result ∷ []) so_far.0 ∙ append_assoc c.args.out.now.items replies (c.answer-reply.result ∷ []),
          subst (λ (es : List Event). Calls (IsCall (members g.D.Disk)) old es (replies ++ c.answer-reply.result ∷ []) new) (sym (asked_more events i event below c.event-item.is))
              (stores ++ new ∷ [], (last_more (IsCall (members g.D.Disk)) l.self new event c.answer-reply.result old stores, steps)),
        ),
      ),
    )

-- At the end all events were answered.
all_run : {D : Type 0} (g : Ghosts D) → ((disk : D) (image : Image) → g.honest disk → g.since disk (g.moment disk) image → g.may disk image) → (old new : Store D g) (events : List Event) (i : ℕ) (replies : List Reply)
    → length events ≤ i → Calls (IsCall (members g)) old (take i events) replies new → Runs g old new events replies
all_run g only_now old new events i replies ended calls = ran g only_now old new events replies (subst (λ (es : List Event). Calls (IsCall (members g)) old es replies new) (take_all i events ended) calls)

pub returns-clause-ran : goal.returns-clause-ran
returns-clause-ran g c =
    let l = c.loop-event in
    let so_far = l.invariant.1 in
    (so_far.0, so_far.1.0, all_run g.D.Disk g.met.D.Disk.only_now c.args.self.now l.self c.args.events.now l.event-index so_far.0 c.loop-event-test.false so_far.1.1)

pub returns-clause-size : goal.returns-clause-size
returns-clause-size g c = let l = c.loop-event in let so_far = l.invariant.1 in (known_then g.D.Disk c.args.self.now l.self c.args.events.now so_far.0 (all_run g.D.Disk g.met.D.Disk.only_now c.args.self.now l.self c.args.events.now l.event-index so_far.0 c.loop-event-test.false so_far.1.1)).0

pub returns-clause-later : goal.returns-clause-later
returns-clause-later g c = let l = c.loop-event in let so_far = l.invariant.1 in (known_then g.D.Disk c.args.self.now l.self c.args.events.now so_far.0 (all_run g.D.Disk g.met.D.Disk.only_now c.args.self.now l.self c.args.events.now l.event-index so_far.0 c.loop-event-test.false so_far.1.1)).1

pub returns-clause-honest : goal.returns-clause-honest
returns-clause-honest g c = let l = c.loop-event in let so_far = l.invariant.1 in (known_then g.D.Disk c.args.self.now l.self c.args.events.now so_far.0 (all_run g.D.Disk g.met.D.Disk.only_now c.args.self.now l.self c.args.events.now l.event-index so_far.0 c.loop-event-test.false so_far.1.1)).2
