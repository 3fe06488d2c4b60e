use Rattle.std.proofs.Common.{◌++◌, List, [], ◌∷◌, Err, ⊎_elim, inl, inr, refl, ap, ◌∙◌, subst}
use Rattle.disk.specs.Faulty.{inner_of}
use Rattle.disk.specs.MemDisk.{state_of, calls_of}
use Rattle.disk.specs.Memory.{MayLeave}
use Rattle.disk.specs.Record.{seen_left, now_left, only_left}
use Rattle.disk.specs.declared.memory.MemDisk.{MemDisk}
use Rattle.engine.specs.declared.event.Reply.{Reply}
use Rattle.store.specs.Accepted.{none_asked}
use Rattle.store.specs.Sessions.{Unopened, Ended}
use Rattle.store.specs.Stores.{disk_of}
use Rattle.memory_store.proofs.SessionCalls.{in_turn, refused_last}
use Rattle.memory_store.proofs.two_sessions.run_two_sessions.Goals as goal

pub returns-in-Ok-clause-accepted : goal.returns-in-Ok-clause-accepted
returns-in-Ok-clause-accepted c =
    let first = c.in_ok-between.ensures.cut_off in
    let second = c.in_ok-after.ensures.cut_off in
    let opened = inner_of (disk_of c.in-Ok.opened) in
    let left = (c.in-Ok.ensures.nothing tt).run.now (state_of opened).seen (seen_left (calls_of opened)) in (
      first.0,
      second.0,
      c.in_ok-between.between,
      c.in_ok-after.after,
      second.1 ∙ ap (λ (l : List Reply). l ++ second.0) first.1,
      first.2,
      second.2,
      record {
        read = second.2.cut.settled (state_of opened).seen (subst (λ (d : MemDisk). MayLeave (state_of d) (state_of opened).seen) c.new.ensures.inner left);
        next = c.new.result;
        is = c.new.ensures.inner;
        finds = λ side capacity was holds.
            in_turn first.2 second.2
            (record { honest = λ disk. tt; may = λ disk image may. may; may_be = λ disk image may. may; size = λ disk. refl; counts_now = λ disk t image honest le now. now_left (calls_of (inner_of disk)) t image le now; only_now = λ disk image honest left. only_left (calls_of (inner_of disk)) image left })
            side capacity was holds (Ended c.new.result c.in-Ok.opened []) c.new.ensures.inner (c.in-Ok.ensures, tt);
      },
    )

pub returns-in-Err-clause-sure : goal.returns-in-Err-clause-sure
returns-in-Err-clause-sure c side capacity was holds =
    let first = c.in_ok-between.ensures.cut_off in
    let second = c.in_ok-after.ensures.cut_off in
    let last = Unopened c.new.result (Err c.in-Err.not_opened) in
    let finds = in_turn first.2 second.2
    (record { honest = λ disk. tt; may = λ disk image may. may; may_be = λ disk image may. may; size = λ disk. refl; counts_now = λ disk t image honest le now. now_left (calls_of (inner_of disk)) t image le now; only_now = λ disk image honest left. only_left (calls_of (inner_of disk)) image left })
    side capacity was holds last c.new.ensures.inner c.in-Err.ensures in
    ⊎_elim (λ fault. inl fault.0) (λ memory. inr memory) (refused_last _ side capacity was [] none_asked (first.2.session ∷ second.2.session ∷ []) c.new.result c.in-Err.not_opened finds)
