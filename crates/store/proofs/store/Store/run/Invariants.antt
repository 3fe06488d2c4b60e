use Rattle.store.proofs.Prelude.{Calls, IsCall, List, Reply, length, members, take, vec_capacity, vec_len, ◌++◌, ◌+◌, ◌≡◌, ◌≤◌}
use Rattle.store.proofs.store.Store.run.Given as goal

-- There is room for the remaining replies, and those so far are the store's.
abbrev pub invariant-loop-event : goal.invariant-loop-event
invariant-loop-event g l =
    (vec_len l.out + length l.events ≤ vec_capacity l.out + l.event-index)
    × ((replies : List Reply) × ((l.out.items ≡ l.fn.out.items ++ replies) × Calls (IsCall (members g.D.Disk)) l.fn.self (take l.event-index l.events) replies l.self))
